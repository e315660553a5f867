use Rattle.std.proofs.Common.{◌≡◌, true, take}
use Rattle.std.specs.List.{list_all}
use Rattle.define_pools.specs.Lists.{includes_list}
use Rattle.define_draws.specs.Lines.{member_ids}
use Rattle.office_tables.proofs.checking.are_members.Given as goal

abbrev pub invariant-loop-id : goal.invariant-loop-id
invariant-loop-id l = list_all (includes_list (member_ids l.pool l.panel)) (take l.id-index l.ids) ≡ true
