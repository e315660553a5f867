use Rattle.std.proofs.Common.{◌≡◌, false, take}
use Rattle.define_pools.specs.Lists.{includes_list}
use Rattle.define_draws.specs.Lines.{member_ids}
use Rattle.office_tables.proofs.drawn.is_member.Given as goal

-- no member read so far has the id
abbrev pub invariant-loop-i : goal.invariant-loop-i
invariant-loop-i l = includes_list (member_ids l.pool (take l.i-index l.i-items)) l.id ≡ false
