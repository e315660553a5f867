use Rattle.std.proofs.Common.{◌≡◌, take}
use Rattle.define_offices.specs.Steps.{without_id}
use Rattle.office_tables.proofs.kept_rounds.without.Given as goal

abbrev pub invariant-loop-name : goal.invariant-loop-name
invariant-loop-name l = l.others.items ≡ without_id l.id (take l.name-index l.names)
