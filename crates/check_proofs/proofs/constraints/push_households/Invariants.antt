use Rattle.std.proofs.Common.{◌≡◌, ◌++◌, map, take}
use Rattle.check_proofs.specs.Kept.{household_row}
use Rattle.check_proofs.proofs.constraints.push_households.Given as goal

-- the constraints of the households so far are added
abbrev pub invariant-loop-number : goal.invariant-loop-number
invariant-loop-number l = l.rows.items ≡ l.initial.rows.items ++ map (household_row l.households) (take l.number-index l.number-items)
