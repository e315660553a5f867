use Rattle.std.proofs.Common.{ℕ, ◌≤◌, ◌<◌}
use Rattle.define_searches.specs.Weights.{at, units_from}
use Rattle.panel_search.proofs.UnitsBeside.{IsLevel}
use Rattle.panel_search.proofs.units.greatest_sum.Given as goal

abbrev pub invariant-loop-i : goal.invariant-loop-i
invariant-loop-i l = (j : ℕ) → l.place ≤ j → j < l.i → IsLevel (units_from l.classes l.entries l.place) l.count (at l.entries j) → ⊥
