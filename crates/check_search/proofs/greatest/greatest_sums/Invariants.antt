use Rattle.std.proofs.Common.{◌≡◌, ℕ, ◌+◌, length}
use Rattle.define_searches.specs.Weights.{AreGreatest, HoldsSums, units_from}
use Rattle.check_search.proofs.greatest.greatest_sums.Given as goal

abbrev pub invariant-loop-later : goal.invariant-loop-later
invariant-loop-later l = record {
  same : length l.sums.items ≡ l.classes.size + 1;
  units : (place : ℕ) → l.later + place ≡ length l.classes.classes → l.units ≡ length (units_from l.classes l.entries place);
  greatest : (place : ℕ) → l.later + place ≡ length l.classes.classes → AreGreatest (units_from l.classes l.entries place) l.sums.items;
  table : HoldsSums l.classes l.entries (l.later + 1) l.table.items;
}
