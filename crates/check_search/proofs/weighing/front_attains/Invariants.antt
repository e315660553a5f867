use Rattle.std.proofs.Common.{◌≡◌, ℕ, ◌<◌, true, Some}
use Rattle.std.specs.Prelude.{slice_get, int_le}
use Rattle.define_rows.specs.Row.{Row}
use Rattle.define_searches.specs.Fronts.{optimistic}
use Rattle.check_search.proofs.weighing.front_attains.Given as goal

abbrev pub invariant-loop-r : goal.invariant-loop-r
invariant-loop-r l = (i : ℕ) (row : Row) → i < l.r → slice_get l.closed i ≡ Some row → int_le row.b (optimistic l.classes row l.front) ≡ true
