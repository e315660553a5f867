use Rattle.std.proofs.Common.{◌≡◌, ℕ, ◌<◌, true, Some}
use Rattle.std.specs.Prelude.{slice_get, int_le}
use Rattle.define_rows.specs.Row.{Row}
use Rattle.define_searches.specs.Fronts.{optimistic}
use Rattle.panel_search.proofs.live.attains_each.Given as goal

abbrev pub invariant-loop-row : goal.invariant-loop-row
invariant-loop-row l = (i : ℕ) (row : Row) → i < l.row-index → slice_get l.closed i ≡ Some row → int_le row.b (optimistic l.classes row l.front) ≡ true
