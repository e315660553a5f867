use Rattle.std.proofs.Common.{ℕ, ◌<◌, ◌≤◌}
use Rattle.std.specs.Prelude.{unsigned_abs}
use Rattle.define_searches.specs.Weights.{at}
use Rattle.engine_tests.proofs.small_classes.is_small.Given as goal

abbrev pub invariant-loop-entry : goal.invariant-loop-entry
invariant-loop-entry l = (t : ℕ) → t < l.entry-index → unsigned_abs (at l.row.a t) ≤ 1000000000
