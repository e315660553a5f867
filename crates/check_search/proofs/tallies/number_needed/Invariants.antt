use Rattle.std.proofs.Common.{ℕ, ◌≤◌, ◌<◌}
use Rattle.check_search.specs.Tallies.{OneFails}
use Rattle.check_search.proofs.tallies.number_needed.Given as goal

abbrev pub invariant-loop-category : goal.invariant-loop-category
invariant-loop-category l = (l.least ≤ l.needed) × ((count : ℕ) → count < l.needed → l.least ≤ count → OneFails l.bounds l.held l.later l.values count)
