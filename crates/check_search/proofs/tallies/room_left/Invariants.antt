use Rattle.std.proofs.Common.{ℕ, List, ◌≤◌, ◌<◌}
use Rattle.check_search.specs.Tallies.{OneFails}
use Rattle.check_search.proofs.tallies.room_left.Given as goal

abbrev pub invariant-loop-category : goal.invariant-loop-category
invariant-loop-category l = (l.room ≤ l.most) × ((count : ℕ) (later : List ℕ) → l.room < count → count ≤ l.most → OneFails l.bounds l.held later l.values count)
