use Rattle.std.proofs.Common.{◌<◌, ℕ}
use Rattle.std.specs.Prelude.{IsTrue, slice_index}
use Rattle.define_searches.specs.declared.Bounds.{Bounds}
use Rattle.define_searches.specs.Tallies.{HasBound, reaches}
use Rattle.check_search.proofs.tallies.values_allow.Given as goal

abbrev pub invariant-loop-category : goal.invariant-loop-category
invariant-loop-category l =
    (c : ℕ) (bound : Bounds) → c < l.category → HasBound l.bounds c (slice_index l.values c) bound → IsTrue (reaches bound l.held l.later l.count c (slice_index l.values c))
