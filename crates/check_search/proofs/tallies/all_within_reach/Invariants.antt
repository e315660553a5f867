use Rattle.std.proofs.Common.{◌<◌, ℕ}
use Rattle.std.specs.Prelude.{IsTrue}
use Rattle.define_searches.specs.declared.Bounds.{Bounds}
use Rattle.define_searches.specs.Tallies.{HasBound, reaches}
use Rattle.check_search.proofs.tallies.all_within_reach.Given as goal

abbrev pub invariant-loop-category : goal.invariant-loop-category
invariant-loop-category l =
    (c v : ℕ) (bound : Bounds) → c < l.category → HasBound l.bounds c v bound → IsTrue (reaches bound l.held l.later 0 c v)

abbrev pub invariant-loop-value : goal.invariant-loop-value
invariant-loop-value l =
    (v : ℕ) (bound : Bounds) → v < l.value → HasBound l.bounds l.category v bound → IsTrue (reaches bound l.held l.later 0 l.category v)
