use Rattle.std.proofs.Common.{◌≡◌, ◌≤◌, ◌<◌, ℕ, take}
use Rattle.define_searches.specs.Waves.{lists_of}
use Rattle.panel_search.proofs.dividing.piece_depth.Given as goal

-- the first `depth` classes have `lists` lists of counts, and for each `k` below `depth` the first `k` classes have fewer than 64
abbrev pub invariant-loop-depth : goal.invariant-loop-depth
invariant-loop-depth l =
    (l.lists ≡ lists_of (take l.depth l.fn.classes.classes)) × (l.lists ≤ 300000) × ((k : ℕ) → k < l.depth → lists_of (take k l.fn.classes.classes) < 64)
