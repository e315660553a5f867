-- The result of passing a line of a tree.
use Rattle.std.specs.Prelude.{ℕ, if◌then◌else◌, Bool, true, false, List, ◌∷◌, Option, Some, None, Result, Ok, Err}
use Rattle.define_pools.specs.declared.Standing.{Standing}
use Rattle.define_proofs.specs.Leaves.{Problem, leaf_shows}
use Rattle.define_proofs.specs.TreeLines.{Decision, OfLeaf, OfSplit, TreeLine, path_behind, standings_at}
use Rattle.define_proofs.specs.Trees.{is_undecided}

-- the path of the line after `line`, or None if the tree ends with `line`, or the reason why `line` is refused
abbrev pub next : Problem → List Standing → Option (List Decision) → TreeLine → Result (Option (List Decision)) ℕ
next problem standings None line = Err 11
next problem standings (Some path) (OfSplit i) =
    if is_undecided (standings_at standings path) i then Ok (Some (record { volunteer = i; is_in = false } ∷ path)) else Err 11
next problem standings (Some path) (OfLeaf leaf) = if leaf_shows problem (standings_at standings path) leaf then Ok (path_behind path) else Err 12

-- the path of the next line if the tree goes on, else None
abbrev pub place : Bool → List Decision → Option (List Decision)
place true path = Some path
place false path = None

-- the result of a call that leaves `path`, as a step: the call returns whether the tree goes on, or the reason why a line is refused
abbrev pub seen_step : Result Bool ℕ → List Decision → Result (Option (List Decision)) ℕ
seen_step (Ok goes_on) path = Ok (place goes_on path)
seen_step (Err reason) path = Err reason
