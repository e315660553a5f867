-- The trees that `cover_cert` makes: the fronts that a check's search tries and doesn't enter. Builds on FirstCause, and on CoversHold of
-- `define_covers`. The promise of `cover` in `cover_cert` cites it.
use Rattle.std.specs.Prelude.{◌≡◌, ◌<◌, ℕ, ◌+◌, true, IsTrue, List, [], ◌∷◌, length, map, take, Some}
use Rattle.std.specs.List.{AllByRecursion, list_all}
use Rattle.define_bundles.specs.BundleText.{Bundle}
use Rattle.define_checks.specs.Caps.{classes_at, stage_row}
use Rattle.define_pools.specs.Certificate.{Stage}
use Rattle.define_pools.specs.Pool.{IsPool, Pool}
use Rattle.define_rows.specs.Row.{Row}
use Rattle.define_searches.specs.Classes.{Classes}
use Rattle.define_searches.specs.Fronts.{is_live_above}
use Rattle.define_covers.specs.Causes.{all_values}
use Rattle.define_covers.specs.CoverRanges.{is_front_line, value_count}
use Rattle.define_covers.specs.Covers.{Cover, FrontLine}
use Rattle.define_covers.specs.CoverVerdict.{first_tree, later_trees}
use Rattle.define_covers.specs.CoversHold.{Covers, TreesCover}
use Rattle.define_covers.specs.FrontOrder.{are_in_order}
use Rattle.define_covers.specs.FirstCause.{first_cause}

-- the search enters each front that is shorter than `front` and at its beginning
abbrev pub IsTried : Classes → List Row → Row → List ℕ → Type 0
IsTried all closed row front = (k : ℕ) → k < length front → is_live_above all closed row row.b (take k front) ≡ true

-- the lines are those of a search that finds nothing: one for each front that it tries and doesn't enter, in its order, with the first cause
-- that applies to the front
pub record IsSearched (all : Classes) (closed : List Row) (row : Row) (lines : List FrontLine) : Type 0 where
  -- the fronts are all those of a tree over the classes
  pub in_order : IsTrue (are_in_order all.classes (Some []) (map (λ line. line.front) lines))
  pub tried : AllByRecursion (λ line. IsTried all closed row line.front) lines
  pub causes : AllByRecursion (λ line. first_cause all closed row line.front ≡ Some line.cause) lines

-- the lines are those of a check's search at `stage`, after the stages `earlier`, of which the latest is first
abbrev pub IsSearchedStage : Pool → List Stage → Stage → List FrontLine → Type 0
IsSearchedStage pool earlier stage lines =
    IsSearched (classes_at pool (stage ∷ earlier)) (map (stage_row pool (stage ∷ earlier)) earlier) (stage_row pool (stage ∷ earlier) stage) lines

-- each stage of the second list, after `earlier`, has the lines of its search at its place in `trees`
abbrev pub TreesSearched : Pool → List Stage → List Stage → List (List FrontLine) → Type 0
TreesSearched pool earlier [] trees = Unit {0}
TreesSearched pool earlier (stage ∷ later) trees =
    IsSearchedStage pool earlier stage (first_tree trees) × TreesSearched pool (stage ∷ earlier) later (later_trees trees)

-- the cover is of this bundle, and its trees have the lines of a check's searches
pub record IsMadeOf (bundle : Bundle) (cover : Cover) : Type 0 where
  pub same : cover.bundle ≡ bundle
  pub searched : TreesSearched bundle.pool [] bundle.answer.stages cover.trees

-- ---- laws

-- the lines of a search that finds nothing cover what a search would enter
abbrev pub CoversWhereSearched : Type 0
CoversWhereSearched = (all : Classes) (closed : List Row) (row : Row) (lines : List FrontLine) → IsSearched all closed row lines → Covers all closed row lines

-- if each stage has the lines of its search, each stage is covered
abbrev pub TreesCoverWhereSearched : Type 0
TreesCoverWhereSearched = (pool : Pool) (earlier later : List Stage) (trees : List (List FrontLine)) → TreesSearched pool earlier later trees → TreesCover pool earlier later trees

-- the lines of a stage's search are in the ranges of a cover's text
abbrev pub InRangesWhereSearched : Type 0
InRangesWhereSearched = (pool : Pool) (earlier : List Stage) (stage : Stage) (lines : List FrontLine) → IsPool pool → IsSearchedStage pool earlier stage lines →
    IsTrue (list_all (is_front_line pool (length earlier + 1)) lines)

-- how many values the classes at a stage have in all categories is how many the pool has
abbrev pub SameValueCount : Type 0
SameValueCount = (pool : Pool) (stages : List Stage) → length (all_values (classes_at pool stages)) ≡ value_count pool

-- a search has one list of lines
abbrev pub SearchedOnce : Type 0
SearchedOnce = (all : Classes) (closed : List Row) (row : Row) (first second : List FrontLine) → IsSearched all closed row first → IsSearched all closed row second → first ≡ second

-- stages have one list of trees
abbrev pub TreesSearchedOnce : Type 0
TreesSearchedOnce = (pool : Pool) (earlier later : List Stage) (first second : List (List FrontLine)) → length first ≡ length later → length second ≡ length later →
    TreesSearched pool earlier later first → TreesSearched pool earlier later second → first ≡ second
