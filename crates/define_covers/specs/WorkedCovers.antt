-- Small covers, on which the definitions compute. The worked examples of this crate and of `define_covers` use them.
use Rattle.std.specs.Prelude.{ℕ, List, [], ◌∷◌, filter, map, pos, negsuc}
use Rattle.define_bundles.specs.WorkedExamples.{four_answer}
use Rattle.define_checks.specs.Caps.{classes_at, stage_row}
use Rattle.define_checks.specs.WorkedChecks.{answer, either_lottery, either_stages}
use Rattle.define_pools.specs.Certificate.{Answer, Stage}
use Rattle.define_pools.specs.Pool.{Pool}
use Rattle.define_pools.specs.WorkedExamples.{four, stage}
use Rattle.define_searches.specs.WorkedSearches.{either}
use Rattle.define_covers.specs.Causes.{applies}
use Rattle.define_covers.specs.Covers.{ByCap, ByClosed, ByHousehold, BySize, ByValue, Cause, Cover, FrontLine}

-- a line of a tree
abbrev pub at : Cause → List ℕ → FrontLine
at cause front = record { front = front; cause = cause }

-- a cover of an answer over a pool, by these trees
abbrev pub covered : Pool → Answer → List (List FrontLine) → Cover
covered pool answer trees = record { bundle = record { pool = pool; answer = answer }; trees = trees }

-- ---- over two women and two men, of whom one woman and one man are to be chosen: value 1 is a woman's

-- both women, one woman, no woman
abbrev pub women_fronts : List FrontLine
women_fronts = at (ByValue 1) (2 ∷ []) ∷ at ByCap (1 ∷ []) ∷ at (ByValue 1) (0 ∷ []) ∷ []

-- a cover of the answer for two women and two men, by these trees
abbrev pub four_cover : List (List FrontLine) → Cover
four_cover trees = covered four four_answer trees

-- the lines without the last
abbrev pub early_end : List FrontLine
early_end = at (ByValue 1) (2 ∷ []) ∷ at ByCap (1 ∷ []) ∷ []

-- the lines with another cause for one woman, whose size can be reached
abbrev pub wrong_cause : List FrontLine
wrong_cause = at (ByValue 1) (2 ∷ []) ∷ at BySize (1 ∷ []) ∷ at (ByValue 1) (0 ∷ []) ∷ []

-- a tree of the second stage: one woman is followed by two men, one man and no man; without a woman the first stage's cap isn't attained
abbrev pub longer_fronts : List FrontLine
longer_fronts = at (ByValue 1) (2 ∷ []) ∷ at BySize (1 ∷ 2 ∷ []) ∷ at ByCap (1 ∷ 1 ∷ []) ∷ at BySize (1 ∷ 0 ∷ []) ∷ at (ByClosed 1) (0 ∷ []) ∷ []

-- ---- causes

-- the two stages of the answer for two women and two men
abbrev pub first_stage : Stage
first_stage = stage (pos 1) (pos 1 ∷ pos 1 ∷ pos 0 ∷ pos 0 ∷ [])

abbrev pub second_stage : Stage
second_stage = stage (pos 0) (negsuc 0 ∷ negsuc 0 ∷ pos 1 ∷ pos 1 ∷ [])

-- all causes for the values 1 and 2 and for the stages 1 and 2, and some that name no value and no stage
abbrev pub some_causes : List Cause
some_causes = BySize ∷ ByValue 0 ∷ ByValue 1 ∷ ByValue 2 ∷ ByValue 3 ∷ ByHousehold ∷ ByClosed 0 ∷ ByClosed 1 ∷ ByClosed 2 ∷ ByCap ∷ []

-- those of `some_causes` that apply to a front at the stage `latest`, after the stages `earlier`
abbrev pub causes_at : Pool → Stage → List Stage → List ℕ → List Cause
causes_at pool latest earlier front =
    filter (applies (classes_at pool (latest ∷ earlier)) (map (stage_row pool (latest ∷ earlier)) earlier) (stage_row pool (latest ∷ earlier) latest) front) some_causes

-- ---- over one seat for one of two volunteers

-- the empty front alone: no panel exceeds the cap
abbrev pub either_cover : Cover
either_cover = covered either (answer either_lottery either_stages) ((at ByCap [] ∷ []) ∷ [])
