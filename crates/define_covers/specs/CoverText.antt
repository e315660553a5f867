-- The text of a cover: each cover has exactly one. Builds on Covers and CoverRanges of `define_covers`, and on the lines of bundles and of
-- trees in the text of a proof. `cover_text` writes it.
use Rattle.std.specs.Prelude.{◌≡◌, ℕ, ◌+◌, ◌-◌, ◌^◌, nat_le, Bool, IsTrue, List, [], ◌∷◌, ◌++◌, length, map, codes}
use Rattle.std.specs.Fmt.{decimal}
use Rattle.std.specs.List.{enumerate_from, list_all}
use Rattle.define_pools.specs.Pool.{Pool}
use Rattle.define_lines.specs.Lines.{line_of, text_of}
use Rattle.define_bundles.specs.BundleText.{Bundle, IsBundle}
use Rattle.define_proofs.specs.ProofText.{bundle_lines, close_line, tree_line}
use Rattle.define_covers.specs.Covers.{ByCap, ByClosed, ByHousehold, BySize, ByValue, Cause, Cover, FrontLine}
use Rattle.define_covers.specs.CoverRanges.{is_front_line}

-- the most trees that the text of a cover can number, since the numbers of trees fit 64 bits. No text in memory has this many
abbrev pub most_trees : ℕ
most_trees = 2 ^ 64 - 1

-- the lines of all trees are in their ranges, each for the stage of its tree. Before the first tree of the list there are `before` trees
abbrev pub keep_ranges : Pool → ℕ → List (List FrontLine) → Bool
keep_ranges pool before trees = list_all (λ (i, lines). list_all (is_front_line pool (i + 1)) lines) (enumerate_from before trees)

-- what holds of each cover that has a text: there is a tree for each stage of the bundle, at most `most_trees`, and the lines are in their
-- ranges
pub record IsCover (cover : Cover) : Type 0 where
  pub is_bundle : IsBundle cover.bundle
  pub one_each : length cover.trees ≡ length cover.bundle.answer.stages
  pub few_trees : IsTrue (nat_le (length cover.trees) most_trees)
  pub in_ranges : IsTrue (keep_ranges cover.bundle.pool 0 cover.trees)

-- the first line of a cover's text
abbrev pub cover_line : List ℕ
cover_line = line_of (codes "cover" ∷ codes "1" ∷ [])

-- the fields of a cause: its word, and the number of its value or stage, or 0
abbrev pub cause_fields : Cause → List (List ℕ)
cause_fields BySize = codes "size" ∷ codes "0" ∷ []
cause_fields (ByValue number) = codes "value" ∷ decimal number ∷ []
cause_fields ByHousehold = codes "house" ∷ codes "0" ∷ []
cause_fields (ByClosed number) = codes "closed" ∷ decimal number ∷ []
cause_fields ByCap = codes "cap" ∷ codes "0" ∷ []

-- the line of a front: its cause, and its counts
abbrev pub front_line : FrontLine → List ℕ
front_line line = line_of (codes "front" ∷ (cause_fields line.cause ++ map decimal line.front))

-- the line that begins tree `number`, then the lines of its fronts
abbrev pub tree_lines : ℕ → List FrontLine → List (List ℕ)
tree_lines number lines = tree_line number ∷ map front_line lines

-- the lines of trees, numbered from `number` on
abbrev pub trees_from : ℕ → List (List FrontLine) → List (List ℕ)
trees_from number [] = []
trees_from number (lines ∷ later) = tree_lines number lines ++ trees_from (number + 1) later

-- the lines of a cover before the last
abbrev pub lines_before_close : Bundle → List (List FrontLine) → List (List ℕ)
lines_before_close bundle trees = cover_line ∷ (bundle_lines bundle.pool bundle.answer ++ trees_from 1 trees)

-- all lines of a cover
abbrev pub cover_lines : Cover → List (List ℕ)
cover_lines cover = lines_before_close cover.bundle cover.trees ++ close_line ∷ []

-- the text of a cover
abbrev pub cover_spelling : Cover → List ℕ
cover_spelling cover = text_of (cover_lines cover)
