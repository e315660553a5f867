-- Small texts of covers, for the worked examples.
use Rattle.std.specs.Prelude.{ℕ, List, [], ◌∷◌, ◌++◌, ◌-◌, codes, drop, take, Option, Some, None, Result, Ok, Err}
use Rattle.define_lines.specs.Lines.{Fault, line_of, text_of}
use Rattle.define_pools.specs.WorkedExamples.{four}
use Rattle.define_checks.specs.Reasons.{Verdict}
use Rattle.define_covers.specs.Covers.{Cover, FrontLine}
use Rattle.define_covers.specs.CoverVerdict.{verdict}
use Rattle.define_covers.specs.WorkedCovers.{four_cover, women_fronts}
use Rattle.define_covers.specs.CoverReading.{LineInTree, line_in_tree, read_cover}
use Rattle.define_covers.specs.CoverText.{cover_lines}

-- what the text of `lines` is read as
abbrev pub read_text : List (List ℕ) → Result Cover Fault
read_text lines = read_cover (text_of lines)

-- the fault of kind `kind` in line `line`
abbrev pub faulty : ℕ → ℕ → Result Cover Fault
faulty line kind = Err (record { line = line; kind = kind })

-- the lines of a cover of the answer for two women and two men, by these trees
abbrev pub whole : List (List FrontLine) → List (List ℕ)
whole trees = cover_lines (four_cover trees)

-- a cover of this answer, with the same fronts in both trees: 27 lines, of which the bundle has 17 and each tree three fronts
abbrev pub both_trees : List (List FrontLine)
both_trees = women_fronts ∷ women_fronts ∷ []

-- their text with another line in the place of line `number`, counted from 1
abbrev pub with_line : ℕ → List ℕ → List (List ℕ)
with_line number other = take (number - 1) (whole both_trees) ++ other ∷ drop number (whole both_trees)

-- their text without line `number`
abbrev pub without_line : ℕ → List (List ℕ)
without_line number = take (number - 1) (whole both_trees) ++ drop number (whole both_trees)

-- what a line `front` with these further fields is in tree 2 of 3, over the pool of two women and two men
abbrev pub front_with : List (List ℕ) → LineInTree
front_with fields = line_in_tree four 2 3 (line_of (codes "front" ∷ fields))

-- the verdict on the cover that a text spells; None if it spells none
abbrev pub verdict_on : Result Cover Fault → Option Verdict
verdict_on (Ok cover) = Some (verdict cover)
verdict_on (Err fault) = None
