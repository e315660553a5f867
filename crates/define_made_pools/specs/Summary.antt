-- The summary of a run that found an answer: a line for each number, and the seal of the bundle. Builds on Lottery of `define_pools`,
-- BundleText of `define_bundles`, Seal of `define_draws`, Fractions of `frac128`, and Lines of `define_lines`. `office_reports` writes it.
use Rattle.std.specs.Prelude.{ℕ, min, max, List, [], ◌∷◌, ◌++◌, codes, length, unwrap_or}
use Rattle.std.specs.Fmt.{decimal}
use Rattle.std.specs.List.{reduce}
use Rattle.frac128.specs.Fractions.{Fraction, lowest_of, fraction_text}
use Rattle.define_pools.specs.Pool.{Pool}
use Rattle.define_pools.specs.Lottery.{Lottery, counts}
use Rattle.define_pools.specs.Certificate.{Answer}
use Rattle.define_lines.specs.Lines.{line_of, text_of}
use Rattle.define_bundles.specs.BundleText.{bundle_text}
use Rattle.define_draws.specs.Seal.{seal_of}

-- the least number of a list, or 0 if the list is empty
abbrev pub least : List ℕ → ℕ
least xs = unwrap_or (reduce min xs) 0

-- the greatest number of a list, or 0 if the list is empty
abbrev pub greatest : List ℕ → ℕ
greatest xs = unwrap_or (reduce max xs) 0

-- the least chance of a volunteer, in lowest terms
abbrev pub least_chance : Pool → Lottery → Fraction
least_chance pool lottery = lowest_of (least (counts pool lottery)) lottery.total

-- the greatest chance of a volunteer, in lowest terms
abbrev pub greatest_chance : Pool → Lottery → Fraction
greatest_chance pool lottery = lowest_of (greatest (counts pool lottery)) lottery.total

-- how many classes and columns the last table of a run had, and how many pivots the run made
pub record Sizes : Type 0 where
  pub classes : ℕ
  pub columns : ℕ
  pub pivots : ℕ

-- the line that has a word and a field
abbrev pub field_line : List ℕ → List ℕ → List ℕ
field_line word field = line_of (word ∷ field ∷ [])

-- the line that has a word and a number
abbrev pub number_line : List ℕ → ℕ → List ℕ
number_line word number = field_line word (decimal number)

-- the lines of the summary before the total
abbrev pub size_lines : Pool → Answer → Sizes → List (List ℕ)
size_lines pool answer sizes =
    number_line (codes "volunteers") (length pool.volunteers)
    ∷ number_line (codes "classes") sizes.classes
    ∷ number_line (codes "size") pool.size
    ∷ number_line (codes "panels") (length answer.lottery.rows)
    ∷ number_line (codes "columns") sizes.columns
    ∷ number_line (codes "pivots") sizes.pivots
    ∷ number_line (codes "stages") (length answer.stages)
    ∷ []

-- all lines of the summary
abbrev pub summary_lines : Pool → Answer → Sizes → List (List ℕ)
summary_lines pool answer sizes =
    size_lines pool answer sizes
    ++ number_line (codes "total") answer.lottery.total
    ∷ field_line (codes "least") (fraction_text (least_chance pool answer.lottery))
    ∷ field_line (codes "greatest") (fraction_text (greatest_chance pool answer.lottery))
    ∷ field_line (codes "seal") (seal_of (bundle_text pool answer))
    ∷ []

-- the text of the summary
abbrev pub summary_text : Pool → Answer → Sizes → List ℕ
summary_text pool answer sizes = text_of (summary_lines pool answer sizes)
