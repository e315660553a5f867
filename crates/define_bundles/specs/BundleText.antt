-- The text of a bundle: each bundle has one spelling, whose version is that of its pool's text. Builds on PoolText and Ranges.
-- `bundle_text` writes it, and the text of a proof contains it.
use Rattle.std.specs.Prelude.{ℕ, List, [], ◌∷◌, ◌++◌, map, codes}
use Rattle.std.specs.Fmt.{decimal, signed_decimal}
use Rattle.define_pools.specs.Pool.{Pool, IsPool}
use Rattle.define_pools.specs.Lottery.{LotteryRow}
use Rattle.define_pools.specs.Certificate.{Stage, Answer}
use Rattle.define_lines.specs.Lines.{line_of, text_of}
use Rattle.define_bundles.specs.declared.Version.{Version}
use Rattle.define_bundles.specs.PoolText.{version_field, version_of, lines_before_end, end_line}
use Rattle.define_bundles.specs.Ranges.{IsInRanges}

-- a pool with its answer
pub record Bundle : Type 0 where
  pub pool : Pool
  pub answer : Answer

-- what holds of each bundle
pub record IsBundle (bundle : Bundle) : Type 0 where
  pub is_pool : IsPool bundle.pool
  pub in_ranges : IsInRanges bundle.pool bundle.answer

-- the first line, in this version
abbrev pub bundle_line : Version → List ℕ
bundle_line version = line_of (codes "bundle" ∷ version_field version ∷ [])

-- the lines of a pool, with its end line
abbrev pub pool_lines : Pool → List (List ℕ)
pool_lines pool = lines_before_end pool ++ end_line ∷ []

abbrev pub total_line : ℕ → List ℕ
total_line total = line_of (codes "total" ∷ decimal total ∷ [])

-- a panel's line: its weight, and the numbers of its members
abbrev pub panel_line : LotteryRow → List ℕ
panel_line row = line_of (codes "panel" ∷ decimal row.weight ∷ map decimal row.panel)

-- a stage's line: its cap, and the weight of each volunteer. A negative number has `-` before its digits
abbrev pub stage_line : Stage → List ℕ
stage_line stage = line_of (codes "stage" ∷ signed_decimal stage.cap ∷ map signed_decimal stage.weights)

abbrev pub done_line : List ℕ
done_line = codes "done"

-- the lines of an answer: the total, the panels, the stages; without the last line, `done`
abbrev pub answer_lines : Answer → List (List ℕ)
answer_lines answer = total_line answer.lottery.total ∷ (map panel_line answer.lottery.rows ++ map stage_line answer.stages)

-- the lines of a bundle, without the last line, `done`
abbrev pub lines_before_done : Pool → Answer → List (List ℕ)
lines_before_done pool answer = bundle_line (version_of pool) ∷ (pool_lines pool ++ answer_lines answer)

-- the text of a pool with an answer
abbrev pub bundle_text : Pool → Answer → List ℕ
bundle_text pool answer = text_of (lines_before_done pool answer ++ done_line ∷ [])

-- the text of a bundle
abbrev pub bundle_spelling : Bundle → List ℕ
bundle_spelling bundle = bundle_text bundle.pool bundle.answer
