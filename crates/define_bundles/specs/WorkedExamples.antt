-- Small answers for the worked examples of this crate and of `define_proofs`.
use Rattle.std.specs.Prelude.{◌-◌, ◌^◌, [], ◌∷◌, pos, negsuc}
use Rattle.define_pools.specs.Certificate.{Answer}
use Rattle.define_pools.specs.WorkedExamples.{row, stage, four_lottery, four_stages, dropout_lottery, dropout_stages}

-- the answer for two women and two men
abbrev pub four_answer : Answer
four_answer = record { lottery = four_lottery; stages = four_stages }

-- the answer for these four volunteers after a dropout
abbrev pub dropout_answer : Answer
dropout_answer = record { lottery = dropout_lottery; stages = dropout_stages }

-- an answer for these four volunteers, with the greatest weight and a stage of the greatest reach
abbrev pub widest_answer : Answer
widest_answer = record {
  lottery = record { total = 10 ^ 38; rows = row (0 ∷ 2 ∷ []) (10 ^ 38) ∷ [] };
  stages = stage (negsuc (2 ^ 126 - 1)) (pos (2 ^ 126 - 3) ∷ negsuc 0 ∷ pos 0 ∷ pos 1 ∷ []) ∷ [];
}
