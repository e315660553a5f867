-- Bundles in full, beginnings of texts, and answers whose numbers are out of range, for the examples of texts.
use Rattle.std.specs.Prelude.{List, [], ◌∷◌, ◌++◌, ℕ, codes, pos, negsuc}
use Rattle.std.specs.Fmt.{decimal}
use Rattle.define_pools.specs.Lottery.{LotteryRow}
use Rattle.define_pools.specs.Certificate.{Answer, Stage}
use Rattle.define_pools.specs.WorkedExamples.{row, stage, four_stages}
use Rattle.laws_worked.specs.Pools.{drawn}

-- the answer for two women and two men that the program prints: b with c, or a with d
abbrev pub printed_answer : Answer
printed_answer = record { lottery = drawn 2 (row (1 ∷ 2 ∷ []) 1 ∷ row (0 ∷ 3 ∷ []) 1 ∷ []); stages = four_stages }

-- the lines of two women and two men up to the last volunteer, in a text of this version
abbrev pub lines_of_four : ℕ → List ℕ
lines_of_four version =
    codes "pool\t" ++ decimal version ++ codes "\n" ++ codes "size\t2\n" ++ codes "category\tgender\n" ++ codes "value\tfemale\t1\t1\n" ++ codes "value\tmale\t1\t1\n"
    ++ codes "volunteer\ta\tfemale\n" ++ codes "volunteer\tb\tfemale\n" ++ codes "volunteer\tc\tmale\n" ++ codes "volunteer\td\tmale\n"

-- the text of two women and two men
abbrev pub four_text : List ℕ
four_text = lines_of_four 1 ++ codes "end\n"

-- the text of two women and two men, of whom a and c share a household
abbrev pub housed_text : List ℕ
housed_text = lines_of_four 2 ++ codes "household\ta\th\n" ++ codes "household\tc\th\n" ++ codes "end\n"

-- the text of the bundle that the program prints for two women and two men
abbrev pub printed_text : List ℕ
printed_text =
    codes "bundle\t1\n" ++ four_text ++ codes "total\t2\n" ++ codes "panel\t1\t1\t2\n" ++ codes "panel\t1\t0\t3\n"
    ++ codes "stage\t1\t1\t1\t0\t0\n" ++ codes "stage\t0\t-1\t-1\t1\t1\n" ++ codes "done\n"

-- an answer for the four volunteers of whom a and c share a household: a with d, or b with c
abbrev pub housed_answer : Answer
housed_answer = record {
  lottery = drawn 2 (row (0 ∷ 3 ∷ []) 1 ∷ row (1 ∷ 2 ∷ []) 1 ∷ []);
  stages =
      stage (pos 1) (pos 1 ∷ pos 1 ∷ pos 0 ∷ pos 0 ∷ []) ∷
      stage (pos 0) (pos 0 ∷ negsuc 0 ∷ pos 1 ∷ pos 0 ∷ []) ∷
      stage (pos 0) (negsuc 0 ∷ pos 1 ∷ negsuc 0 ∷ pos 1 ∷ []) ∷ [];
}

abbrev pub housed_bundle_text : List ℕ
housed_bundle_text =
    codes "bundle\t2\n" ++ housed_text ++ codes "total\t2\n" ++ codes "panel\t1\t0\t3\n" ++ codes "panel\t1\t1\t2\n"
    ++ codes "stage\t1\t1\t1\t0\t0\n" ++ codes "stage\t0\t0\t-1\t1\t0\n" ++ codes "stage\t0\t-1\t1\t-1\t1\n" ++ codes "done\n"

-- the lines of a bundle of one volunteer up to the pool's end
abbrev pub single : List ℕ
single = codes "bundle\t1\npool\t1\nsize\t1\nvolunteer\ta\nend\n"

-- the answer with this total, these rows and these stages
abbrev pub answer_of : ℕ → List LotteryRow → List Stage → Answer
answer_of total rows stages = record { lottery = drawn total rows; stages = stages }

-- the first two lines of a pool's text: version 1 and size 1
abbrev pub head : List ℕ
head = codes "pool\t1\nsize\t1\n"

-- the first four lines of a pool's text: version 1, size 1, and a category of one value
abbrev pub head_with_value : List ℕ
head_with_value = head ++ codes "category\tg\nvalue\tx\t0\t1\n"
