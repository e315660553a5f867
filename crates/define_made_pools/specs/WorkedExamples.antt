-- Small answers for the worked summaries, with the lines of each summary before its seal.
use Rattle.std.specs.Prelude.{ℕ, List, [], ◌∷◌, codes, pos}
use Rattle.define_pools.specs.Certificate.{Answer}
use Rattle.define_pools.specs.WorkedExamples.{row, stage, dropout_lottery, dropout_stages}

-- the answer for one volunteer
abbrev pub single_answer : Answer
single_answer = record {
  lottery = record { total = 1; rows = row (0 ∷ []) 1 ∷ [] };
  stages = stage (pos 1) (pos 1 ∷ []) ∷ [];
}

-- the summary of the made pool of seed 0 and one volunteer, before the seal
abbrev pub single_summary : List ℕ
single_summary =
    codes "volunteers\t1\nclasses\t1\nsize\t1\npanels\t1\ncolumns\t1\npivots\t1\nstages\t1\ntotal\t1\nleast\t1/1\ngreatest\t1/1\n"

-- the answer after a dropout, in which two volunteers have no chance
abbrev pub dropout_answer : Answer
dropout_answer = record { lottery = dropout_lottery; stages = dropout_stages }

-- the summary of `dropout_answer`, before the seal
abbrev pub dropout_summary : List ℕ
dropout_summary =
    codes "volunteers\t4\nclasses\t4\nsize\t2\npanels\t1\ncolumns\t1\npivots\t12\nstages\t4\ntotal\t1\nleast\t0/1\ngreatest\t1/1\n"
