-- A check between two stages of a certificate. Builds on Reasons of `define_checks`, and on Certificate and Lottery of `define_pools`. The
-- contracts of `Course` cite it, and so do proofs of `cert_check` and `check_proofs`.
use Rattle.std.specs.Prelude.{◌≡◌, ℕ, ◌+◌, nat_lt, not, ℤ, int_lt, Bool, List, [], ◌∷◌, filter, length, map, pos, slice_index_or, Option}
use Rattle.std.specs.List.{find}
use Rattle.std.specs.Ordering.{int_eq}
use Rattle.define_pools.specs.Certificate.{Stage, is_positive, is_settled, panel_weight, weight_of}
use Rattle.define_pools.specs.Lottery.{Lottery, counts}
use Rattle.define_pools.specs.Pool.{Pool, everybody}
use Rattle.define_checks.specs.Reasons.{Refusal, listed, nobody_unless, one, reason}

-- a check between two stages: the pool, the lottery, the stages that were passed, the latest first, and the stages to come
pub record Course : Type 0 where
  pub pool : Pool
  pub lottery : Lottery
  pub earlier : List Stage
  pub later : List Stage

-- the course after its next stage is passed. The list has the stages to come; if it is empty, the course is unchanged
abbrev pub passed : Course → List Stage → Course
passed course [] = course
passed course (stage ∷ later) = record course { earlier = stage ∷ course.earlier; later = later }

-- `counted` has each volunteer's count, and `marks` is true for those who are settled
pub record Keeps (course : Course) (counted : List ℤ) (marks : List Bool) : Type 0 where
  pub chances : counted ≡ map pos (counts course.pool course.lottery)
  pub settled : marks ≡ map (is_settled course.earlier) (everybody course.pool)

-- the count of volunteer `i`, or 0 if the list has none
abbrev pub count_at : List ℤ → ℕ → ℤ
count_at counted i = slice_index_or counted i (pos 0)

-- the count of the first volunteer of the list, or 0 if there is none
abbrev pub first_count : List ℤ → List ℕ → ℤ
first_count counted [] = pos 0
first_count counted (i ∷ rest) = count_at counted i

-- reasons 6 and 7, which are about counts, given the counts, who is unsettled, and whom the stage settles
abbrev pub count_reasons : List ℤ → List ℕ → List ℕ → ℕ → List (Option Refusal)
count_reasons counted unsettled settling number =
    reason number 6 (one (find (λ i. not (int_eq (count_at counted i) (first_count counted settling))) settling)) ∷
    reason number 7 (one (find (λ i. int_lt (count_at counted i) (first_count counted settling)) unsettled)) ∷ []

-- reasons 4 to 7, which are tried before the cap, given the counts and who is unsettled
abbrev pub kept_reasons : List ℤ → List ℕ → ℕ → Stage → List (Option Refusal)
kept_reasons counted unsettled number stage =
    let settling = filter (is_positive stage) unsettled in
    reason number 4 (one (find (λ i. int_lt (weight_of stage i) (pos 0)) unsettled)) ∷
    reason number 5 (nobody_unless (nat_lt 0 (length settling))) ∷ count_reasons counted unsettled settling number

-- reason 9, shown by the first listed panel that doesn't weigh the cap of the stage
abbrev pub off_cap : Course → Stage → Option Refusal
off_cap course stage = reason (length course.earlier + 1) 9 (find (λ panel. not (int_eq (panel_weight stage panel) stage.cap)) (listed course.lottery))
