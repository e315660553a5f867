-- The order in which a check goes from stage to stage, as laws. Builds on Reasons and Visits. `cert_check` checks in this order.
use Rattle.std.specs.Prelude.{◌≡◌, ℕ, ◌+◌, nat_lt, if◌then◌else◌, List, [], ◌∷◌, length, Result, Ok, Err}
use Rattle.define_pools.specs.Certificate.{Answer, Stage}
use Rattle.define_pools.specs.Lottery.{Lottery}
use Rattle.define_pools.specs.Pool.{Pool}
use Rattle.define_checks.specs.Reasons.{Refused, Valid, Verdict, cap_reasons, first_reason, lottery_reasons, reasons_before_cap, reasons_from}
use Rattle.define_checks.specs.Visits.{check_answer, first_spent, stage_search, unless_spent}

-- the answer of a check that has passed the stages `earlier`, with the stages `later` to come
abbrev pub answer_from : Pool → Lottery → ℕ → List Stage → List Stage → Result Verdict ℕ
answer_from pool lottery nodes earlier later = unless_spent (first_spent pool nodes earlier later) (first_reason (reasons_from pool lottery earlier later))

-- the verdict if it is a refusal, else `next`
abbrev pub or_next : Verdict → Result Verdict ℕ → Result Verdict ℕ
or_next Valid next = next
or_next (Refused refusal) next = Ok (Refused refusal)

-- a check tries the reasons of the lottery, and goes on to the stages
abbrev pub BeginsWithLottery : Type 0
BeginsWithLottery = (pool : Pool) (answer : Answer) (nodes : ℕ) →
    check_answer pool answer nodes ≡ or_next (first_reason (lottery_reasons pool answer.lottery)) (answer_from pool answer.lottery nodes [] answer.stages)

-- at a stage a check tries the reasons before the cap, searches, tries the reasons of the cap, and goes on to the later stages
abbrev pub GoesOnByStages : Type 0
GoesOnByStages = (pool : Pool) (lottery : Lottery) (nodes : ℕ) (earlier later : List Stage) (stage : Stage) →
    answer_from pool lottery nodes earlier (stage ∷ later) ≡
    or_next (first_reason (reasons_before_cap pool lottery earlier stage))
    (if nat_lt nodes (stage_search pool earlier stage).visits then Err (length earlier + 1)
    else or_next (first_reason (cap_reasons pool lottery earlier stage)) (answer_from pool lottery nodes (stage ∷ earlier) later))
