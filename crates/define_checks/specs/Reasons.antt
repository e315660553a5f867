-- The reasons for which a certificate is refused, in the order in which they are tried: those of the lottery, then stage by stage. Builds
-- on Caps. An auditor of `check` reads this file. `check_reasons` tests the reasons in code.
use Rattle.std.specs.Prelude.{ℕ, ◌+◌, ◌==◌, nat_lt, if◌then◌else◌, Bool, not, List, [], ◌∷◌, ◌++◌, length, map, pos, sum_by, int_lt, Option, Some, None}
use Rattle.std.specs.List.{find}
use Rattle.std.specs.Option.{option_map}
use Rattle.std.specs.Ordering.{int_eq}
use Rattle.define_pools.specs.Lists.{includes_list}
use Rattle.define_pools.specs.Pool.{Pool, everybody, is_quota_panel}
use Rattle.define_pools.specs.Lottery.{Lottery, count}
use Rattle.define_pools.specs.Certificate.{Answer, Stage, is_settled, panel_weight, settling, unsettled, weight_of}
use Rattle.define_checks.specs.Caps.{first_above_cap}

-- why a certificate is refused: the number of the stage, 0 for the lottery itself; the number of the reason; and the volunteers who show
-- it
pub record Refusal : Type 0 where
  pub stage : ℕ
  pub reason : ℕ
  pub who : List ℕ

-- the outcome of a check of a certificate
pub data Verdict : Type 0 where
  Valid : Verdict
  Refused : (refusal : Refusal) → Verdict

-- the refusal for reason `number` at stage `stage`, if the reason holds: then there is a list of the volunteers who show it
abbrev pub reason : ℕ → ℕ → Option (List ℕ) → Option Refusal
reason stage number None = None
reason stage number (Some who) = Some (record { stage = stage; reason = number; who = who })

-- the list of those who show a reason, for a reason that one volunteer shows; None if no volunteer was found
abbrev pub one : Option ℕ → Option (List ℕ)
one volunteer = option_map (λ i. i ∷ []) volunteer

-- the list of those who show a reason, for a reason that names no volunteers and applies exactly if `holds` is false: the empty list if it
-- is false, else None
abbrev pub nobody_unless : Bool → Option (List ℕ)
nobody_unless holds = if holds then None else Some []

-- the panels of a lottery, in its order
abbrev pub listed : Lottery → List (List ℕ)
listed lottery = map (λ row. row.panel) lottery.rows

-- the first list of the second argument that equals a list before it there, or one of the lists in `earlier`
abbrev pub first_repeated : List (List ℕ) → List (List ℕ) → Option (List ℕ)
first_repeated earlier [] = None
first_repeated earlier (xs ∷ later) = if includes_list earlier xs then Some xs else first_repeated (xs ∷ earlier) later

-- the count of the first volunteer in a list, or 0 if there is none
abbrev pub first_count : Lottery → List ℕ → ℕ
first_count lottery [] = 0
first_count lottery (i ∷ rest) = count lottery i

-- the count that all volunteers whom a stage settles must have: the count of the first of them
abbrev pub shared_count : Pool → Lottery → List Stage → Stage → ℕ
shared_count pool lottery earlier stage = first_count lottery (settling pool earlier stage)

-- the reasons of the lottery itself
abbrev pub lottery_reasons : Pool → Lottery → List (Option Refusal)
lottery_reasons pool lottery =
    -- 1: a listed panel isn't a quota panel
    reason 0 1 (find (λ panel. not (is_quota_panel pool panel)) (listed lottery)) ∷
    -- 2: a panel is listed twice
    reason 0 2 (first_repeated [] (listed lottery)) ∷
    -- 3: the weights don't sum to the total
    reason 0 3 (nobody_unless (lottery.total == sum_by (λ row. row.weight) lottery.rows)) ∷ []

-- the reasons of a stage, after earlier ones, that are tried before its cap
abbrev pub reasons_before_cap : Pool → Lottery → List Stage → Stage → List (Option Refusal)
reasons_before_cap pool lottery earlier stage =
    let number = length earlier + 1 in
    -- 4: somebody who is unsettled has a weight below 0
    reason number 4 (one (find (λ i. int_lt (weight_of stage i) (pos 0)) (unsettled pool earlier))) ∷
    -- 5: nobody who is unsettled has a weight above 0
    reason number 5 (nobody_unless (nat_lt 0 (length (settling pool earlier stage)))) ∷
    -- 6: somebody whom the stage settles has another count than the first whom it settles
    reason number 6 (one (find (λ i. not (count lottery i == shared_count pool lottery earlier stage)) (settling pool earlier stage))) ∷
    -- 7: somebody who is unsettled has a lower count than the first whom the stage settles
    reason number 7 (one (find (λ i. nat_lt (count lottery i) (shared_count pool lottery earlier stage)) (unsettled pool earlier))) ∷ []

-- the reasons of a stage's cap
abbrev pub cap_reasons : Pool → Lottery → List Stage → Stage → List (Option Refusal)
cap_reasons pool lottery earlier stage =
    let number = length earlier + 1 in
    -- 8: a quota panel that attains the earlier caps weighs more than the cap
    reason number 8 (first_above_cap pool earlier stage) ∷
    -- 9: a listed panel doesn't weigh the cap
    reason number 9 (find (λ panel. not (int_eq (panel_weight stage panel) stage.cap)) (listed lottery)) ∷ []

-- all reasons of a stage after earlier ones
abbrev pub stage_reasons : Pool → Lottery → List Stage → Stage → List (Option Refusal)
stage_reasons pool lottery earlier stage = reasons_before_cap pool lottery earlier stage ++ cap_reasons pool lottery earlier stage

-- all reasons of the stages `later` after the stages `earlier`, and the reason after the last stage
abbrev pub reasons_from : Pool → Lottery → List Stage → List Stage → List (Option Refusal)
reasons_from pool lottery earlier [] =
    -- 10: somebody is unsettled after the last stage
    reason (length earlier) 10 (one (find (λ i. not (is_settled earlier i)) (everybody pool))) ∷ []
reasons_from pool lottery earlier (stage ∷ later) =
    stage_reasons pool lottery earlier stage ++ reasons_from pool lottery (stage ∷ earlier) later

-- all reasons for which a certificate may be refused, in the order in which they are tried
abbrev pub reasons : Pool → Answer → List (Option Refusal)
reasons pool answer = lottery_reasons pool answer.lottery ++ reasons_from pool answer.lottery [] answer.stages

-- the verdict of a list of reasons: refused for the first that holds, or valid if none does
abbrev pub first_reason : List (Option Refusal) → Verdict
first_reason [] = Valid
first_reason (None ∷ later) = first_reason later
first_reason (Some refusal ∷ later) = Refused refusal

-- the verdict on an answer over a pool: refused for the first reason that holds, and valid if none does
abbrev pub verdict : Pool → Answer → Verdict
verdict pool answer = first_reason (reasons pool answer)
