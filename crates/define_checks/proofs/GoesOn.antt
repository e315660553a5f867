-- A check goes from stage to stage. Each reason has the number of its stage, so reasons of earlier stages come before the search at a later
-- one.
use Rattle.std.proofs.Common.{◌≡◌, ℕ, suc, ◌+◌, ◌≤◌, ◌<◌, Bool, true, false, cond, not, ◌&&◌, ◌||◌, eqb, ltb, List, [], ◌∷◌, ◌++◌, length, pos, Option, Some, None, Ok, Err, refl, ap, ◌∙◌, arith, le_of_eq}
use Rattle.std.specs.Prelude.{int_lt, sum_by}
use Rattle.std.specs.List.{AllByRecursion, find}
use Rattle.std.specs.Ordering.{int_eq}
use Rattle.std.proofs.lemmas.Bool.{eq-eqb, false_from_ne_true, le-ltb, lt-ltb, ltb-true, eqb-true, and_parts}
use Rattle.define_pools.proofs.Each.{each_append, each_map}
use Rattle.define_pools.specs.Certificate.{Stage, is_settled, panel_weight, settling, unsettled, weight_of}
use Rattle.define_pools.specs.Lottery.{Lottery, count}
use Rattle.define_pools.specs.Pool.{Pool, everybody, is_quota_panel}
use Rattle.define_checks.specs.Caps.{first_above_cap}
use Rattle.define_checks.specs.Reasons.{Refusal, Refused, Valid, Verdict, cap_reasons, first_reason, first_repeated, listed, lottery_reasons, nobody_unless, one, reason, reasons_before_cap, reasons_from, shared_count, stage_reasons}
use Rattle.define_checks.specs.Steps.{BeginsWithLottery, GoesOnByStages, or_next}
use Rattle.define_checks.specs.Visits.{first_spent, stage_search, unless_spent}

-- ---- the first reason of lists that are joined

abbrev or_later : Verdict → Verdict → Verdict
or_later Valid later = later
or_later (Refused refusal) later = Refused refusal

first_joined : (xs ys : List (Option Refusal)) → first_reason (xs ++ ys) ≡ or_later (first_reason xs) (first_reason ys)
first_joined [] ys = refl
first_joined (None ∷ xs) ys = first_joined xs ys
first_joined (Some refusal ∷ xs) ys = refl

-- ---- which reasons are tried before the search at a stage

-- if the reason applies, `P` holds of it
abbrev IfStands : (Refusal → Type 0) → Option Refusal → Type 0
IfStands P None = Unit {0}
IfStands P (Some refusal) = P refusal

abbrev IfRefused : (Refusal → Type 0) → Verdict → Type 0
IfRefused P Valid = Unit {0}
IfRefused P (Refused refusal) = P refusal

of_first : (P : Refusal → Type 0) (rs : List (Option Refusal)) → AllByRecursion (IfStands P) rs → IfRefused P (first_reason rs)
of_first P [] h = tt
of_first P (None ∷ rs) h = of_first P rs h.1
of_first P (Some refusal ∷ rs) h = h.0

numbered : (P : Refusal → Type 0) (stage number : ℕ) (who : Option (List ℕ)) → ((who : List ℕ) → P (record { stage = stage; reason = number; who = who })) → IfStands P (reason stage number who)
numbered P stage number None f = tt
numbered P stage number (Some who) f = f who

-- the reason is one of stage `stage` that is tried before the search there
record Ahead (stage : ℕ) (refusal : Refusal) : Type 0 where
  here : refusal.stage ≡ stage
  early : refusal.reason < 8

-- the reason is not one that is tried before the search at stage `stage`
record Behind (stage : ℕ) (refusal : Refusal) : Type 0 where
  not_before : stage ≤ refusal.stage
  late : refusal.stage ≡ stage → 8 ≤ refusal.reason

module _ (pool : Pool) (lottery : Lottery) where
  at_lottery : AllByRecursion (IfStands (Ahead 0)) (lottery_reasons pool lottery)
  at_lottery =
      let first = numbered (Ahead 0) 0 1 (find (λ panel. not (is_quota_panel pool panel)) (listed lottery)) (λ who. record { here = refl; early = omega arith }) in
      let second = numbered (Ahead 0) 0 2 (first_repeated [] (listed lottery)) (λ who. record { here = refl; early = omega arith }) in
      let third = numbered (Ahead 0) 0 3 (nobody_unless (eqb lottery.total (sum_by (λ row. row.weight) lottery.rows))) (λ who. record { here = refl; early = omega arith }) in
      (first, (second, (third, tt)))

  before_cap : (earlier : List Stage) (stage : Stage) → AllByRecursion (IfStands (Ahead (length earlier + 1))) (reasons_before_cap pool lottery earlier stage)
  before_cap earlier stage =
      let n = length earlier + 1 in
      let T = shared_count pool lottery earlier stage in
      let negative = numbered (Ahead n) n 4 (one (find (λ i. int_lt (weight_of stage i) (pos 0)) (unsettled pool earlier))) (λ who. record { here = refl; early = omega arith }) in
      let positive = numbered (Ahead n) n 5 (nobody_unless (ltb 0 (length (settling pool earlier stage)))) (λ who. record { here = refl; early = omega arith }) in
      let other = numbered (Ahead n) n 6 (one (find (λ i. not (eqb (count lottery i) T)) (settling pool earlier stage))) (λ who. record { here = refl; early = omega arith }) in
      let lower = numbered (Ahead n) n 7 (one (find (λ i. ltb (count lottery i) T) (unsettled pool earlier))) (λ who. record { here = refl; early = omega arith }) in
      (negative, (positive, (other, (lower, tt))))

  -- a reason of the cap is one of its stage, and isn't tried before the search
  record AtCap (stage : ℕ) (refusal : Refusal) : Type 0 where
    here : refusal.stage ≡ stage
    late : 8 ≤ refusal.reason

  at_cap : (earlier : List Stage) (stage : Stage) → AllByRecursion (IfStands (AtCap (length earlier + 1))) (cap_reasons pool lottery earlier stage)
  at_cap earlier stage =
      let n = length earlier + 1 in
      let above = numbered (AtCap n) n 8 (first_above_cap pool earlier stage) (λ who. record { here = refl; late = omega arith }) in
      let off = numbered (AtCap n) n 9 (find (λ panel. not (int_eq (panel_weight stage panel) stage.cap)) (listed lottery)) (λ who. record { here = refl; late = omega arith }) in
      (above, (off, tt))

  weaker : (P Q : Refusal → Type 0) → ((refusal : Refusal) → P refusal → Q refusal) → (rs : List (Option Refusal)) → AllByRecursion (IfStands P) rs → AllByRecursion (IfStands Q) rs
  weaker P Q f rs h = each_map (IfStands P) (IfStands Q) by rs h
    where
      by : (r : Option Refusal) → IfStands P r → IfStands Q r
      by None h = tt
      by (Some refusal) h = f refusal h

  -- the reasons of the stages `later` and of the end aren't tried before the search at the latest of the stages `earlier`
  all_behind : (earlier later : List Stage) → AllByRecursion (IfStands (Behind (length earlier))) (reasons_from pool lottery earlier later)
  all_behind earlier [] =
      (numbered (Behind (length earlier)) (length earlier) 10 (one (find (λ i. not (is_settled earlier i)) (everybody pool))) (λ who. record { not_before = le_of_eq refl; late = λ e. omega arith }), tt)
  all_behind earlier (stage ∷ later) =
      let m = length earlier in
      let before = weaker (Ahead (m + 1)) (Behind m) (λ refusal h. let e = h.here in record { not_before = omega arith; late = λ f. absurd (omega arith) }) (reasons_before_cap pool lottery earlier stage) (before_cap earlier stage) in
      let at = weaker (AtCap (m + 1)) (Behind m) (λ refusal h. let e = h.here in record { not_before = omega arith; late = λ f. absurd (omega arith) }) (cap_reasons pool lottery earlier stage) (at_cap earlier stage) in
      let rest = weaker (Behind (suc m)) (Behind m) (λ refusal h. let l = h.not_before in record { not_before = omega arith; late = λ f. absurd (omega arith) }) (reasons_from pool lottery (stage ∷ earlier) later) (all_behind (stage ∷ earlier) later) in
      each_append (IfStands (Behind m)) (stage_reasons pool lottery earlier stage) (reasons_from pool lottery (stage ∷ earlier) later)
      (each_append (IfStands (Behind m)) (reasons_before_cap pool lottery earlier stage) (cap_reasons pool lottery earlier stage) before at) rest

-- ---- where the visits are spent

abbrev SpentAfter : ℕ → Option ℕ → Type 0
SpentAfter n None = Unit {0}
SpentAfter n (Some stage) = n < stage

spent_after : (pool : Pool) (nodes : ℕ) (earlier later : List Stage) → SpentAfter (length earlier) (first_spent pool nodes earlier later)
spent_after pool nodes earlier [] = tt
spent_after pool nodes earlier (stage ∷ later) =
    elim (ltb nodes (stage_search pool earlier stage).visits) as (λ b. SpentAfter (length earlier) (cond b (Some (length earlier + 1)) (first_spent pool nodes (stage ∷ earlier) later))) [
      | true ↦ omega arith
      | false ↦ less (first_spent pool nodes (stage ∷ earlier) later) (spent_after pool nodes (stage ∷ earlier) later)
    ]
  where
    less : (spent : Option ℕ) → SpentAfter (suc (length earlier)) spent → SpentAfter (length earlier) spent
    less None h = tt
    less (Some s) h = omega arith

-- If a refusal's stage comes before the stage at which the visits are spent, or the visits are spent at no stage, the refusal is the
-- answer.
earlier_comes : (spent : Option ℕ) (refusal : Refusal) → SpentAfter refusal.stage spent → unless_spent spent (Refused refusal) ≡ Ok (Refused refusal)
earlier_comes None refusal h = refl
earlier_comes (Some s) refusal h =
    ap (λ b. cond (b || (eqb refusal.stage s && ltb refusal.reason 8)) (Ok (Refused refusal)) (Err s)) (lt-ltb refusal.stage s h)

ahead_comes : (stage : ℕ) (refusal : Refusal) → Ahead stage refusal → unless_spent (Some stage) (Refused refusal) ≡ Ok (Refused refusal)
ahead_comes stage refusal ahead =
    let here = ahead.here in
    let not_less = le-ltb refusal.stage stage (omega arith) in
    let same = eq-eqb refusal.stage stage ahead.here in
    let early = lt-ltb refusal.reason 8 ahead.early in
    rw (not_less, same, early) refl

behind_spent : (stage : ℕ) (verdict : Verdict) → IfRefused (Behind stage) verdict → unless_spent (Some stage) verdict ≡ Err stage
behind_spent stage Valid h = refl
behind_spent stage (Refused refusal) h =
    let l = h.not_before in
    let not_less = le-ltb refusal.stage stage (omega arith) in
    let not_early : (eqb refusal.stage stage && ltb refusal.reason 8) ≡ false = false_from_ne_true (eqb refusal.stage stage && ltb refusal.reason 8)
    (λ e. let parts = and_parts (eqb refusal.stage stage) (ltb refusal.reason 8) e in
    let m = h.late (eqb-true refusal.stage stage parts.0) in let k = ltb-true refusal.reason 8 parts.1 in absurd (omega arith)) in
    rw (not_less, not_early) refl

-- ---- a check goes from the lottery to the stages, and from stage to stage

pub begins_with_lottery : BeginsWithLottery
begins_with_lottery pool answer nodes =
    let rest = first_reason (reasons_from pool answer.lottery [] answer.stages) in
    let spent = first_spent pool nodes [] answer.stages in
    ap (unless_spent spent) (first_joined (lottery_reasons pool answer.lottery) (reasons_from pool answer.lottery [] answer.stages))
    ∙ by spent rest (spent_after pool nodes [] answer.stages) (first_reason (lottery_reasons pool answer.lottery)) (of_first (Ahead 0) (lottery_reasons pool answer.lottery) (at_lottery pool answer.lottery))
  where
    after : (spent : Option ℕ) (n : ℕ) → n ≡ 0 → SpentAfter 0 spent → SpentAfter n spent
    after None n e h = tt
    after (Some s) n e h = omega arith

    by : (spent : Option ℕ) (rest : Verdict) → SpentAfter 0 spent → (first : Verdict) → IfRefused (Ahead 0) first → unless_spent spent (or_later first rest) ≡ or_next first (unless_spent spent rest)
    by spent rest h Valid k = refl
    by spent rest h (Refused refusal) k = earlier_comes spent refusal (after spent refusal.stage k.here h)

pub goes_on_by_stages : GoesOnByStages
goes_on_by_stages pool lottery nodes earlier later stage =
    ap (unless_spent (first_spent pool nodes earlier (stage ∷ later))) joined
    ∙ by (ltb nodes (stage_search pool earlier stage).visits) (first_reason before) (first_reason at)
    (of_first (Ahead n) before (before_cap pool lottery earlier stage)) (of_first (AtCap pool lottery n) at (at_cap pool lottery earlier stage))
  where
    n : ℕ
    n = length earlier + 1

    before : List (Option Refusal)
    before = reasons_before_cap pool lottery earlier stage

    at : List (Option Refusal)
    at = cap_reasons pool lottery earlier stage

    rest : List (Option Refusal)
    rest = reasons_from pool lottery (stage ∷ earlier) later

    spent_later : Option ℕ
    spent_later = first_spent pool nodes (stage ∷ earlier) later

    joined : first_reason ((before ++ at) ++ rest) ≡ or_later (or_later (first_reason before) (first_reason at)) (first_reason rest)
    joined = first_joined (before ++ at) rest ∙ ap (λ first. or_later first (first_reason rest)) (first_joined before at)

    later_spent : (spent : Option ℕ) (m : ℕ) → m ≡ length earlier + 1 → SpentAfter (suc (length earlier)) spent → SpentAfter m spent
    later_spent None m e h = tt
    later_spent (Some s) m e h = omega arith

    at_behind : (refusal : Refusal) → AtCap pool lottery n refusal → Behind n refusal
    at_behind refusal h = let e = h.here in record { not_before = omega arith; late = λ f. h.late }

    rest_behind : IfRefused (Behind n) (first_reason rest)
    rest_behind = of_first (Behind n) rest (weaker pool lottery (Behind (suc (length earlier))) (Behind n)
        (λ refusal h. let l = h.not_before in record { not_before = omega arith; late = λ f. h.late (omega arith) }) rest (all_behind pool lottery (stage ∷ earlier) later))

    by : (over : Bool) (first second : Verdict) → IfRefused (Ahead n) first → IfRefused (AtCap pool lottery n) second →
        unless_spent (cond over (Some n) spent_later) (or_later (or_later first second) (first_reason rest)) ≡
        or_next first (cond over (Err n) (or_next second (unless_spent spent_later (first_reason rest))))
    by true (Refused refusal) second h k = ahead_comes n refusal h
    by false (Refused refusal) second h k = earlier_comes spent_later refusal (later_spent spent_later refusal.stage h.here (spent_after pool nodes (stage ∷ earlier) later))
    by true Valid Valid h k = behind_spent n (first_reason rest) rest_behind
    by true Valid (Refused refusal) h k = behind_spent n (Refused refusal) (at_behind refusal k)
    by false Valid Valid h k = refl
    by false Valid (Refused refusal) h k = earlier_comes spent_later refusal (later_spent spent_later refusal.stage k.here (spent_after pool nodes (stage ∷ earlier) later))
