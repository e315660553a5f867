-- A certificate holds exactly if none of the reasons applies.
use Rattle.std.proofs.Common.{◌≡◌, ℕ, ◌+◌, ◌-◌, ◌^◌, Bool, true, false, cond, not, eqb, leb, ltb, List, [], ◌∷◌, length, ℤ, pos, Option, Some, None, refl, sym, ap, ◌∙◌, arith}
use Rattle.std.specs.Prelude.{int_le, int_lt, sum_by}
use Rattle.std.specs.List.{AllByRecursion, find, list_all}
use Rattle.std.specs.Ordering.{int_eq}
use Rattle.std.proofs.lemmas.Bool.{and_parts, eqb-true, eq-eqb, false≢true, false_from_ne_true, le-leb, le-ltb, leb-true, ltb-false, not-false, not_from_true}
use Rattle.std.proofs.lemmas.List.Folds.{list_all-map}
use borrow.Author.Differences.{le-true, lt-false, lt-true, true_is_le}
use Rattle.define_pools.proofs.Each.{each_append, each_from_list_all, each_left, each_map, each_right, list_all_from_each}
use Rattle.define_pools.proofs.Found.{find-none}
use Rattle.define_pools.specs.Certificate.{Answer, Certifies, Stage, StageHolds, StagesHold, is_settled, panel_weight, settling, unsettled, weight_of}
use Rattle.define_pools.specs.Lottery.{IsLottery, Lottery, LotteryRow, TotalAgrees, count}
use Rattle.define_pools.specs.Pool.{Pool, everybody, is_quota_panel}
use Rattle.define_bundles.specs.Ranges.{IsInRanges, is_stage, reach}
use Rattle.define_bundles.proofs.Weights.{positive_weights}
use Rattle.define_checks.specs.Caps.{first_above_cap}
use Rattle.define_checks.specs.Reasons.{Refusal, Valid, first_count, first_reason, first_repeated, listed, lottery_reasons, nobody_unless, one, reason, reasons, reasons_from, shared_count, stage_reasons, verdict}
use Rattle.define_checks.proofs.PassedCaps.{capped_where_no_panel, no_panel_where_capped}
use Rattle.define_checks.proofs.Repeated.{all_different_where_none, none_where_all_different}

-- ---- lists of reasons of which none applies

abbrev pub NoneStands : List (Option Refusal) → Type 0
NoneStands rs = AllByRecursion (λ r. r ≡ None) rs

pub none_from_valid : (rs : List (Option Refusal)) → first_reason rs ≡ Valid → NoneStands rs
none_from_valid [] e = tt
none_from_valid (None ∷ later) e = (refl, none_from_valid later e)
none_from_valid (Some refusal ∷ later) e = absurd cc

pub valid_from_none : (rs : List (Option Refusal)) → NoneStands rs → first_reason rs ≡ Valid
valid_from_none [] h = refl
valid_from_none (None ∷ later) h = valid_from_none later h.1
valid_from_none (Some refusal ∷ later) h = let e = h.0 in absurd cc

pub reason_none : (stage number : ℕ) (who : Option (List ℕ)) → reason stage number who ≡ None → who ≡ None
reason_none stage number None e = refl
reason_none stage number (Some who) e = absurd cc

none_reason : (stage number : ℕ) (who : Option (List ℕ)) → who ≡ None → reason stage number who ≡ None
none_reason stage number who e = ap (reason stage number) e

one_none : (volunteer : Option ℕ) → one volunteer ≡ None → volunteer ≡ None
one_none None e = refl
one_none (Some i) e = absurd cc

pub unless_none : (holds : Bool) → nobody_unless holds ≡ None → holds ≡ true
unless_none true e = refl
unless_none false e = absurd cc

-- ---- `find` finds nothing exactly if no element passes its test

none_found : {X : Type 0} (p : X → Bool) (xs : List X) → AllByRecursion (λ x. p x ≡ false) xs → find p xs ≡ None
none_found p [] h = refl
none_found p (x ∷ xs) h = ap (λ b. cond b (Some x) (find p xs)) h.0 ∙ none_found p xs h.1

all_pass : {X : Type 0} (p q : X → Bool) → ((x : X) → p x ≡ false → q x ≡ true) → (xs : List X) → find p xs ≡ None → list_all q xs ≡ true
all_pass p q f xs e = list_all_from_each q xs (each_map (λ x. p x ≡ false) (λ x. q x ≡ true) f xs (find-none p xs e))

none_fails : {X : Type 0} (p q : X → Bool) → ((x : X) → q x ≡ true → p x ≡ false) → (xs : List X) → list_all q xs ≡ true → find p xs ≡ None
none_fails p q f xs h = none_found p xs (each_map (λ x. q x ≡ true) (λ x. p x ≡ false) f xs (each_from_list_all q xs h))

panels_pass : (q : List ℕ → Bool) (lottery : Lottery) → find (λ panel. not (q panel)) (listed lottery) ≡ None → list_all (λ row. q row.panel) lottery.rows ≡ true
panels_pass q lottery e = sym (list_all-map q (λ (row : LotteryRow). row.panel) lottery.rows) ∙ all_pass (λ panel. not (q panel)) q (λ panel. not-false (q panel)) (listed lottery) e

no_panel_fails : (q : List ℕ → Bool) (lottery : Lottery) → list_all (λ row. q row.panel) lottery.rows ≡ true → find (λ panel. not (q panel)) (listed lottery) ≡ None
no_panel_fails q lottery h = none_fails (λ panel. not (q panel)) q (λ panel. not_from_true (q panel)) (listed lottery) (list_all-map q (λ (row : LotteryRow). row.panel) lottery.rows ∙ h)

-- ---- a number is at least 0 if it is not below 0

not_below : (w : ℤ) → int_lt w (pos 0) ≡ false → int_le (pos 0) w ≡ true
not_below w e = sym (true_is_le (pos 0) w (omega (arith, lt-false w (pos 0) e)))

at_least : (w : ℤ) → int_le (pos 0) w ≡ true → int_lt w (pos 0) ≡ false
at_least w h = false_from_ne_true (int_lt w (pos 0)) (λ e. absurd (omega (arith, le-true (pos 0) w h, lt-true w (pos 0) e)))

-- ---- the lottery is one over the pool exactly if none of its reasons applies

lottery_holds : (pool : Pool) (answer : Answer) → IsInRanges pool answer → NoneStands (lottery_reasons pool answer.lottery) → IsLottery pool answer.lottery
lottery_holds pool answer ranges none =
    let lottery = answer.lottery in
    let n = length pool.volunteers in record {
      some = ranges.some_row;
      panels = panels_pass (is_quota_panel pool) lottery (reason_none 0 1 (find (λ panel. not (is_quota_panel pool panel)) (listed lottery)) none.0);
      different = all_different_where_none (listed lottery) (reason_none 0 2 (first_repeated [] (listed lottery)) none.1.0);
      total_agrees = record {
        weights = positive_weights n lottery.rows ranges.rows;
        total = eqb-true lottery.total (sum_by (λ row. row.weight) lottery.rows)
            (unless_none (eqb lottery.total (sum_by (λ row. row.weight) lottery.rows)) (reason_none 0 3 (nobody_unless (eqb lottery.total (sum_by (λ row. row.weight) lottery.rows))) none.1.1.0));
      };
    }

-- if no reason of the lottery applies, its weights sum to the total
pub total_agrees : (pool : Pool) (answer : Answer) (lottery : Lottery) → IsInRanges pool answer → lottery ≡ answer.lottery → first_reason (lottery_reasons pool lottery) ≡ Valid → TotalAgrees answer.lottery
total_agrees pool answer lottery ranges same valid =
    (lottery_holds pool answer ranges (none_from_valid (lottery_reasons pool answer.lottery) (ap (λ lottery. first_reason (lottery_reasons pool lottery)) (sym same) ∙ valid))).total_agrees

lottery_stands : (pool : Pool) (lottery : Lottery) → IsLottery pool lottery → NoneStands (lottery_reasons pool lottery)
lottery_stands pool lottery is =
    let panels = none_reason 0 1 (find (λ panel. not (is_quota_panel pool panel)) (listed lottery)) (no_panel_fails (is_quota_panel pool) lottery is.panels) in
    let different = none_reason 0 2 (first_repeated [] (listed lottery)) (none_where_all_different (listed lottery) is.different) in
    let total = none_reason 0 3 (nobody_unless (eqb lottery.total (sum_by (λ row. row.weight) lottery.rows))) (ap nobody_unless (eq-eqb lottery.total (sum_by (λ row. row.weight) lottery.rows) is.total_agrees.total)) in
    (panels, (different, (total, tt)))

-- ---- a stage holds exactly if none of its reasons applies

-- If all volunteers of a list that isn't empty have the count `T`, so has the first.
first_shares : (lottery : Lottery) (T : ℕ) (xs : List ℕ) → ltb 0 (length xs) ≡ true → list_all (λ i. eqb (count lottery i) T) xs ≡ true → first_count lottery xs ≡ T
first_shares lottery T [] some h = absurd (false≢true some)
first_shares lottery T (i ∷ rest) some h = eqb-true (count lottery i) T (and_parts (eqb (count lottery i) T) (list_all (λ i. eqb (count lottery i) T) rest) h).0

module _ (pool : Pool) (lottery : Lottery) (earlier : List Stage) (stage : Stage) where
  abbrev number : ℕ
  number = length earlier + 1

  abbrev T : ℕ
  T = shared_count pool lottery earlier stage

  abbrev left : List ℕ
  left = unsettled pool earlier

  abbrev settled_here : List ℕ
  settled_here = settling pool earlier stage

  stage_holds : length stage.weights ≡ length pool.volunteers → NoneStands (stage_reasons pool lottery earlier stage) → StageHolds pool lottery earlier stage
  stage_holds one_each none =
      let negative = one_none (find (λ i. int_lt (weight_of stage i) (pos 0)) left) (reason_none number 4 (one (find (λ i. int_lt (weight_of stage i) (pos 0)) left)) none.0) in
      let positive = reason_none number 5 (nobody_unless (ltb 0 (length settled_here))) none.1.0 in
      let other = one_none (find (λ i. not (eqb (count lottery i) T)) settled_here) (reason_none number 6 (one (find (λ i. not (eqb (count lottery i) T)) settled_here)) none.1.1.0) in
      let lower = one_none (find (λ i. ltb (count lottery i) T) left) (reason_none number 7 (one (find (λ i. ltb (count lottery i) T) left)) none.1.1.1.0) in
      let above = reason_none number 8 (first_above_cap pool earlier stage) none.1.1.1.1.0 in
      let off = reason_none number 9 (find (λ panel. not (int_eq (panel_weight stage panel) stage.cap)) (listed lottery)) none.1.1.1.1.1.0 in
      record {
        one_each = one_each;
        none_negative = all_pass (λ i. int_lt (weight_of stage i) (pos 0)) (λ i. int_le (pos 0) (weight_of stage i)) (λ i. not_below (weight_of stage i)) left negative;
        some_positive = unless_none (ltb 0 (length settled_here)) positive;
        common_count = T;
        same_count = all_pass (λ i. not (eqb (count lottery i) T)) (λ i. eqb (count lottery i) T) (λ i. not-false (eqb (count lottery i) T)) settled_here other;
        least_count = all_pass (λ i. ltb (count lottery i) T) (λ i. leb T (count lottery i)) (λ i e. le-leb T (count lottery i) (ltb-false (count lottery i) T e)) left lower;
        capped = capped_where_no_panel pool earlier stage above;
        reached = panels_pass (λ panel. int_eq (panel_weight stage panel) stage.cap) lottery off;
      }

  stage_stands : StageHolds pool lottery earlier stage → NoneStands (stage_reasons pool lottery earlier stage)
  stage_stands holds =
      let same : T ≡ holds.common_count = first_shares lottery holds.common_count settled_here holds.some_positive holds.same_count in
      let negative = none_reason number 4 (one (find (λ i. int_lt (weight_of stage i) (pos 0)) left))
      (ap one (none_fails (λ i. int_lt (weight_of stage i) (pos 0)) (λ i. int_le (pos 0) (weight_of stage i)) (λ i. at_least (weight_of stage i)) left holds.none_negative)) in
      let positive = none_reason number 5 (nobody_unless (ltb 0 (length settled_here))) (ap nobody_unless holds.some_positive) in
      let other = none_reason number 6 (one (find (λ i. not (eqb (count lottery i) T)) settled_here))
      (ap one (none_fails (λ i. not (eqb (count lottery i) T)) (λ i. eqb (count lottery i) holds.common_count)
      (λ i e. not_from_true (eqb (count lottery i) T) (ap (eqb (count lottery i)) same ∙ e)) settled_here holds.same_count)) in
      let lower = none_reason number 7 (one (find (λ i. ltb (count lottery i) T) left))
      (ap one (none_fails (λ i. ltb (count lottery i) T) (λ i. leb holds.common_count (count lottery i))
      (λ i e. le-ltb (count lottery i) T (omega (arith, same, leb-true holds.common_count (count lottery i) e))) left holds.least_count)) in
      let above = none_reason number 8 (first_above_cap pool earlier stage) (no_panel_where_capped pool earlier stage holds.capped) in
      let off = none_reason number 9 (find (λ panel. not (int_eq (panel_weight stage panel) stage.cap)) (listed lottery)) (no_panel_fails (λ panel. int_eq (panel_weight stage panel) stage.cap) lottery holds.reached) in
      (negative, (positive, (other, (lower, (above, (off, tt))))))

-- ---- all stages hold exactly if none of their reasons applies

module _ (pool : Pool) (lottery : Lottery) where
  stages_hold : (earlier later : List Stage) → AllByRecursion (λ stage. length stage.weights ≡ length pool.volunteers) later → NoneStands (reasons_from pool lottery earlier later) → StagesHold pool lottery earlier later
  stages_hold earlier [] weights none =
      all_pass (λ i. not (is_settled earlier i)) (is_settled earlier) (λ i. not-false (is_settled earlier i)) (everybody pool)
      (one_none (find (λ i. not (is_settled earlier i)) (everybody pool)) (reason_none (length earlier) 10 (one (find (λ i. not (is_settled earlier i)) (everybody pool))) none.0))
  stages_hold earlier (stage ∷ later) weights none = (
    stage_holds pool lottery earlier stage weights.0 (each_left (λ r. r ≡ None) (stage_reasons pool lottery earlier stage) (reasons_from pool lottery (stage ∷ earlier) later) none),
    stages_hold (stage ∷ earlier) later weights.1 (each_right (λ r. r ≡ None) (stage_reasons pool lottery earlier stage) (reasons_from pool lottery (stage ∷ earlier) later) none),
  )

  stages_stand : (earlier later : List Stage) → StagesHold pool lottery earlier later → NoneStands (reasons_from pool lottery earlier later)
  stages_stand earlier [] holds = (
    none_reason (length earlier) 10 (one (find (λ i. not (is_settled earlier i)) (everybody pool)))
        (ap one (none_fails (λ i. not (is_settled earlier i)) (is_settled earlier) (λ i. not_from_true (is_settled earlier i)) (everybody pool) holds)),
    tt,
  )
  stages_stand earlier (stage ∷ later) holds =
      each_append (λ r. r ≡ None) (stage_reasons pool lottery earlier stage) (reasons_from pool lottery (stage ∷ earlier) later)
      (stage_stands pool lottery earlier stage holds.0) (stages_stand (stage ∷ earlier) later holds.1)

-- ---- the verdict is valid exactly if the certificate holds

module _ (pool : Pool) (answer : Answer) where
  pub valid_where_certified : Certifies pool answer.lottery answer.stages → verdict pool answer ≡ Valid
  valid_where_certified certifies =
      valid_from_none (reasons pool answer) (each_append (λ r. r ≡ None) (lottery_reasons pool answer.lottery) (reasons_from pool answer.lottery [] answer.stages)
      (lottery_stands pool answer.lottery certifies.is_lottery) (stages_stand pool answer.lottery [] answer.stages certifies.stages_hold))

  pub certified_where_valid : IsInRanges pool answer → verdict pool answer ≡ Valid → Certifies pool answer.lottery answer.stages
  certified_where_valid ranges valid =
      let none = none_from_valid (reasons pool answer) valid in
      let n = length pool.volunteers in
      let weights = each_map (λ stage. is_stage n stage ≡ true) (λ stage. length stage.weights ≡ n)
      (λ stage h. eqb-true (length stage.weights) n (and_parts (eqb (length stage.weights) n) (leb (reach stage) (2 ^ 127 - 1)) h).0) answer.stages (each_from_list_all (is_stage n) answer.stages ranges.stages) in
      record {
        is_lottery = lottery_holds pool answer ranges (each_left (λ r. r ≡ None) (lottery_reasons pool answer.lottery) (reasons_from pool answer.lottery [] answer.stages) none);
        stages_hold = stages_hold pool answer.lottery [] answer.stages weights (each_right (λ r. r ≡ None) (lottery_reasons pool answer.lottery) (reasons_from pool answer.lottery [] answer.stages) none);
      }
