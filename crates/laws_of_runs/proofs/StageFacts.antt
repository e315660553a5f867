-- A stage holds if the facts of `StageFacts` hold: facts of each volunteer, each quota panel and each row of the lottery.
use Rattle.std.proofs.Common.{◌≡◌, ℕ, zero, suc, ◌+◌, ◌≤◌, ◌<◌, Bool, true, false, cond, not, eqb, leb, List, ◌∷◌, length, filter, pos, subst, arith, ⊎_elim}
use Rattle.std.specs.Prelude.{int_le}
use Rattle.std.specs.Ordering.{int_eq}
use Rattle.std.specs.List.{AllByRecursion, range_with_len}
use Rattle.std.proofs.lemmas.Bool.{eq-eqb, le-leb, lt-ltb, cases_lt, not-true, not_from_false}
use Rattle.std.proofs.lemmas.Bool.Decides.{Decides-int_eq}
use Rattle.define_pools.proofs.Each.{each_map, each_filter, each_range, list_all_from_each}
use Rattle.define_pools.specs.Pool.{Pool, everybody}
use Rattle.define_pools.specs.Lottery.{Lottery, count}
use Rattle.define_pools.specs.Certificate.{Stage, StageHolds, is_capped, is_positive, is_settled, panel_weight, settling, unsettled, weight_of}

-- if a number in a range satisfies two tests, the range filtered by both is not empty
some_left : (p q : ℕ → Bool) (i first many : ℕ) → first ≤ i → i < first + many → p i ≡ true → q i ≡ true → 0 < length (filter q (filter p (range_with_len first many)))
some_left p q i first zero l m e f = absurd (omega arith)
some_left p q i first (suc many) l m e f =
    ⊎_elim (λ (lt : first < i).
    let rest = some_left p q i (first + 1) many (omega arith) (omega arith) e f in
    (elim (p first) as (λ b. 0 < length (filter q (cond b (first ∷ filter p (range_with_len (first + 1) many)) (filter p (range_with_len (first + 1) many))))) [
      | true ↦ elim (q first) as (λ b. 0 < length (cond b (first ∷ filter q (filter p (range_with_len (first + 1) many))) (filter q (filter p (range_with_len (first + 1) many))))) [
        | true ↦ omega arith
        | false ↦ rest
      ]
      | false ↦ rest
    ]))
    (λ (le : i ≤ first). let s : i ≡ first = omega arith in
    let e' : p first ≡ true = subst (λ z. p z ≡ true) s e in let f' : q first ≡ true = subst (λ z. q z ≡ true) s f in
    rw (e', f') (omega arith))
    (cases_lt first i)

-- conditions under which a stage holds: each volunteer whom the stage settles has the count T, nobody who is unsettled has a smaller count,
-- and the conditions of `StageStands` hold
pub record StageFacts (pool : Pool) (lottery : Lottery) (earlier : List Stage) (stage : Stage) (T : ℕ) : Type 0 where
  pub one_each : length stage.weights ≡ length pool.volunteers
  pub none_negative : (i : ℕ) → i < length pool.volunteers → is_settled earlier i ≡ false → int_le (pos 0) (weight_of stage i) ≡ true
  pub somebody : ℕ
  pub in_pool : somebody < length pool.volunteers
  pub not_settled : is_settled earlier somebody ≡ false
  pub positive : is_positive stage somebody ≡ true
  pub same_count : (i : ℕ) → i < length pool.volunteers → is_settled earlier i ≡ false → is_positive stage i ≡ true → count lottery i ≡ T
  pub least_count : (i : ℕ) → i < length pool.volunteers → is_settled earlier i ≡ false → T ≤ count lottery i
  pub capped : is_capped pool earlier stage ≡ true
  pub reached : AllByRecursion (λ row. panel_weight stage row.panel ≡ stage.cap) lottery.rows

pub holds_from_facts : (pool : Pool) (lottery : Lottery) (earlier : List Stage) (stage : Stage) (T : ℕ) → StageFacts pool lottery earlier stage T → StageHolds pool lottery earlier stage
holds_from_facts pool lottery earlier stage T facts = record {
  one_each = facts.one_each;
  none_negative = list_all_from_each (λ i. int_le (pos 0) (weight_of stage i)) (unsettled pool earlier) (of_unsettled (λ i. int_le (pos 0) (weight_of stage i) ≡ true) facts.none_negative);
  some_positive = lt-ltb 0 (length (settling pool earlier stage)) some;
  common_count = T;
  same_count = list_all_from_each (λ i. eqb (count lottery i) T) (settling pool earlier stage)
      (each_map (λ i. count lottery i ≡ T) (λ i. eqb (count lottery i) T ≡ true) (λ i e. eq-eqb (count lottery i) T e) (settling pool earlier stage) at_T);
  least_count = list_all_from_each (λ i. leb T (count lottery i)) (unsettled pool earlier)
      (of_unsettled (λ i. leb T (count lottery i) ≡ true) (λ i l s. le-leb T (count lottery i) (facts.least_count i l s)));
  capped = facts.capped;
  reached = list_all_from_each (λ row. int_eq (panel_weight stage row.panel) stage.cap) lottery.rows
      (each_map (λ row. panel_weight stage row.panel ≡ stage.cap) (λ row. int_eq (panel_weight stage row.panel) stage.cap ≡ true) (λ row e. (Decides-int_eq (panel_weight stage row.panel) stage.cap).1 e) lottery.rows facts.reached);
}
  where
    of_unsettled : (P : ℕ → Type 0) → ((i : ℕ) → i < length pool.volunteers → is_settled earlier i ≡ false → P i) → AllByRecursion P (unsettled pool earlier)
    of_unsettled P f = each_filter P (λ i. not (is_settled earlier i)) (everybody pool)
        (each_range (λ i. not (is_settled earlier i) ≡ true → P i) 0 (length pool.volunteers) (λ i l m s. f i (omega arith) (not-true (is_settled earlier i) s)))

    at_T : AllByRecursion (λ i. count lottery i ≡ T) (settling pool earlier stage)
    at_T = each_filter (λ i. count lottery i ≡ T) (is_positive stage) (unsettled pool earlier) (of_unsettled (λ i. is_positive stage i ≡ true → count lottery i ≡ T) facts.same_count)

    some : 0 < length (settling pool earlier stage)
    some = let inside : facts.somebody < 0 + length pool.volunteers = omega (arith, facts.in_pool) in
        some_left (λ i. not (is_settled earlier i)) (is_positive stage) facts.somebody 0 (length pool.volunteers) (omega arith) inside (not_from_false (is_settled earlier facts.somebody) facts.not_settled) facts.positive
