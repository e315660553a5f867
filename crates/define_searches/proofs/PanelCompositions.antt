-- A quota panel's composition is among the compositions, and weighs what the panel weighs.
use Rattle.std.proofs.Common.{◌≡◌, ℕ, zero, suc, ◌+◌, ◌-◌, ◌*◌, ◌≤◌, ◌<◌, Bool, true, false, cond, not, ◌&&◌, ◌||◌, eqb, ltb, List, [], ◌∷◌, map, length, filter, count_by, slice_index, ℤ, pos, ◌*ℤ◌, refl, sym, ap, ◌∙◌, ⊎_elim, arith, subst, le_of_eq}
use Rattle.std.specs.Prelude.{int_le, int_lt, unwrap_or, Option, Some, None}
use Rattle.std.specs.List.{list_all, AllByRecursion, range_with_len, flat_map, enumerate_from}
use Rattle.std.proofs.lemmas.Bool.{and_from, cases_lt, eq-eqb, ltb-true, le-leb, false≢true}
use borrow.Author.Differences.{up, down, sum_is_lem, same_in, true_is_le, lt-false}
use Rattle.define_pools.proofs.Sums.{total, total_le, total-zero, one_if, length-filter-total, count_by-total, total-ones}
use Rattle.define_pools.proofs.Integers.{product-parts}
use Rattle.define_pools.proofs.Each.{each_left, each_right, each_of_map, each_range, each_everywhere, list_all_from_each, list_all_equal, each_map, each_from_list_all, each_from_filter, each_filter_passes, enumerated-each}
use Rattle.define_pools.proofs.Tests.{implies}
use Rattle.define_pools.specs.declared.Standing.{Standing}
use Rattle.define_pools.specs.declared.Standing.TheVariants.{Open, Seated, Gone}
use Rattle.define_pools.specs.Lists.{includes, choices}
use Rattle.define_pools.specs.Pool.{Pool, volunteer, everybody, panels, is_quota_panel, allows, members_with, is_within}
use Rattle.define_pools.specs.Certificate.{Stage, weight_of, panel_weight, attains, is_capped}
use Rattle.define_searches.specs.Classes.{leaders, class_of, least_taken, most_taken, shared_household, IsEquivalenceTest, MakesClasses}
use Rattle.define_searches.specs.Compositions.{counts_down, first_greatest, is_of_household}
use Rattle.define_searches.specs.Stages.{WeighAlike}
use Rattle.define_searches.proofs.LeaderForm.{composition_of, all_counts, taken_of, composition_weight, meets_bounds, takes_one_of, takes_one_a_household, is_composition, compositions, composition_attains}
use Rattle.define_pools.proofs.Weights.{total_panel}
use Rattle.define_pools.proofs.AllPanels.{Quota, quota_parts}
use Rattle.define_pools.proofs.Greatest.{weight_parts}
use Rattle.define_searches.proofs.ByClass.{taken, by_class}
use Rattle.define_searches.proofs.Households.{alike_number, one_of_number}

-- ---- lists with a count for each leader

-- let the lists `F` of all counts from `least + more` down to `least` be joined, and `c` be one of these counts. If P holds of each element
-- of the joined list, it holds of each element of `F c`
at_count : (P : List ℕ → Type 0) (F : ℕ → List (List ℕ)) (least more c : ℕ) → least ≤ c → c ≤ least + more → AllByRecursion P (flat_map F (counts_down least more)) → AllByRecursion P (F c)
at_count P F least zero c l m each =
    let s : least ≡ c = omega arith in
    subst (λ z. AllByRecursion P (F z)) s (each_left P (F least) [] each)
at_count P F least (suc more) c l m each =
    ⊎_elim (λ (lt : c < least + suc more). at_count P F least more c l (omega arith) (each_right P (F (least + suc more)) (flat_map F (counts_down least more)) each))
    (λ (ge : least + suc more ≤ c). let s : least + suc more ≡ c = omega arith in
    subst (λ z. AllByRecursion P (F z)) s (each_left P (F (least + suc more)) (flat_map F (counts_down least more)) each))
    (cases_lt c (least + suc more))

pub among_counts : (P : List ℕ → Type 0) (low high g : ℕ → ℕ) (firsts : List ℕ) → AllByRecursion (λ l. (low l ≤ g l) × (g l ≤ high l)) firsts →
    AllByRecursion P (all_counts low high firsts) → P (map g firsts)
among_counts P low high g [] within each = each.0
among_counts P low high g (l ∷ firsts) within each =
    let F : ℕ → List (List ℕ) = λ c. map (λ counts. c ∷ counts) (all_counts low high firsts) in
    let lo = within.0.0 in let hi = within.0.1 in
    let here = at_count P F (low l) (high l - low l) (g l) lo (omega arith) each in
    among_counts (λ counts. P (g l ∷ counts)) low high g firsts within.1 (each_of_map P (λ counts. g l ∷ counts) (all_counts low high firsts) here)

-- ---- sums by composition

taken_of-is : (alike : ℕ → ℕ → Bool) (passes : ℕ → Bool) (panel firsts : List ℕ) →
    taken_of passes firsts (composition_of alike firsts panel) ≡ total (λ l. taken alike l panel * one_if (passes l)) firsts
taken_of-is alike passes panel [] = refl
taken_of-is alike passes panel (l ∷ firsts) =
    let rest = taken_of-is alike passes panel firsts in
    let here = count_by-total (alike l) panel in
    elim (passes l) as (λ b. cond b (count_by (alike l) panel) 0 + taken_of passes firsts (composition_of alike firsts panel) ≡ taken alike l panel * one_if b + total (λ l. taken alike l panel * one_if (passes l)) firsts) [
      | true ↦ omega (arith, rest, here)
      | false ↦ omega (arith, rest)
    ]

weight_is : (alike : ℕ → ℕ → Bool) (w : ℕ → ℤ) (panel firsts : List ℕ) →
    up (composition_weight w firsts (composition_of alike firsts panel)) + total (λ l. taken alike l panel * down (w l)) firsts
    ≡ total (λ l. taken alike l panel * up (w l)) firsts + down (composition_weight w firsts (composition_of alike firsts panel))
weight_is alike w panel [] = refl
weight_is alike w panel (l ∷ firsts) =
    let rest = weight_is alike w panel firsts in
    let here = count_by-total (alike l) panel in
    let c = count_by (alike l) panel in
    let parts = product-parts c (w l) in
    let upper : c * up (w l) ≡ taken alike l panel * up (w l) = ap (λ z. z * up (w l)) here in
    let lower : c * down (w l) ≡ taken alike l panel * down (w l) = ap (λ z. z * down (w l)) here in
    omega (arith, rest, parts, upper, lower, sum_is_lem (pos c *ℤ w l) (composition_weight w firsts (composition_of alike firsts panel)))

module _ (alike : ℕ → ℕ → Bool) (same : IsEquivalenceTest alike) (count : ℕ) where
  -- the number of a panel's members that pass equals the sum of its composition's counts over the leaders that pass
  pub passing : (passes : ℕ → Bool) → ((i j : ℕ) → alike i j ≡ true → passes i ≡ passes j) → (panel : List ℕ) → AllByRecursion (λ i. i < count) panel →
      taken_of passes (leaders alike count) (composition_of alike (leaders alike count) panel) ≡ count_by passes panel
  passing passes respects panel below =
      taken_of-is alike passes panel (leaders alike count)
      ∙ sym (by_class alike same count (λ i. one_if (passes i)) (λ i j a b e. ap one_if (respects i j e)) panel below)
      ∙ sym (count_by-total passes panel)

  -- a panel weighs in a stage what its composition weighs
  pub weighing : (stage : Stage) → ((i j : ℕ) → i < count → j < count → alike i j ≡ true → weight_of stage i ≡ weight_of stage j) → (panel : List ℕ) → AllByRecursion (λ i. i < count) panel →
      composition_weight (weight_of stage) (leaders alike count) (composition_of alike (leaders alike count) panel) ≡ panel_weight stage panel
  weighing stage respects panel below =
      let c = composition_weight (weight_of stage) (leaders alike count) (composition_of alike (leaders alike count) panel) in
      let a = by_class alike same count (λ i. up (weight_of stage i)) (λ i j a b e. ap up (respects i j a b e)) panel below in
      let b = by_class alike same count (λ i. down (weight_of stage i)) (λ i j a b e. ap down (respects i j a b e)) panel below in
      same_in c (panel_weight stage panel) (omega (arith, a, b, weight_is alike (weight_of stage) panel (leaders alike count), weight_parts stage panel))

-- ---- a quota panel's composition

-- In the next three lemmas `s` is a volunteer's standing, `h` says whether the volunteer is on the panel, and `a` whether the volunteer is
-- in the class.

-- if everyone in the class is seated, a volunteer whom the class counts is also counted among the class's members on the panel
term_seated : (s : Standing) (h a : Bool) → allows s h ≡ true → (a ≡ true → s ≡ Seated) → one_if a ≤ cond h (one_if a) 0
term_seated s h false e f = omega arith
term_seated s h true e f =
    let t : h ≡ true = subst (λ z. allows z h ≡ true) (f refl) e in rw t (le_of_eq refl)

-- if everyone in the class is gone, no volunteer counts as a member of the class on the panel
term_gone : (s : Standing) (h a : Bool) → allows s h ≡ true → (a ≡ true → s ≡ Gone) → cond h (one_if a) 0 ≤ 0
term_gone s true false e f = le_of_eq refl
term_gone s false false e f = le_of_eq refl
term_gone s true true e f = absurd (false≢true (subst (λ z. allows z true ≡ true) (f refl) e))
term_gone s false true e f = le_of_eq refl

-- a volunteer who is counted among the class's members on the panel is also counted in the class
pub term_most : (h a : Bool) → cond h (one_if a) 0 ≤ one_if a
term_most true a = le_of_eq refl
term_most false a = omega arith

module _ (pool : Pool) (alike : ℕ → ℕ → Bool) (respects : MakesClasses pool alike) (panel : List ℕ) (quota : is_quota_panel pool panel ≡ true) where
  abbrev n : ℕ
  n = length pool.volunteers

  abbrev standing_of : ℕ → Standing
  standing_of i = (volunteer pool.volunteers i).standing

  parts : Quota pool panel
  parts = quota_parts pool panel quota

  below : AllByRecursion (λ i. i < n) panel
  below = each_map (λ i. ltb i n ≡ true) (λ i. i < n) (λ i e. ltb-true i n e) panel (each_from_list_all (λ i. ltb i n) panel parts.below)

  stands : (i : ℕ) → i < n → allows (standing_of i) (includes panel i) ≡ true
  stands i l =
      let here = enumerated-each (λ (i, v). allows v.standing (includes panel i)) 0 pool.volunteers parts.standings i (record { id = []; values = []; standing = Gone; household = None }) l in
      let e : 0 + i ≡ i = omega arith in subst (λ z. allows (standing_of i) (includes panel z) ≡ true) e here

  taken_here : (l : ℕ) → count_by (alike l) panel ≡ total (λ i. cond (includes panel i) (one_if (alike l i)) 0) (range_with_len 0 n)
  taken_here l = count_by-total (alike l) panel ∙ total_panel (λ i. one_if (alike l i)) n panel parts.up parts.below

  class_size : (l : ℕ) → length (class_of alike n l) ≡ total (λ i. one_if (alike l i)) (range_with_len 0 n)
  class_size l = length-filter-total (alike l) (range_with_len 0 n)

  at_most_size : (l : ℕ) → count_by (alike l) panel ≤ length (class_of alike n l)
  at_most_size l =
      let le = total_le (λ i. cond (includes panel i) (one_if (alike l i)) 0) (λ i. one_if (alike l i)) (range_with_len 0 n)
      (each_everywhere (λ i. cond (includes panel i) (one_if (alike l i)) 0 ≤ one_if (alike l i)) (λ i. term_most (includes panel i) (alike l i)) (range_with_len 0 n)) in
      omega (arith, taken_here l, class_size l, le)

  all_seated : (l : ℕ) → standing_of l ≡ Seated → length (class_of alike n l) ≤ count_by (alike l) panel
  all_seated l s =
      let le = total_le (λ i. one_if (alike l i)) (λ i. cond (includes panel i) (one_if (alike l i)) 0) (range_with_len 0 n)
      (each_range (λ i. one_if (alike l i) ≤ cond (includes panel i) (one_if (alike l i)) 0) 0 n
      (λ i f below. term_seated (standing_of i) (includes panel i) (alike l i) (stands i (omega arith)) (λ e. sym (respects.standing l i e) ∙ s))) in
      omega (arith, taken_here l, class_size l, le)

  none_gone : (l : ℕ) → standing_of l ≡ Gone → count_by (alike l) panel ≤ 0
  none_gone l s =
      let le = total_le (λ i. cond (includes panel i) (one_if (alike l i)) 0) (λ i. 0) (range_with_len 0 n)
      (each_range (λ i. cond (includes panel i) (one_if (alike l i)) 0 ≤ 0) 0 n
      (λ i f below. term_gone (standing_of i) (includes panel i) (alike l i) (stands i (omega arith)) (λ e. sym (respects.standing l i e) ∙ s))) in
      omega (arith, taken_here l, total-zero (λ i. 0) (λ i. refl) (range_with_len 0 n), le)

  bounds : (l : ℕ) (s : Standing) → standing_of l ≡ s → (least_taken s (length (class_of alike n l)) ≤ count_by (alike l) panel) × (count_by (alike l) panel ≤ most_taken s (length (class_of alike n l)))
  bounds l Open e = (omega arith, at_most_size l)
  bounds l Seated e = (all_seated l e, at_most_size l)
  bounds l Gone e = (omega arith, none_gone l e)

  -- the composition of the panel
  abbrev mine : List ℕ
  mine = composition_of alike (leaders alike n) panel

  size_is : taken_of (λ leader. true) (leaders alike n) mine ≡ pool.size
  size_is = passing alike respects.same n (λ leader. true) (λ i j e. refl) panel below ∙ count_by-total (λ leader. true) panel ∙ total-ones panel ∙ parts.size

  value_is : (c v : ℕ) → taken_of (λ leader. eqb (slice_index (volunteer pool.volunteers leader).values c) v) (leaders alike n) mine ≡ members_with pool.volunteers panel c v
  value_is c v =
      passing alike respects.same n (λ i. eqb (slice_index (volunteer pool.volunteers i).values c) v)
      (λ i j e. ap (λ values. eqb (slice_index values c) v) (respects.values i j e)) panel below

  -- the composition takes at most one member of each household, since the panel has at most one
  household_is : (number : Option ℕ) → takes_one_of pool (leaders alike n) mine number ≡ true
  household_is None = refl
  household_is (Some h) =
      let of : ℕ → Bool = λ i. is_of_household h (shared_household pool.volunteers i) in
      let taken = passing alike respects.same n of (λ i j e. ap (is_of_household h) (alike_number pool alike respects i j e)) panel below in
      le-leb (taken_of of (leaders alike n) mine) 1 (omega (arith, taken, one_of_number pool.volunteers panel h parts.households))

  is_one : is_composition pool (leaders alike n) mine ≡ true
  is_one =
      let same = list_all_equal
      (λ (c, category). list_all (λ (v, value). is_within value (taken_of (λ leader. eqb (slice_index (volunteer pool.volunteers leader).values c) v) (leaders alike n) mine)) (enumerate_from 0 category.values))
      (λ (c, category). list_all (λ (v, value). is_within value (members_with pool.volunteers panel c v)) (enumerate_from 0 category.values))
      (λ (c, category). list_all_equal (λ (v, value). is_within value (taken_of (λ leader. eqb (slice_index (volunteer pool.volunteers leader).values c) v) (leaders alike n) mine))
      (λ (v, value). is_within value (members_with pool.volunteers panel c v))
      (λ (v, value). ap (is_within value) (value_is c v)) (enumerate_from 0 category.values))
      (enumerate_from 0 pool.categories) in
      and_from (eqb (taken_of (λ leader. true) (leaders alike n) mine) pool.size && meets_bounds pool (leaders alike n) mine) (takes_one_a_household pool (leaders alike n) mine)
      (and_from (eqb (taken_of (λ leader. true) (leaders alike n) mine) pool.size) (meets_bounds pool (leaders alike n) mine)
      (eq-eqb (taken_of (λ leader. true) (leaders alike n) mine) pool.size size_is) (same ∙ parts.quotas))
      (list_all_from_each (λ leader. takes_one_of pool (leaders alike n) mine (shared_household pool.volunteers leader)) (leaders alike n)
      (each_everywhere (λ leader. takes_one_of pool (leaders alike n) mine (shared_household pool.volunteers leader) ≡ true) (λ leader. household_is (shared_household pool.volunteers leader)) (leaders alike n)))

  -- if P holds of all compositions, it holds of this panel's composition
  pub of_compositions : (P : List ℕ → Type 0) → AllByRecursion P (compositions pool alike) → P mine
  of_compositions P each =
      let low : ℕ → ℕ = λ leader. least_taken (standing_of leader) (length (class_of alike n leader)) in
      let high : ℕ → ℕ = λ leader. most_taken (standing_of leader) (length (class_of alike n leader)) in
      among_counts (λ counts. is_composition pool (leaders alike n) counts ≡ true → P counts) low high (λ leader. count_by (alike leader) panel) (leaders alike n)
      (each_everywhere (λ l. (low l ≤ count_by (alike l) panel) × (count_by (alike l) panel ≤ high l)) (λ l. bounds l (standing_of l) refl) (leaders alike n))
      (each_from_filter P (is_composition pool (leaders alike n)) (all_counts low high (leaders alike n)) each) is_one

attains_same : (pool : Pool) (alike : ℕ → ℕ → Bool) (respects : MakesClasses pool alike) (panel : List ℕ) → is_quota_panel pool panel ≡ true → (stages : List Stage) → WeighAlike alike (length pool.volunteers) stages →
    composition_attains stages (leaders alike (length pool.volunteers)) (composition_of alike (leaders alike (length pool.volunteers)) panel) ≡ attains stages panel
attains_same pool alike respects panel quota [] weigh = refl
attains_same pool alike respects panel quota (stage ∷ stages) weigh =
    let here = weighing alike respects.same (length pool.volunteers) stage weigh.0 panel (below pool alike respects panel quota) in
    let rest = attains_same pool alike respects panel quota stages weigh.1 in rw (here, rest) refl

-- if each stage gives alike volunteers the same weight, and each composition that attains the earlier caps weighs at most the cap, so does
-- each quota panel that attains the earlier caps
pub capped_from_compositions : (pool : Pool) (alike : ℕ → ℕ → Bool) → MakesClasses pool alike → (earlier : List Stage) (stage : Stage) → WeighAlike alike (length pool.volunteers) (stage ∷ earlier) →
    list_all (λ counts. not (composition_attains earlier (leaders alike (length pool.volunteers)) counts) || int_le (composition_weight (weight_of stage) (leaders alike (length pool.volunteers)) counts) stage.cap) (compositions pool alike) ≡ true →
    list_all (λ panel. not (attains earlier panel) || int_le (panel_weight stage panel) stage.cap) (panels pool) ≡ true
capped_from_compositions pool alike respects earlier stage weigh capped =
    let firsts = leaders alike (length pool.volunteers) in
    list_all_from_each (λ panel. not (attains earlier panel) || int_le (panel_weight stage panel) stage.cap) (panels pool)
    (each_filter_passes (λ panel. (not (attains earlier panel) || int_le (panel_weight stage panel) stage.cap) ≡ true) (is_quota_panel pool)
    (λ panel quota.
    let weight = weighing alike respects.same (length pool.volunteers) stage weigh.0 panel (below pool alike respects panel quota) in
    let attained = attains_same pool alike respects panel quota earlier weigh.1 in
    let here = of_compositions pool alike respects panel quota
    (λ counts. (not (composition_attains earlier firsts counts) || int_le (composition_weight (weight_of stage) firsts counts) stage.cap) ≡ true)
    (each_from_list_all (λ counts. not (composition_attains earlier firsts counts) || int_le (composition_weight (weight_of stage) firsts counts) stage.cap) (compositions pool alike) capped) in
    rw (attained, weight) at here)
    (choices pool.size (everybody pool)))

-- if `first_greatest` finds nothing, each list weighs at most the floor
none_above_floor : (weight : List ℕ → ℤ) (floor : ℤ) (xs : List (List ℕ)) → first_greatest weight floor xs ≡ None → AllByRecursion (λ counts. int_le (weight counts) floor ≡ true) xs
none_above_floor weight floor [] e = tt
none_above_floor weight floor (counts ∷ rest) e =
    (elim (int_lt floor (weight counts)) as (λ b. int_lt floor (weight counts) ≡ b → cond b (Some (unwrap_or (first_greatest weight (weight counts) rest) counts)) (first_greatest weight floor rest) ≡ None →
    (int_le (weight counts) floor ≡ true) × AllByRecursion (λ counts. int_le (weight counts) floor ≡ true) rest) [
      | true ↦ λ _ n. cc
      | false ↦ λ t n. (sym (true_is_le (weight counts) floor (lt-false floor (weight counts) t)), none_above_floor weight floor rest n)
    ]) refl e

-- if each stage gives alike volunteers the same weight, and no composition that attains the earlier caps weighs more than the cap, then no
-- quota panel that attains the earlier caps weighs more than the cap
pub is_capped-from_price : (pool : Pool) (alike : ℕ → ℕ → Bool) → MakesClasses pool alike → (earlier : List Stage) (stage : Stage) → WeighAlike alike (length pool.volunteers) (stage ∷ earlier) →
    first_greatest (composition_weight (weight_of stage) (leaders alike (length pool.volunteers))) stage.cap (filter (composition_attains earlier (leaders alike (length pool.volunteers))) (compositions pool alike)) ≡ None → is_capped pool earlier stage ≡ true
is_capped-from_price pool alike makes earlier stage weigh none =
    let firsts = leaders alike (length pool.volunteers) in
    let each = none_above_floor (composition_weight (weight_of stage) firsts) stage.cap (filter (composition_attains earlier firsts) (compositions pool alike)) none in
    capped_from_compositions pool alike makes earlier stage weigh
    (list_all_from_each (λ counts. not (composition_attains earlier firsts counts) || int_le (composition_weight (weight_of stage) firsts counts) stage.cap) (compositions pool alike)
    (each_map (λ counts. composition_attains earlier firsts counts ≡ true → int_le (composition_weight (weight_of stage) firsts counts) stage.cap ≡ true)
    (λ counts. (not (composition_attains earlier firsts counts) || int_le (composition_weight (weight_of stage) firsts counts) stage.cap) ≡ true)
    (λ counts f. implies (composition_attains earlier firsts counts) (int_le (composition_weight (weight_of stage) firsts counts) stage.cap) f) (compositions pool alike)
    (each_from_filter (λ counts. int_le (composition_weight (weight_of stage) firsts counts) stage.cap ≡ true) (composition_attains earlier firsts) (compositions pool alike) each)))

pub no_panel : (pool : Pool) (alike : ℕ → ℕ → Bool) → MakesClasses pool alike → compositions pool alike ≡ [] → panels pool ≡ []
no_panel pool alike makes none =
    empty (panels pool) (each_filter_passes (λ panel. ⊥) (is_quota_panel pool)
    (λ panel quota. of_compositions pool alike makes panel quota (λ counts. ⊥) (rw none tt)) (choices pool.size (everybody pool)))
  where
    empty : (xss : List (List ℕ)) → AllByRecursion (λ xs. ⊥) xss → xss ≡ []
    empty [] h = refl
    empty (xs ∷ xss) h = absurd h.0
