-- Quotas that ask for more than can be given are missed by each selection.
use Rattle.std.proofs.Common.{◌≡◌, ℕ, ◌+◌, ◌-◌, ◌*◌, ◌≤◌, ◌<◌, Bool, true, false, cond, ◌&&◌, leb, ltb, List, [], ◌∷◌, length, refl, sym, ap, ◌∙◌, arith, ⊎_elim}
use Rattle.std.specs.Prelude.{count_by}
use Rattle.std.specs.List.{enumerate_from, list_all, range_with_len}
use Rattle.std.proofs.lemmas.Bool.{and_parts, cases_lt, leb-true}
use Rattle.std.proofs.Math.Nat.{mul-le-mul_left}
use Rattle.define_pools.proofs.Each.{each_everywhere, each_from_list_all, each_map}
use Rattle.define_pools.proofs.Sums.{count_by-total, one_if, sum_by-is-total, total, total-add, total-scaled, total-zero, total_ext, total_le}
use Rattle.define_pools.specs.declared.Standing.{Standing}
use Rattle.define_pools.specs.declared.Standing.TheVariants.{Open, Seated, Gone}
use Rattle.define_pools.specs.Lists.{includes, is_increasing}
use Rattle.define_pools.specs.Pool.{Pool, allows}
use Rattle.define_pools.proofs.Weights.{total_panel}
use Rattle.define_quotas.specs.declared.Side.{Side}
use Rattle.define_quotas.specs.declared.Side.TheVariants.{AtLeast, AtMost}
use Rattle.define_quotas.specs.declared.WeightedQuota.{WeightedQuota}
use Rattle.define_quotas.specs.LeastMisses.{asked, given, given_by, is_side, quotas_of, taken_by_standing, weighed_bound, weighed_bounds, weighed_misses, weight_for, weights_for}
use Rattle.define_quotas.specs.Quotas.{MissAt, bound, is_counted, is_selection_at, keeps, miss, missed, misses}

-- a double sum is the same whether it goes over `xs` or over `ys` first
exchanged : {X Y : Type 0} (f : X → Y → ℕ) (xs : List X) (ys : List Y) → total (λ x. total (f x) ys) xs ≡ total (λ y. total (λ x. f x y) xs) ys
exchanged f [] ys = sym (total-zero (λ y. 0) (λ y. refl) ys)
exchanged f (x ∷ xs) ys = let rest = exchanged f xs ys in let split = total-add (f x) (λ y. total (λ x. f x y) xs) ys in omega (arith, rest, split)

-- if each element that passes a test adds `w`, the sum is `w` times their number
counted : (p : ℕ → Bool) (w : ℕ) (xs : List ℕ) → total (λ i. cond (p i) w 0) xs ≡ count_by p xs * w
counted p w xs = total_ext (λ i. cond (p i) w 0) (λ i. one_if (p i) * w) (λ i. one (p i)) xs ∙ total-scaled (λ i. one_if (p i)) w xs ∙ ap (λ n. n * w) (sym (count_by-total p xs))
  where
    one : (b : Bool) → cond b w 0 ≡ one_if b * w
    one true = omega arith
    one false = omega arith

-- ---- what one quota asks for, and its miss

least_missed : (w b m : ℕ) → w * b ≤ m * w + w * (b - m)
least_missed w b m = let h : b ≤ m + (b - m) = omega arith in omega (arith, mul-le-mul_left w h)

most_missed : (w b m : ℕ) → m * w ≤ w * b + w * (m - b)
most_missed w b m = let h : m ≤ b + (m - b) = omega arith in omega (arith, mul-le-mul_left w h)

module _ (selection : List ℕ) where
  -- let a quota with the bound `b` and the weight `w` count those who pass `p`, and let `m` members pass. For a least number,
  -- `w * b ≤ w * m + w * miss`; for a greatest number, `w * m ≤ w * b + w * miss`
  one_side : (side : Side) (b w : ℕ) (p : ℕ → Bool) →
      cond (is_side AtLeast side) (w * b) 0 + total (λ i. cond (is_side AtMost side && p i) w 0) selection ≤
      total (λ i. cond (is_side AtLeast side && p i) w 0) selection + (cond (is_side AtMost side) (w * b) 0 + w * missed side b (count_by p selection))
  one_side AtLeast b w p =
      let none = total-zero (λ i. 0) (λ i. refl) selection in
      let all = counted p w selection in
      let least = least_missed w b (count_by p selection) in omega (arith, none, all, least)
  one_side AtMost b w p =
      let none = total-zero (λ i. 0) (λ i. refl) selection in
      let all = counted p w selection in
      let most = most_missed w b (count_by p selection) in omega (arith, none, all, most)

  -- ---- what all quotas ask for, and their misses

  module _ (pool : Pool) where
    -- a quota's weight, times how many of the selection's members it counts; 0 if the quota isn't of this side
    abbrev over_members : Side → WeightedQuota → ℕ
    over_members side it = total (λ i. weight_for pool side i it) selection

    abbrev weighed_miss : WeightedQuota → ℕ
    weighed_miss it = it.weight * miss pool selection it.quota

    one_quota : (it : WeightedQuota) → weighed_bound pool AtLeast it + over_members AtMost it ≤ over_members AtLeast it + (weighed_bound pool AtMost it + weighed_miss it)
    one_quota it = one_side it.quota.side (bound pool it.quota) it.weight (is_counted pool it.quota.counted)

    -- the sum, over the selection's members, of the weights of the quotas of this side that count the member
    abbrev members_weigh : Side → List WeightedQuota → ℕ
    members_weigh side weighted = total (weights_for pool side weighted) selection

    members_weigh-is : (side : Side) (weighted : List WeightedQuota) → members_weigh side weighted ≡ total (over_members side) weighted
    members_weigh-is side weighted =
        total_ext (weights_for pool side weighted) (λ i. total (weight_for pool side i) weighted) (λ i. sum_by-is-total (weight_for pool side i) weighted) selection
        ∙ exchanged (weight_for pool side) selection weighted

    all_quotas : (weighted : List WeightedQuota) →
        weighed_bounds pool AtLeast weighted + members_weigh AtMost weighted ≤
        members_weigh AtLeast weighted + (weighed_bounds pool AtMost weighted + weighed_misses pool selection weighted)
    all_quotas weighted =
        let each = total_le (λ it. weighed_bound pool AtLeast it + over_members AtMost it)
        (λ it. over_members AtLeast it + (weighed_bound pool AtMost it + weighed_miss it)) weighted
        (each_everywhere (λ it. weighed_bound pool AtLeast it + over_members AtMost it ≤ over_members AtLeast it + (weighed_bound pool AtMost it + weighed_miss it)) one_quota weighted) in
        let left = total-add (weighed_bound pool AtLeast) (over_members AtMost) weighted in
        let right = total-add (over_members AtLeast) (λ it. weighed_bound pool AtMost it + weighed_miss it) weighted in
        let apart = total-add (weighed_bound pool AtMost) weighed_miss weighted in
        let least = sum_by-is-total (weighed_bound pool AtLeast) weighted in
        let most = sum_by-is-total (weighed_bound pool AtMost) weighted in
        let missed = sum_by-is-total weighed_miss weighted in
        let given = members_weigh-is AtLeast weighted in
        let taken = members_weigh-is AtMost weighted in
        omega (arith, each, left, right, apart, least, most, missed, given, taken)

-- ---- what each volunteer takes and gives

-- one volunteer's part of the sums: what is taken, plus `l` for a member, is at most `m` for a member plus what is given. `l` and `m` are
-- the weights of the quotas with least and with greatest numbers that count the volunteer; `is_in` says whether the volunteer is a member
one_volunteer : (standing : Standing) (is_in : Bool) (l m : ℕ) → allows standing is_in ≡ true → taken_by_standing standing m + cond is_in l 0 ≤ cond is_in m 0 + given_by standing l m
one_volunteer Open true l m h = omega arith
one_volunteer Open false l m h = omega arith
one_volunteer Seated true l m h = omega arith
one_volunteer Seated false l m h = absurd cc
one_volunteer Gone true l m h = absurd cc
one_volunteer Gone false l m h = omega arith

module _ (selection : List ℕ) (l m : ℕ → ℕ) where
  abbrev takes : ℕ × Standing → ℕ
  takes (i, standing) = taken_by_standing standing (m i)

  abbrev gives : ℕ × Standing → ℕ
  gives (i, standing) = given_by standing (l i) (m i)

  abbrev in_it : (ℕ → ℕ) → ℕ → ℕ
  in_it f i = cond (includes selection i) (f i) 0

  all_volunteers : (first : ℕ) (all : List Standing) → keeps selection first all ≡ true →
      total takes (enumerate_from first all) + total (in_it l) (range_with_len first (length all)) ≤
      total (in_it m) (range_with_len first (length all)) + total gives (enumerate_from first all)
  all_volunteers first [] h = omega arith
  all_volunteers first (standing ∷ all) h =
      let parts = and_parts (allows standing (includes selection first)) (keeps selection (first + 1) all) h in
      let here = one_volunteer standing (includes selection first) (l first) (m first) parts.0 in
      let later = all_volunteers (first + 1) all parts.1 in omega (arith, here, later)

-- ---- what is asked of a selection, and what it misses

-- what `is_selection_at` tests, as three facts
pub record Selected (all : List Standing) (selection : List ℕ) : Type 0 where
  pub up : is_increasing selection ≡ true
  pub below : list_all (λ i. ltb i (length all)) selection ≡ true
  pub kept : keeps selection 0 all ≡ true

pub selection_parts : (all : List Standing) (selection : List ℕ) → is_selection_at all selection ≡ true → Selected all selection
selection_parts all selection is =
    let A = is_increasing selection in let B = list_all (λ i. ltb i (length all)) selection in
    let parts = and_parts (A && B) (keeps selection 0 all) is in
    let first = and_parts A B parts.0 in record { up = first.0; below = first.1; kept = parts.1 }

module _ (pool : Pool) (weighted : List WeightedQuota) (all : List Standing) (selection : List ℕ) (is : is_selection_at all selection ≡ true) where
  -- what is asked for is at most what can be given plus what is missed
  pub asked_or_missed : asked pool weighted all ≤ given pool weighted all + weighed_misses pool selection weighted
  asked_or_missed =
      let parts = selection_parts all selection is in
      let l = weights_for pool AtLeast weighted in
      let m = weights_for pool AtMost weighted in
      let quotas = all_quotas selection pool weighted in
      let volunteers = all_volunteers selection l m 0 all parts.kept in
      let least = total_panel l (length all) selection parts.up parts.below in
      let most = total_panel m (length all) selection parts.up parts.below in
      let taken = sum_by-is-total (takes selection l m) (enumerate_from 0 all) in
      let gives_all = sum_by-is-total (gives selection l m) (enumerate_from 0 all) in
      omega (arith, quotas, volunteers, least, most, taken, gives_all)

  -- if each weight is at most `greatest`, the sum of the misses times their weights is at most the sum of the misses, times `greatest`
  pub few_misses : (greatest : ℕ) → list_all (λ it. leb it.weight greatest) weighted ≡ true → weighed_misses pool selection weighted ≤ misses pool selection (quotas_of weighted) * greatest
  few_misses greatest light =
      let one : WeightedQuota → ℕ = λ it. miss pool selection it.quota in
      let each = total_le (λ it. it.weight * one it) (λ it. one it * greatest) weighted
      (each_map (λ it. leb it.weight greatest ≡ true) (λ it. it.weight * one it ≤ one it * greatest)
      (λ it e. let le = leb-true it.weight greatest e in omega (arith, mul-le-mul_left (one it) le)) weighted
      (each_from_list_all (λ it. leb it.weight greatest) weighted light)) in
      let scaled = total-scaled one greatest weighted in
      let left = sum_by-is-total (λ it. it.weight * one it) weighted in
      let right = sum_by-is-total (miss pool selection) (quotas_of weighted) in
      let same = mapped weighted in
      let product = ap (λ n. n * greatest) (right ∙ same) in
      omega (arith, each, scaled, left, product)
    where
      mapped : (xs : List WeightedQuota) → total (miss pool selection) (quotas_of xs) ≡ total (λ it. miss pool selection it.quota) xs
      mapped [] = refl
      mapped (x ∷ xs) = ap (λ n. miss pool selection x.quota + n) (mapped xs)

pub asking_more : (pool : Pool) (weighted : List WeightedQuota) (all : List Standing) (greatest many : ℕ) →
    list_all (λ it. leb it.weight greatest) weighted ≡ true → given pool weighted all + greatest * many < asked pool weighted all → MissAt pool (quotas_of weighted) all (many + 1)
asking_more pool weighted all greatest many light more selection is =
    let least = asked_or_missed pool weighted all selection is in
    let few = few_misses pool weighted all selection is greatest light in
    let n = misses pool selection (quotas_of weighted) in
    ⊎_elim (λ (lt : many < n). let r : many + 1 ≤ n = omega arith in r)
    (λ (le : n ≤ many). let product = mul-le-mul_left greatest le in absurd (omega (arith, least, few, more, product)))
    (cases_lt many n)
