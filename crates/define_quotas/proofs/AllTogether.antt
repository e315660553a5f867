-- If a pool has no quota panel, all its quotas are a conflict: they are the pool's, no two are equal, and a selection that met them all
-- would be a quota panel.
use Rattle.std.proofs.Common.{◌≡◌, ◌≢◌, ℕ, zero, suc, ◌+◌, ◌≤◌, ◌<◌, Bool, true, false, cond, ◌&&◌, not, leb, ltb, List, [], ◌∷◌, ◌++◌, map, filter, length, get_or, count_by, Option, Some, None, refl, sym, ap, ◌∙◌, subst, arith, ⊎_elim}
use Rattle.std.specs.List.{AllByRecursion, AllPairs, enumerate_from, find, flat_map, list_all, list_any, range_with_len}
use Rattle.std.proofs.lemmas.Bool.{and_from, and_parts, cases_eq, cases_lt, eqb-true, leb-true, le-leb, lt-ltb, false≢true}
use Rattle.std.proofs.lemmas.List.{length-map}
use Rattle.std.proofs.lemmas.List.Concat.{flat_map-cons}
use Rattle.std.proofs.lemmas.List.Elements.{All-from_recursion}
use Rattle.std.proofs.lemmas.List.Kept.{AllPairs-cons}
use Rattle.define_pools.proofs.Each.{each_append, each_everywhere, each_filter, each_flat_map, each_left, each_map, each_mapped, each_of_map, each_right, each_range, each_from_filter, list_all_from_each, list_all-enumerated, range_each}
use Rattle.define_pools.proofs.AllPanels.{each_panel, quota_from}
use Rattle.define_pools.proofs.Sums.{count_by-total, one_if, sum_by-is-total, total, total-ones, total_le}
use Rattle.define_pools.specs.Lists.{includes}
use Rattle.define_pools.specs.Pool.{BoundedValue, Category, Pool, Volunteer, allows, everybody, is_quota_panel, is_within, keeps_households, meets_quotas, members_with, panels, share_household, volunteer}
use Rattle.define_searches.specs.Classes.{shared_household}
use Rattle.define_searches.specs.Compositions.{is_of_household}
use Rattle.define_searches.proofs.Households.{households_kept, number_below, number_shares, share_back, share_number}
use Rattle.define_proofs.specs.Leaves.{standings}
use Rattle.define_quotas.specs.declared.Counted.{Counted}
use Rattle.define_quotas.specs.declared.Counted.TheVariants.{Everybody, WithValue, OfHousehold}
use Rattle.define_quotas.specs.declared.Quota.{Quota}
use Rattle.define_quotas.specs.declared.Side.TheVariants.{AtLeast, AtMost}
use Rattle.define_quotas.specs.AllQuotas.{all_quotas, all_together, both_bounds, household_quota, is_first_of_shared, quotas_of_category, quotas_of_value}
use Rattle.define_quotas.specs.Conflicts.{IsConflict}
use Rattle.define_quotas.specs.Quotas.{MissBy, category_at, is_counted_of, is_quota_of, is_selection, keeps, miss, misses, value_at}
use Rattle.define_quotas.proofs.Asking.{Selected, selection_parts}
use Rattle.define_quotas.proofs.NoPanel.{no_panels}

-- ---- each two elements of a list

-- R holds of each element and each later one
abbrev Pairs : {X : Type 0} → (X → X → Type 0) → List X → Type 0
Pairs R [] = Unit {0}
Pairs R (x ∷ xs) = AllByRecursion (R x) xs × Pairs R xs

all_pairs : {X : Type 0} (R : X → X → Type 0) (xs : List X) → Pairs R xs → AllPairs R xs
all_pairs R [] h = λ i j d lt within. absurd (omega arith)
all_pairs R (x ∷ xs) h = AllPairs-cons R x xs (All-from_recursion (R x) xs h.0) (all_pairs R xs h.1)

pairs_append : {X : Type 0} (R : X → X → Type 0) (xs ys : List X) → Pairs R xs → Pairs R ys → AllByRecursion (λ x. AllByRecursion (R x) ys) xs → Pairs R (xs ++ ys)
pairs_append R [] ys h k across = k
pairs_append R (x ∷ xs) ys h k across = (each_append (R x) xs ys h.0 across.0, pairs_append R xs ys h.1 k across.1)

pairs_mapped : {X Y : Type 0} (R : Y → Y → Type 0) (f : X → Y) (xs : List X) → Pairs (λ a b. R (f a) (f b)) xs → Pairs R (map f xs)
pairs_mapped R f [] h = tt
pairs_mapped R f (x ∷ xs) h = (each_mapped (R (f x)) f xs h.0, pairs_mapped R f xs h.1)

pairs_filtered : {X : Type 0} (R : X → X → Type 0) (p : X → Bool) (xs : List X) → Pairs R xs → Pairs R (filter p xs)
pairs_filtered R p [] h = tt
pairs_filtered R p (x ∷ xs) h =
    let rest = pairs_filtered R p xs h.1 in
    elim (p x) as (λ b. Pairs R (cond b (x ∷ filter p xs) (filter p xs))) [
      | true ↦ (each_filter (R x) p xs (each_map (R x) (λ y. p y ≡ true → R x y) (λ y r _. r) xs h.0), rest)
      | false ↦ rest
    ]

pairs_range : (R : ℕ → ℕ → Type 0) → ((i j : ℕ) → i < j → R i j) → (first count : ℕ) → Pairs R (range_with_len first count)
pairs_range R f first zero = tt
pairs_range R f first (suc count) = (each_range (R first) (first + 1) count (λ k l m. f first k (omega arith)), pairs_range R f (first + 1) count)

-- let `f` make a list of each numbered element, in which each two are related, and `N n` hold of all that `f` makes of number `n`. If `R`
-- relates what has lower numbers to what has greater ones, then each two of all that `f` makes are related
module _ {X Y : Type 0} (R : Y → Y → Type 0) (N : ℕ → Y → Type 0) (f : ℕ × X → List Y) (own : (n : ℕ) (x : X) → Pairs R (f (n, x)))
    (has : (n : ℕ) (x : X) → AllByRecursion (N n) (f (n, x))) (apart : (n m : ℕ) (y z : Y) → n < m → N n y → N m z → R y z) where
  -- what has number `first` or a greater one
  record From (first : ℕ) (y : Y) : Type 0 where
    number : ℕ
    from : first ≤ number
    is : N number y

  from_there : (first : ℕ) (xs : List X) → AllByRecursion (From first) (flat_map f (enumerate_from first xs))
  from_there first [] = tt
  from_there first (x ∷ xs) =
      let later = each_map (From (first + 1)) (From first) (λ y it. record { number = it.number; from = (let l = it.from in omega arith); is = it.is }) (flat_map f (enumerate_from (first + 1) xs)) (from_there (first + 1) xs) in
      let here = each_map (N first) (From first) (λ y it. record { number = first; from = omega arith; is = it }) (f (first, x)) (has first x) in
      subst (AllByRecursion (From first)) (sym (flat_map-cons f (first, x) (enumerate_from (first + 1) xs))) (each_append (From first) (f (first, x)) (flat_map f (enumerate_from (first + 1) xs)) here later)

  pairs_numbered : (first : ℕ) (xs : List X) → Pairs R (flat_map f (enumerate_from first xs))
  pairs_numbered first [] = tt
  pairs_numbered first (x ∷ xs) =
      let rest = flat_map f (enumerate_from (first + 1) xs) in
      let later = from_there (first + 1) xs in
      let across = each_map (N first) (λ y. AllByRecursion (R y) rest)
      (λ y it. each_map (From (first + 1)) (R y) (λ z other. apart first other.number y z (let l = other.from in omega arith) it other.is) rest later) (f (first, x)) (has first x) in
      subst (Pairs R) (sym (flat_map-cons f (first, x) (enumerate_from (first + 1) xs))) (pairs_append R (f (first, x)) rest (own first x) (pairs_numbered (first + 1) xs) across)

-- ---- no two quotas are equal

abbrev Differ : Quota → Quota → Type 0
Differ one other = one ≢ other

counted_differs : (a b : Quota) → (a.counted ≡ b.counted → ⊥) → a ≢ b
counted_differs a b h e = h (ap (λ (q : Quota). q.counted) e)

two_bounds : (counted : Counted) → Pairs Differ (both_bounds counted)
two_bounds counted = (((λ e. sides (ap (λ (q : Quota). q.side) e)), tt), (tt, tt))
  where
    sides : AtLeast ≡ AtMost → ⊥
    sides e = absurd cc

abbrev HasValue : ℕ → ℕ → Quota → Type 0
HasValue c v quota = quota.counted ≡ WithValue c v

-- the quota counts those with some value of the category
record IsOfCategory (c : ℕ) (quota : Quota) : Type 0 where
  value : ℕ
  is : quota.counted ≡ WithValue c value

other_value : (c v w : ℕ) → v ≢ w → WithValue c v ≡ WithValue c w → ⊥
other_value c v w ne e = ne cc

other_category : (c d v w : ℕ) → c ≢ d → WithValue c v ≡ WithValue d w → ⊥
other_category c d v w ne e = ne cc

abbrev of_value : ℕ → ℕ × BoundedValue → List Quota
of_value c (v, bounds) = quotas_of_value c v

category_pairs : (c : ℕ) (category : Category) → Pairs Differ (quotas_of_category (c, category))
category_pairs c category =
    pairs_numbered Differ (HasValue c) (of_value c) (λ v value. two_bounds (WithValue c v)) (λ v value. (refl, (refl, tt)))
    (λ v w a b l x y. counted_differs a b (λ e. other_value c v w (omega arith) (sym x ∙ e ∙ y))) 0 category.values

category_is : (c : ℕ) (category : Category) → AllByRecursion (IsOfCategory c) (quotas_of_category (c, category))
category_is c category =
    each_flat_map (IsOfCategory c) (of_value c) (enumerate_from 0 category.values)
    (each_everywhere (λ value. AllByRecursion (IsOfCategory c) (of_value c value)) (λ value. (record { value = value.0; is = refl }, (record { value = value.0; is = refl }, tt))) (enumerate_from 0 category.values))

module _ (pool : Pool) where
  abbrev of_values : List Quota
  of_values = flat_map quotas_of_category (enumerate_from 0 pool.categories)

  abbrev firsts : List ℕ
  firsts = filter (is_first_of_shared pool) (everybody pool)

  abbrev of_households : List Quota
  of_households = map household_quota firsts

  values_pairs : Pairs Differ of_values
  values_pairs =
      pairs_numbered Differ IsOfCategory quotas_of_category category_pairs category_is
      (λ c d a b l x y. counted_differs a b (λ e. other_category c d x.value y.value (omega arith) (sym x.is ∙ e ∙ y.is))) 0 pool.categories

  households_pairs : Pairs Differ of_households
  households_pairs =
      pairs_mapped Differ household_quota firsts
      (pairs_filtered (λ i j. household_quota i ≢ household_quota j) (is_first_of_shared pool) (everybody pool)
      (pairs_range (λ i j. household_quota i ≢ household_quota j) (λ i j l e. members i j (omega arith) (ap (λ (q : Quota). q.counted) e)) 0 (length pool.volunteers)))
    where
      members : (i j : ℕ) → i ≢ j → OfHousehold i ≡ OfHousehold j → ⊥
      members i j ne e = ne cc

  -- the quota counts those with some value
  record IsOfValue (quota : Quota) : Type 0 where
    category : ℕ
    value : ℕ
    is : quota.counted ≡ WithValue category value

  values_are : AllByRecursion IsOfValue of_values
  values_are =
      each_flat_map IsOfValue quotas_of_category (enumerate_from 0 pool.categories)
      (each_everywhere (λ category. AllByRecursion IsOfValue (quotas_of_category category))
      (λ category. each_map (IsOfCategory category.0) IsOfValue (λ quota it. record { category = category.0; value = it.value; is = it.is }) (quotas_of_category category) (category_is category.0 category.1))
      (enumerate_from 0 pool.categories))

  value_not_household : (c v i : ℕ) → WithValue c v ≡ OfHousehold i → ⊥
  value_not_household c v i e = absurd cc

  size_not_value : (c v : ℕ) → Everybody ≡ WithValue c v → ⊥
  size_not_value c v e = absurd cc

  size_not_household : (i : ℕ) → Everybody ≡ OfHousehold i → ⊥
  size_not_household i e = absurd cc

  to_households : (a : Quota) → ((i : ℕ) → a.counted ≡ OfHousehold i → ⊥) → AllByRecursion (Differ a) of_households
  to_households a ne = each_mapped (Differ a) household_quota firsts (each_everywhere (λ i. Differ a (household_quota i)) (λ i. counted_differs a (household_quota i) (ne i)) firsts)

  later_pairs : Pairs Differ (of_values ++ of_households)
  later_pairs =
      pairs_append Differ of_values of_households values_pairs households_pairs
      (each_map IsOfValue (λ a. AllByRecursion (Differ a) of_households) (λ a it. to_households a (λ i e. value_not_household it.category it.value i (sym it.is ∙ e))) of_values values_are)

  size_to_later : (a : Quota) → a.counted ≡ Everybody → AllByRecursion (Differ a) (of_values ++ of_households)
  size_to_later a e =
      each_append (Differ a) of_values of_households
      (each_map IsOfValue (Differ a) (λ b it. counted_differs a b (λ s. size_not_value it.category it.value (sym e ∙ s ∙ it.is))) of_values values_are)
      (to_households a (λ i s. size_not_household i (sym e ∙ s)))

  none_twice : AllPairs (λ one other. one ≢ other) (all_quotas pool)
  none_twice =
      let sizes = two_bounds Everybody in
      let least : Quota = record { counted = Everybody; side = AtLeast } in
      let most : Quota = record { counted = Everybody; side = AtMost } in
      all_pairs Differ (all_quotas pool) ((sizes.0.0, size_to_later least refl), (size_to_later most refl, later_pairs))

-- ---- the quotas are the pool's

module _ (pool : Pool) where
  value_of_pool : (c v : ℕ) → c < length pool.categories → v < length (category_at pool c).values → AllByRecursion (λ quota. is_quota_of pool quota ≡ true) (both_bounds (WithValue c v))
  value_of_pool c v in_categories in_values =
      let is = and_from (ltb c (length pool.categories)) (ltb v (length (category_at pool c).values)) (lt-ltb c (length pool.categories) in_categories) (lt-ltb v (length (category_at pool c).values) in_values) in
      (is, (is, tt))

  -- let P hold of each numbered element at its place; then it holds of each element of the numbered list
  numbered : {X : Type 0} (P : ℕ × X → Type 0) (first : ℕ) (xs : List X) (d : X) → ((k : ℕ) → k < length xs → P (first + k, get_or xs k d)) → AllByRecursion P (enumerate_from first xs)
  numbered P first [] d f = tt
  numbered {X} P first (x ∷ xs) d f =
      let here : first + 0 ≡ first = omega arith in (
        subst (λ n. P (n, x)) here (f 0 (omega arith)),
        numbered P (first + 1) xs d (λ k l. let next : first + suc k ≡ (first + 1) + k = omega arith in subst (λ n. P (n, get_or xs k d)) next (f (suc k) (omega arith))),
      )

  abbrev OfPool : Quota → Type 0
  OfPool quota = is_quota_of pool quota ≡ true

  category_of_pool : (c : ℕ) → c < length pool.categories → AllByRecursion OfPool (quotas_of_category (c, category_at pool c))
  category_of_pool c l =
      let values = (category_at pool c).values in
      each_flat_map OfPool (of_value c) (enumerate_from 0 values)
      (numbered (λ value. AllByRecursion OfPool (of_value c value)) 0 values (record { name = []; lower = 0; upper = 0 })
      (λ v m. let here : 0 + v ≡ v = omega arith in value_of_pool c (0 + v) l (omega arith)))

  all_of_pool : list_all (is_quota_of pool) (all_quotas pool) ≡ true
  all_of_pool =
      let values = each_flat_map OfPool quotas_of_category (enumerate_from 0 pool.categories)
      (numbered (λ category. AllByRecursion OfPool (quotas_of_category category)) 0 pool.categories (record { name = []; values = [] })
      (λ c l. let here : c ≡ 0 + c = omega arith in subst (λ n. AllByRecursion OfPool (quotas_of_category (n, category_at pool c))) here (category_of_pool c l))) in
      let firsts = filter (is_first_of_shared pool) (everybody pool) in
      let shared : ℕ → Bool = λ i. leb 2 (count_by (share_household pool.volunteers i) (everybody pool)) in
      let households = each_mapped OfPool household_quota firsts
      (each_filter (λ i. OfPool (household_quota i)) (is_first_of_shared pool) (everybody pool)
      (each_everywhere (λ i. is_first_of_shared pool i ≡ true → OfPool (household_quota i)) (λ i e. (and_parts (is_counted_of pool (OfHousehold i)) (shared i) e).0) (everybody pool))) in
      list_all_from_each (is_quota_of pool) (all_quotas pool)
      (refl, (refl, each_append OfPool (flat_map quotas_of_category (enumerate_from 0 pool.categories)) (map household_quota firsts) values households))

-- ---- a selection that meets all quotas is a quota panel

-- the test finds nothing before what it finds
none_before : (p : ℕ → Bool) (first count found : ℕ) → find p (range_with_len first count) ≡ Some found → (k : ℕ) → first ≤ k → k < found → p k ≡ false
none_before p first zero found e k l m = absurd cc
none_before p first (suc count) found e k l m = by (p first) refl e (λ f after. none_before p (first + 1) count found f k after m)
  where
    by : (b : Bool) → p first ≡ b → cond b (Some first) (find p (range_with_len (first + 1) count)) ≡ Some found →
        (find p (range_with_len (first + 1) count) ≡ Some found → first + 1 ≤ k → p k ≡ false) → p k ≡ false
    by true t f rest = let same : first ≡ found = cc in absurd (omega arith)
    by false t f rest = ⊎_elim (λ (here : k ≡ first). subst (λ n. p n ≡ false) (sym here) t) (λ (ne : k ≡ first → ⊥). rest f (omega arith)) (cases_eq k first)

none_any : (p : ℕ → Bool) (first count : ℕ) → ((k : ℕ) → first ≤ k → k < first + count → p k ≡ false) → list_any p (range_with_len first count) ≡ false
none_any p first zero f = refl
none_any p first (suc count) f = rw (f first (omega arith) (omega arith), none_any p (first + 1) count (λ k l m. f k (omega arith) (omega arith))) refl

fewer_true : (a b : Bool) → (a ≡ true → b ≡ true) → one_if a ≤ one_if b
fewer_true true b f = let t = f refl in rw t (omega arith)
fewer_true false b f = omega arith

module _ (pool : Pool) (selection : List ℕ) (is : is_selection pool selection ≡ true) (none : misses pool selection (all_quotas pool) ≡ 0) where
  abbrev volunteers : List Volunteer
  volunteers = pool.volunteers

  selected : Selected (standings pool) selection
  selected = selection_parts (standings pool) selection is

  zero_each : (xs : List Quota) → total (miss pool selection) xs ≡ 0 → AllByRecursion (λ quota. miss pool selection quota ≡ 0) xs
  zero_each [] e = tt
  zero_each (x ∷ xs) e = (omega arith, zero_each xs (omega arith))

  abbrev Met : Quota → Type 0
  Met quota = miss pool selection quota ≡ 0

  met : AllByRecursion Met (all_quotas pool)
  met = zero_each (all_quotas pool) (sym (sum_by-is-total (miss pool selection) (all_quotas pool)) ∙ none)

  abbrev its_values : List Quota
  its_values = flat_map quotas_of_category (enumerate_from 0 pool.categories)

  abbrev its_firsts : List ℕ
  its_firsts = filter (is_first_of_shared pool) (everybody pool)

  its_size : length selection ≡ pool.size
  its_size =
      let least = met.0 in let most = met.1.0 in
      let many = count_by-total (λ (i : ℕ). true) selection in let all = total-ones selection in omega (arith, least, most, many, all)

  its_below : list_all (λ i. ltb i (length volunteers)) selection ≡ true
  its_below =
      let many : length (standings pool) ≡ length volunteers = length-map volunteers (λ (volunteer : Volunteer). volunteer.standing) in
      subst (λ n. list_all (λ i. ltb i n) selection ≡ true) many selected.below

  its_standings_from : (first : ℕ) (all : List Volunteer) → keeps selection first (map (λ volunteer. volunteer.standing) all) ≡ true →
      list_all (λ (i, volunteer). allows volunteer.standing (includes selection i)) (enumerate_from first all) ≡ true
  its_standings_from first [] h = refl
  its_standings_from first (one ∷ all) h =
      let A = allows one.standing (includes selection first) in
      let parts = and_parts A (keeps selection (first + 1) (map (λ volunteer. volunteer.standing) all)) h in
      and_from A (list_all (λ (i, volunteer). allows volunteer.standing (includes selection i)) (enumerate_from (first + 1) all)) parts.0 (its_standings_from (first + 1) all parts.1)

  -- ---- values

  values_met : AllByRecursion Met its_values
  values_met = each_left Met its_values (map household_quota its_firsts) met.1.1

  flat_each : {X Y : Type 0} (P : Y → Type 0) (f : X → List Y) (xs : List X) → AllByRecursion P (flat_map f xs) → AllByRecursion (λ x. AllByRecursion P (f x)) xs
  flat_each P f [] h = tt
  flat_each P f (x ∷ xs) h =
      let apart = subst (AllByRecursion P) (flat_map-cons f x xs) h in
      (each_left P (f x) (flat_map f xs) apart, flat_each P f xs (each_right P (f x) (flat_map f xs) apart))

  numbered_at : {X : Type 0} (P : ℕ × X → Type 0) (first : ℕ) (xs : List X) (d : X) → AllByRecursion P (enumerate_from first xs) → (k : ℕ) → k < length xs → P (first + k, get_or xs k d)
  numbered_at P first [] d h k l = absurd (omega arith)
  numbered_at P first (x ∷ xs) d h zero l = let here : first ≡ first + 0 = omega arith in subst (λ n. P (n, x)) here h.0
  numbered_at P first (x ∷ xs) d h (suc k) l =
      let next : (first + 1) + k ≡ first + suc k = omega arith in subst (λ n. P (n, get_or xs k d)) next (numbered_at P (first + 1) xs d h.1 k (omega arith))

  module _ (c v : ℕ) (in_categories : c < length pool.categories) (in_values : v < length (category_at pool c).values) where
    value_met : AllByRecursion Met (both_bounds (WithValue c v))
    value_met =
        let categories = flat_each Met quotas_of_category (enumerate_from 0 pool.categories) values_met in
        let here : 0 + c ≡ c = omega arith in
        let category = subst (λ n. AllByRecursion Met (quotas_of_category (n, category_at pool c))) here
        (numbered_at (λ category. AllByRecursion Met (quotas_of_category category)) 0 pool.categories (record { name = []; values = [] }) categories c in_categories) in
        let values = (category_at pool c).values in
        let there : 0 + v ≡ v = omega arith in
        subst (λ n. AllByRecursion Met (both_bounds (WithValue c n))) there
        (numbered_at (λ value. AllByRecursion Met (of_value c value)) 0 values (record { name = []; lower = 0; upper = 0 }) (flat_each Met (of_value c) (enumerate_from 0 values) category) v in_values)

    value_within : is_within (value_at pool c v) (members_with volunteers selection c v) ≡ true
    value_within =
        let value = value_at pool c v in
        let many = members_with volunteers selection c v in
        let least = value_met.0 in let most = value_met.1.0 in
        and_from (leb value.lower many) (leb many value.upper) (le-leb value.lower many (omega (arith, least))) (le-leb many value.upper (omega (arith, most)))

  its_quotas : meets_quotas pool.categories volunteers selection ≡ true
  its_quotas =
      let meets : ℕ × Category → Bool = λ (category_place, category).
      list_all (λ (value_place, value). is_within value (members_with volunteers selection category_place value_place)) (enumerate_from 0 category.values) in
      list_all-enumerated meets 0 pool.categories (record { name = []; values = [] })
      (λ c l. let here : c ≡ 0 + c = omega arith in subst (λ n. meets (n, category_at pool c) ≡ true) here
      (list_all-enumerated (λ (value_place, value). is_within value (members_with volunteers selection c value_place)) 0 (category_at pool c).values (record { name = []; lower = 0; upper = 0 })
      (λ v m. let there : v ≡ 0 + v = omega arith in subst (λ n. is_within (value_at pool c v) (members_with volunteers selection c n) ≡ true) there (value_within c v l m))))

  -- ---- households

  households_met : AllByRecursion (λ i. Met (household_quota i)) its_firsts
  households_met = each_of_map Met household_quota its_firsts (each_right Met its_values (map household_quota its_firsts) met.1.1)

  module _ (i h : ℕ) (number : shared_household volunteers i ≡ Some h) where
    abbrev share : ℕ → ℕ → Bool
    share = share_household volunteers

    first_number : shared_household volunteers h ≡ Some h
    first_number = sym (share_number volunteers i h (number_shares volunteers i h number)) ∙ number

    many_and_found : (2 ≤ count_by (share h) (everybody pool)) × (find (share h) (everybody pool) ≡ Some h)
    many_and_found = by (leb 2 (count_by (share h) (everybody pool))) refl first_number
      where
        by : (b : Bool) → leb 2 (count_by (share h) (everybody pool)) ≡ b → cond b (find (share h) (everybody pool)) None ≡ Some h → (2 ≤ count_by (share h) (everybody pool)) × (find (share h) (everybody pool) ≡ Some h)
        by true t e = (leb-true 2 (count_by (share h) (everybody pool)) t, e)
        by false t e = absurd cc

    is_first : is_first_of_shared pool h ≡ true
    is_first =
        let below = number_below volunteers i h number in
        let earlier = none_any (share h) 0 h (λ k l m. none_before (share h) 0 (length volunteers) h many_and_found.1 k l (omega arith)) in
        let A = ltb h (length volunteers) in let B = share h h in let C = not (list_any (share h) (range_with_len 0 h)) in
        let nobody : C ≡ true = rw earlier refl in
        and_from (A && B && C) (leb 2 (count_by (share h) (everybody pool)))
        (and_from (A && B) C (and_from A B (lt-ltb h (length volunteers) below) (number_shares volunteers h h first_number)) nobody)
        (le-leb 2 (count_by (share h) (everybody pool)) many_and_found.0)

    few : count_by (share h) selection ≤ 1
    few =
        let each = each_from_filter (λ k. Met (household_quota k)) (is_first_of_shared pool) (everybody pool) households_met in
        let met_here = range_each (λ k. is_first_of_shared pool k ≡ true → Met (household_quota k)) 0 (length volunteers) h each (omega arith) (let below = number_below volunteers i h number in omega (arith, below)) is_first in
        omega (arith, met_here)

    of_number : (j : ℕ) → is_of_household h (shared_household volunteers j) ≡ true → share h j ≡ true
    of_number j e = by (shared_household volunteers j) refl e
      where
        by : (found : Option ℕ) → shared_household volunteers j ≡ found → is_of_household h found ≡ true → share h j ≡ true
        by None f t = absurd (false≢true t)
        by (Some k) f t =
            let same : k ≡ h = eqb-true k h t in
            share_back volunteers j h (number_shares volunteers j h (f ∙ ap Some same))

    few_of_number : count_by (λ j. is_of_household h (shared_household volunteers j)) selection ≤ 1
    few_of_number =
        let p : ℕ → Bool = λ j. is_of_household h (shared_household volunteers j) in
        let le = total_le (λ j. one_if (p j)) (λ j. one_if (share h j)) selection (each_everywhere (λ j. one_if (p j) ≤ one_if (share h j)) (λ j. fewer_true (p j) (share h j) (of_number j)) selection) in
        omega (arith, le, few, count_by-total p selection, count_by-total (share h) selection)

  its_households : keeps_households volunteers selection ≡ true
  its_households =
      households_kept volunteers selection selected.up its_below
      (each_everywhere (λ i. (h : ℕ) → shared_household volunteers i ≡ Some h → count_by (λ j. is_of_household h (shared_household volunteers j)) selection ≤ 1) few_of_number selection)

  is_panel : is_quota_panel pool selection ≡ true
  is_panel = quota_from pool selection (record {
    size = its_size;
    up = selected.up;
    below = its_below;
    standings = its_standings_from 0 volunteers selected.kept;
    quotas = its_quotas;
    households = its_households;
  })

-- ---- the conflict

pub all_conflict : (pool : Pool) → panels pool ≡ [] → IsConflict pool (all_together pool)
all_conflict pool empty = record {
  of_pool = all_of_pool pool;
  different = none_twice pool;
  misses = missed_all;
  some = omega arith;
  none = no_panels pool (all_quotas pool) 1 (all_of_pool pool) missed_all (omega arith);
  no_panel = empty;
  needed = λ said. absurd (false≢true said);
}
  where
    missed_all : MissBy pool (all_quotas pool) 1
    missed_all selection is =
        ⊎_elim (λ (few : misses pool selection (all_quotas pool) < 1).
        absurd (each_panel (λ _. ⊥) pool (subst (AllByRecursion (λ _. ⊥)) (sym empty) tt) selection (is_panel pool selection is (omega arith))))
        (λ (some : 1 ≤ misses pool selection (all_quotas pool)). some) (cases_lt (misses pool selection (all_quotas pool)) 1)
