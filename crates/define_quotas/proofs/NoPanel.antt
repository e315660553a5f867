-- If each selection misses some quotas, the pool with only these quotas has no quota panel, and neither has the pool: a quota panel of
-- either is a selection that meets them.
use Rattle.std.proofs.Common.{◌≡◌, ℕ, zero, suc, ◌+◌, ◌≤◌, ◌<◌, Bool, true, false, cond, ◌&&◌, ◌||◌, eqb, leb, ltb, List, [], ◌∷◌, map, length, get_or, count_by, None, refl, sym, ap, ◌∙◌, subst, arith, ◌⊎◌, inl, inr, ⊎_elim}
use Rattle.std.specs.Prelude.{slice_index}
use Rattle.std.specs.List.{AllByRecursion, enumerate_from, list_all}
use Rattle.std.proofs.lemmas.Bool.{and_from, and_parts, eq-eqb, false_from_ne_true, leb-true, ltb-true}
use Rattle.std.proofs.lemmas.List.{length-map}
use Rattle.define_pools.proofs.Each.{each_both, each_everywhere, each_from_list_all, each_map, enumerated-each, none_pass}
use Rattle.define_pools.proofs.Lists.{length-enumerate_from}
use Rattle.define_pools.proofs.Sums.{count_by-total, one_if, sum_by-is-total, total, total-ones, total_ext, total_le}
use Rattle.define_pools.specs.Lists.{choices, includes, is_increasing}
use Rattle.define_pools.specs.Pool.{BoundedValue, Category, Pool, Volunteer, allows, everybody, is_quota_panel, is_same_household, is_within, members_with, panels, share_household, volunteer}
use Rattle.define_pools.specs.declared.Standing.TheVariants.{Gone}
use Rattle.define_pools.proofs.AllPanels.{Quota as Parts, quota_parts}
use Rattle.define_searches.proofs.Households.{same_name}
use Rattle.define_proofs.specs.Leaves.{standings}
use Rattle.define_quotas.specs.declared.Counted.{Counted}
use Rattle.define_quotas.specs.declared.Counted.TheVariants.{Everybody, WithValue, OfHousehold}
use Rattle.define_quotas.specs.declared.Quota.{Quota}
use Rattle.define_quotas.specs.declared.Side.{Side}
use Rattle.define_quotas.specs.declared.Side.TheVariants.{AtLeast, AtMost}
use Rattle.define_quotas.specs.LeastMisses.{is_side}
use Rattle.define_quotas.specs.OnlyQuotas.{has_household, names_value, is_in_household, is_of_value, only, only_category, only_value, only_volunteer}
use Rattle.define_quotas.specs.Quotas.{MissBy, bound_of, category_at, is_counted, is_counted_of, is_quota_of, is_selection, keeps, miss, missed, misses, value_at}

-- ---- numbers of elements that pass a test

-- element `k` of a numbered list that is mapped by `f` is `f` of its number and of element `k` of the list
at_enumerated : {X Y : Type 0} (f : ℕ × X → Y) (first : ℕ) (xs : List X) (k : ℕ) (d : X) (e : Y) → k < length xs → get_or (map f (enumerate_from first xs)) k e ≡ f (first + k, get_or xs k d)
at_enumerated f first [] k d e l = absurd (omega arith)
at_enumerated f first (x ∷ xs) zero d e l = ap (λ n. f (n, x)) (let h : first ≡ first + 0 = omega arith in h)
at_enumerated f first (x ∷ xs) (suc k) d e l = at_enumerated f (first + 1) xs k d e (omega arith) ∙ ap (λ n. f (n, get_or xs k d)) (let h : (first + 1) + k ≡ first + suc k = omega arith in h)

same_count : (p q : ℕ → Bool) → ((i : ℕ) → p i ≡ q i) → (xs : List ℕ) → count_by p xs ≡ count_by q xs
same_count p q e xs = count_by-total p xs ∙ total_ext (λ i. one_if (p i)) (λ i. one_if (q i)) (λ i. ap one_if (e i)) xs ∙ sym (count_by-total q xs)

everybody_counts : (xs : List ℕ) → count_by (λ i. true) xs ≡ length xs
everybody_counts xs = count_by-total (λ i. true) xs ∙ total-ones xs

implied_le : (a b : Bool) → (a ≡ true → b ≡ true) → one_if a ≤ one_if b
implied_le true b f = let t = f refl in rw t (omega arith)
implied_le false b f = omega arith

fewer_pass : (p q : ℕ → Bool) → ((j : ℕ) → p j ≡ true → q j ≡ true) → (xs : List ℕ) → count_by p xs ≤ count_by q xs
fewer_pass p q f xs =
    let le = total_le (λ j. one_if (p j)) (λ j. one_if (q j)) xs (each_everywhere (λ j. one_if (p j) ≤ one_if (q j)) (λ j. implied_le (p j) (q j) (f j)) xs) in
    let left = count_by-total p xs in let right = count_by-total q xs in omega (arith, le, left, right)

-- if `many` is at most 1 whenever an element of `xs` passes, then no element of `xs` passes, or `many` is at most 1
none_or_one : (p : ℕ → Bool) (many : ℕ) (xs : List ℕ) → AllByRecursion (λ i. p i ≡ true → many ≤ 1) xs → (total (λ i. one_if (p i)) xs ≡ 0) ⊎ (many ≤ 1)
none_or_one p many [] h = inl refl
none_or_one p many (x ∷ xs) h =
    let rest = none_or_one p many xs h.1 in
    (elim (p x) as (λ b. p x ≡ b → (one_if b + total (λ i. one_if (p i)) xs ≡ 0) ⊎ (many ≤ 1)) [
      | true ↦ λ e. inr (h.0 e)
      | false ↦ λ e. ⊎_elim (λ (none : total (λ i. one_if (p i)) xs ≡ 0). inl (omega arith)) (λ (few : many ≤ 1). inr few) rest
    ]) refl

or_later : (a b : Bool) → b ≡ true → (a || b) ≡ true
or_later true b e = refl
or_later false b e = e

or_first : (a b : Bool) → a ≡ true → (a || b) ≡ true
or_first true b e = refl
or_first false b e = absurd cc

same_side : (side : Side) → is_side side side ≡ true
same_side AtLeast = refl
same_side AtMost = refl

-- ---- the pool with only some quotas keeps each of these quotas

module _ (pool : Pool) where
  -- the pool `only pool quotas` keeps the quota of this side that counts `counted`: the size always; a value if `quotas` has the value on
  -- this side; a household if, for each of its members, one of the quotas is of the household
  Named : List Quota → Side → Counted → Type 0
  Named quotas side Everybody = Unit {0}
  Named quotas side (WithValue category value) = names_value quotas side category value ≡ true
  Named quotas side (OfHousehold member) = (i : ℕ) → share_household pool.volunteers member i ≡ true → has_household pool quotas i ≡ true

  named_here : (quotas : List Quota) (side : Side) (counted : Counted) → Named (record { counted = counted; side = side } ∷ quotas) side counted
  unfolding Named
  named_here quotas side Everybody = tt
  named_here quotas side (WithValue category value) =
      or_first (is_side side side && (eqb category category && eqb value value)) (names_value quotas side category value)
      (and_from (is_side side side) (eqb category category && eqb value value) (same_side side)
      (and_from (eqb category category) (eqb value value) (eq-eqb category category refl) (eq-eqb value value refl)))
  named_here quotas side (OfHousehold member) = λ i h. or_first (share_household pool.volunteers member i) (has_household pool quotas i) h

  named_later : (quota : Quota) (quotas : List Quota) (side : Side) (counted : Counted) → Named quotas side counted → Named (quota ∷ quotas) side counted
  unfolding Named
  named_later quota quotas side Everybody h = tt
  named_later quota quotas side (WithValue category value) h = or_later (is_side side quota.side && is_of_value category value quota.counted) (names_value quotas side category value) h
  named_later quota quotas side (OfHousehold member) h = λ i e. or_later (is_in_household pool i quota.counted) (has_household pool quotas i) (h i e)

  each_named : (quotas : List Quota) → AllByRecursion (λ quota. Named quotas quota.side quota.counted) quotas
  each_named [] = tt
  each_named (quota ∷ quotas) = (
    named_here quotas quota.side quota.counted,
    each_map (λ own. Named quotas own.side own.counted) (λ own. Named (quota ∷ quotas) own.side own.counted) (λ own h. named_later quota quotas own.side own.counted h) quotas (each_named quotas),
  )

  -- ---- volunteers of the pool with only these quotas

  module _ (quotas : List Quota) where
    abbrev nobody : Volunteer
    nobody = record { id = []; values = []; standing = Gone; household = None }

    abbrev left : ℕ → List Volunteer → List Volunteer
    left first volunteers = map (only_volunteer pool quotas) (enumerate_from first volunteers)

    same_values : (first : ℕ) (volunteers : List Volunteer) (i : ℕ) → (volunteer (left first volunteers) i).values ≡ (volunteer volunteers i).values
    same_values first [] i = refl
    same_values first (one ∷ volunteers) zero = refl
    same_values first (one ∷ volunteers) (suc i) = same_values (first + 1) volunteers i

    -- if a quota counts a volunteer's household, the volunteer has the same household in the pool with only these quotas
    same_household : (first : ℕ) (volunteers : List Volunteer) (i : ℕ) → has_household pool quotas (first + i) ≡ true → (volunteer (left first volunteers) i).household ≡ (volunteer volunteers i).household
    same_household first [] i h = refl
    same_household first (one ∷ volunteers) zero h =
        let here : first + 0 ≡ first = omega arith in
        ap (λ b. cond b one.household None) (subst (λ n. has_household pool quotas n ≡ true) here h)
    same_household first (one ∷ volunteers) (suc i) h =
        let next : first + suc i ≡ (first + 1) + i = omega arith in
        same_household (first + 1) volunteers i (subst (λ n. has_household pool quotas n ≡ true) next h)

    same_standings : (panel : List ℕ) (first : ℕ) (volunteers : List Volunteer) →
        list_all (λ (i, volunteer). allows volunteer.standing (includes panel i)) (enumerate_from first (left first volunteers)) ≡ true →
        keeps panel first (map (λ volunteer. volunteer.standing) volunteers) ≡ true
    same_standings panel first [] h = refl
    same_standings panel first (one ∷ volunteers) h =
        let A = allows one.standing (includes panel first) in
        let parts = and_parts A (list_all (λ (i, volunteer). allows volunteer.standing (includes panel i)) (enumerate_from (first + 1) (left (first + 1) volunteers))) h in
        and_from A (keeps panel (first + 1) (map (λ volunteer. volunteer.standing) volunteers)) parts.0 (same_standings panel (first + 1) volunteers parts.1)

    -- ---- a quota panel of the pool with only these quotas

    module _ (panel : List ℕ) (is : is_quota_panel (only pool quotas) panel ≡ true) where
      abbrev kept : Pool
      kept = only pool quotas

      parts : Parts kept panel
      parts = quota_parts kept panel is

      selected : is_selection pool panel ≡ true
      selected =
          let many : length (standings pool) ≡ length kept.volunteers =
          length-map pool.volunteers (λ (volunteer : Volunteer). volunteer.standing)
          ∙ sym (length-enumerate_from 0 pool.volunteers) ∙ sym (length-map (enumerate_from 0 pool.volunteers) (only_volunteer pool quotas)) in
          let B : ℕ → Bool = λ n. list_all (λ i. ltb i n) panel in
          and_from (is_increasing panel && B (length (standings pool))) (keeps panel 0 (standings pool))
          (and_from (is_increasing panel) (B (length (standings pool))) parts.up (subst (λ n. B n ≡ true) (sym many) parts.below))
          (same_standings panel 0 pool.volunteers parts.standings)

      -- ---- the panel misses no quota of a value

      module _ (c v : ℕ) (in_categories : c < length pool.categories) (in_values : v < length (category_at pool c).values) where
        abbrev none : Category
        none = record { name = []; values = [] }

        abbrev no_value : BoundedValue
        no_value = record { name = []; lower = 0; upper = 0 }

        many_categories : length (map (only_category quotas) (enumerate_from 0 pool.categories)) ≡ length pool.categories
        many_categories = length-map (enumerate_from 0 pool.categories) (only_category quotas) ∙ length-enumerate_from 0 pool.categories

        many_values : length (map (only_value quotas c) (enumerate_from 0 (category_at pool c).values)) ≡ length (category_at pool c).values
        many_values = length-map (enumerate_from 0 (category_at pool c).values) (only_value quotas c) ∙ length-enumerate_from 0 (category_at pool c).values

        abbrev values_within : ℕ × Category → Bool
        values_within (place, category) = list_all (λ (value_place, value). is_within value (members_with kept.volunteers panel place value_place)) (enumerate_from 0 category.values)

        category_within : values_within (c, only_category quotas (c, category_at pool c)) ≡ true
        category_within =
            let here : 0 + c ≡ c = omega arith in
            let at = enumerated-each values_within 0 kept.categories parts.quotas c none (omega (arith, many_categories, in_categories)) in
            let is = at_enumerated (only_category quotas) 0 pool.categories c none none in_categories in
            subst (λ n. values_within (c, only_category quotas (n, category_at pool c)) ≡ true) here
            (subst (λ n. values_within (n, only_category quotas (0 + c, category_at pool c)) ≡ true) here
            (subst (λ category. values_within (0 + c, category) ≡ true) is at))

        value_within : is_within (only_value quotas c (v, value_at pool c v)) (members_with kept.volunteers panel c v) ≡ true
        value_within =
            let here : 0 + v ≡ v = omega arith in
            let within : ℕ × BoundedValue → Bool = λ (value_place, value). is_within value (members_with kept.volunteers panel c value_place) in
            let at = enumerated-each within 0 (map (only_value quotas c) (enumerate_from 0 (category_at pool c).values)) category_within v no_value (omega (arith, many_values, in_values)) in
            let is = at_enumerated (only_value quotas c) 0 (category_at pool c).values v no_value no_value in_values in
            subst (λ n. is_within (only_value quotas c (n, value_at pool c v)) (members_with kept.volunteers panel c n) ≡ true) here
            (subst (λ value. is_within value (members_with kept.volunteers panel c (0 + v)) ≡ true) is at)

        same_members : members_with kept.volunteers panel c v ≡ count_by (is_counted pool (WithValue c v)) panel
        same_members =
            same_count (λ i. eqb (slice_index (volunteer kept.volunteers i).values c) v) (is_counted pool (WithValue c v))
            (λ i. ap (λ values. eqb (slice_index values c) v) (same_values 0 pool.volunteers i)) panel

        value_met : (side : Side) → names_value quotas side c v ≡ true → missed side (bound_of pool side (WithValue c v)) (count_by (is_counted pool (WithValue c v)) panel) ≡ 0
        value_met AtLeast named =
            let many = members_with kept.volunteers panel c v in
            let value = value_at pool c v in
            let both = and_parts (leb (cond (names_value quotas AtLeast c v) value.lower 0) many) (leb many (cond (names_value quotas AtMost c v) value.upper 999)) value_within in
            let least = leb-true value.lower many (subst (λ b. leb (cond b value.lower 0) many ≡ true) named both.0) in
            let same = same_members in omega (arith, least, same)
        value_met AtMost named =
            let many = members_with kept.volunteers panel c v in
            let value = value_at pool c v in
            let both = and_parts (leb (cond (names_value quotas AtLeast c v) value.lower 0) many) (leb many (cond (names_value quotas AtMost c v) value.upper 999)) value_within in
            let most = leb-true many value.upper (subst (λ b. leb many (cond b value.upper 999) ≡ true) named both.1) in
            let same = same_members in omega (arith, most, same)

      -- ---- the panel misses no quota of a household

      module _ (member : ℕ) (named : (i : ℕ) → share_household pool.volunteers member i ≡ true → has_household pool quotas i ≡ true) where
        abbrev share : ℕ → Bool
        share i = share_household pool.volunteers member i

        household_kept : (i : ℕ) → share i ≡ true → (volunteer kept.volunteers i).household ≡ (volunteer pool.volunteers i).household
        household_kept i h = same_household 0 pool.volunteers i (let here : i ≡ 0 + i = omega arith in subst (λ n. has_household pool quotas n ≡ true) here (named i h))

        -- two volunteers of the member's household share it in the pool with only these quotas
        still_share : (i j : ℕ) → share i ≡ true → share j ≡ true → share_household kept.volunteers i j ≡ true
        still_share i j h k =
            let own = (volunteer pool.volunteers member).household in
            let one = household_kept i h ∙ sym (same_name own (volunteer pool.volunteers i).household h) in
            let other = household_kept j k in
            subst (λ name. is_same_household name (volunteer kept.volunteers j).household ≡ true) (sym one)
            (subst (λ name. is_same_household own name ≡ true) (sym other) k)

        few : count_by share panel ≤ 1
        few =
            let each = each_map (λ i. leb (count_by (share_household kept.volunteers i) panel) 1 ≡ true) (λ i. share i ≡ true → count_by share panel ≤ 1)
            (λ i e h. let le = leb-true (count_by (share_household kept.volunteers i) panel) 1 e in
            let fewer = fewer_pass share (share_household kept.volunteers i) (λ j k. still_share i j h k) panel in omega (arith, le, fewer)) panel
            (each_from_list_all (λ i. leb (count_by (share_household kept.volunteers i) panel) 1) panel parts.households) in
            let same = count_by-total share panel in
            ⊎_elim (λ (no : total (λ i. one_if (share i)) panel ≡ 0). let r : count_by share panel ≤ 1 = omega (arith, no, same) in r)
            (λ (one : count_by share panel ≤ 1). one) (none_or_one share (count_by share panel) panel each)

        household_met : (side : Side) → missed side (bound_of pool side (OfHousehold member)) (count_by (is_counted pool (OfHousehold member)) panel) ≡ 0
        household_met AtLeast = omega arith
        household_met AtMost = let le = few in omega (arith, le)

      -- ---- the panel misses no quota

      size_met : (side : Side) → missed side pool.size (count_by (λ i. true) panel) ≡ 0
      size_met AtLeast = let many = everybody_counts panel in let size = parts.size in omega (arith, many, size)
      size_met AtMost = let many = everybody_counts panel in let size = parts.size in omega (arith, many, size)

      counted_met : (side : Side) (counted : Counted) → is_counted_of pool counted ≡ true → Named quotas side counted →
          missed side (bound_of pool side counted) (count_by (is_counted pool counted) panel) ≡ 0
      unfolding Named
      counted_met side Everybody of_pool named = any side
        where
          any : (side : Side) → missed side (bound_of pool side Everybody) (count_by (is_counted pool Everybody) panel) ≡ 0
          any AtLeast = size_met AtLeast
          any AtMost = size_met AtMost
      counted_met side (WithValue c v) of_pool named =
          let both = and_parts (ltb c (length pool.categories)) (ltb v (length (category_at pool c).values)) of_pool in
          value_met c v (ltb-true c (length pool.categories) both.0) (ltb-true v (length (category_at pool c).values) both.1) side named
      counted_met side (OfHousehold member) of_pool named = household_met member named side

      none_missed : list_all (is_quota_of pool) quotas ≡ true → misses pool panel quotas ≡ 0
      none_missed of_pool =
          let each = each_map (λ quota. (is_quota_of pool quota ≡ true) × Named quotas quota.side quota.counted) (λ quota. miss pool panel quota ≡ 0)
          (λ quota both. counted_met quota.side quota.counted both.0 both.1) quotas
          (each_both (λ quota. is_quota_of pool quota ≡ true) (λ quota. Named quotas quota.side quota.counted) quotas (each_from_list_all (is_quota_of pool) quotas of_pool) (each_named quotas)) in
          sum_by-is-total (miss pool panel) quotas ∙ zero_sum quotas each
        where
          zero_sum : (xs : List Quota) → AllByRecursion (λ quota. miss pool panel quota ≡ 0) xs → total (miss pool panel) xs ≡ 0
          zero_sum [] h = refl
          zero_sum (x ∷ xs) h = let rest = zero_sum xs h.1 in omega (arith, h.0, rest)

-- ---- the pool with only these quotas has no quota panel

pub no_panels : (pool : Pool) (quotas : List Quota) (least : ℕ) → list_all (is_quota_of pool) quotas ≡ true → MissBy pool quotas least → 1 ≤ least → panels (only pool quotas) ≡ []
no_panels pool quotas least of_pool missing some =
    let kept = only pool quotas in
    none_pass (is_quota_panel kept) (choices kept.size (everybody kept))
    (each_everywhere (λ panel. is_quota_panel kept panel ≡ false) (λ panel. false_from_ne_true (is_quota_panel kept panel) (λ is. refuted panel is)) (choices kept.size (everybody kept)))
  where
    refuted : (panel : List ℕ) → is_quota_panel (only pool quotas) panel ≡ true → ⊥
    refuted panel is =
        let least_missed = missing panel (selected pool quotas panel is) in
        let none = none_missed pool quotas panel is of_pool in omega (arith, least_missed, none, some)

-- ---- a quota panel of the pool itself

module _ (pool : Pool) (panel : List ℕ) (is : is_quota_panel pool panel ≡ true) where
  own_parts : Parts pool panel
  own_parts = quota_parts pool panel is

  own_standings : (first : ℕ) (volunteers : List Volunteer) → list_all (λ (i, volunteer). allows volunteer.standing (includes panel i)) (enumerate_from first volunteers) ≡ true →
      keeps panel first (map (λ volunteer. volunteer.standing) volunteers) ≡ true
  own_standings first [] h = refl
  own_standings first (one ∷ volunteers) h =
      let A = allows one.standing (includes panel first) in
      let parts = and_parts A (list_all (λ (i, volunteer). allows volunteer.standing (includes panel i)) (enumerate_from (first + 1) volunteers)) h in
      and_from A (keeps panel (first + 1) (map (λ volunteer. volunteer.standing) volunteers)) parts.0 (own_standings (first + 1) volunteers parts.1)

  pub own_selected : is_selection pool panel ≡ true
  own_selected =
      let many : length (standings pool) ≡ length pool.volunteers = length-map pool.volunteers (λ (volunteer : Volunteer). volunteer.standing) in
      let B : ℕ → Bool = λ n. list_all (λ i. ltb i n) panel in
      and_from (is_increasing panel && B (length (standings pool))) (keeps panel 0 (standings pool))
      (and_from (is_increasing panel) (B (length (standings pool))) own_parts.up (subst (λ n. B n ≡ true) (sym many) own_parts.below))
      (own_standings 0 pool.volunteers own_parts.standings)

  abbrev own_within : ℕ × Category → Bool
  own_within (place, category) = list_all (λ (value_place, value). is_within value (members_with pool.volunteers panel place value_place)) (enumerate_from 0 category.values)

  module _ (c v : ℕ) (in_categories : c < length pool.categories) (in_values : v < length (category_at pool c).values) where
    own_category : own_within (c, category_at pool c) ≡ true
    own_category =
        let here : 0 + c ≡ c = omega arith in
        subst (λ n. own_within (n, category_at pool c) ≡ true) here
        (enumerated-each own_within 0 pool.categories own_parts.quotas c (record { name = []; values = [] }) in_categories)

    own_value : is_within (value_at pool c v) (members_with pool.volunteers panel c v) ≡ true
    own_value =
        let here : 0 + v ≡ v = omega arith in
        let within : ℕ × BoundedValue → Bool = λ (value_place, value). is_within value (members_with pool.volunteers panel c value_place) in
        subst (λ n. is_within (value_at pool c v) (members_with pool.volunteers panel c n) ≡ true) here
        (enumerated-each within 0 (category_at pool c).values own_category v (record { name = []; lower = 0; upper = 0 }) in_values)

    own_value_met : (side : Side) → missed side (bound_of pool side (WithValue c v)) (count_by (is_counted pool (WithValue c v)) panel) ≡ 0
    own_value_met AtLeast =
        let many = members_with pool.volunteers panel c v in
        let value = value_at pool c v in
        let least = leb-true value.lower many (and_parts (leb value.lower many) (leb many value.upper) own_value).0 in omega (arith, least)
    own_value_met AtMost =
        let many = members_with pool.volunteers panel c v in
        let value = value_at pool c v in
        let most = leb-true many value.upper (and_parts (leb value.lower many) (leb many value.upper) own_value).1 in omega (arith, most)

  module _ (member : ℕ) where
    abbrev shares : ℕ → Bool
    shares i = share_household pool.volunteers member i

    -- two volunteers of the member's household share it
    shares_too : (i j : ℕ) → shares i ≡ true → shares j ≡ true → share_household pool.volunteers i j ≡ true
    shares_too i j h k =
        let own = (volunteer pool.volunteers member).household in
        subst (λ name. is_same_household name (volunteer pool.volunteers j).household ≡ true) (same_name own (volunteer pool.volunteers i).household h) k

    own_few : count_by shares panel ≤ 1
    own_few =
        let each = each_map (λ i. leb (count_by (share_household pool.volunteers i) panel) 1 ≡ true) (λ i. shares i ≡ true → count_by shares panel ≤ 1)
        (λ i e h. let le = leb-true (count_by (share_household pool.volunteers i) panel) 1 e in
        let fewer = fewer_pass shares (share_household pool.volunteers i) (λ j k. shares_too i j h k) panel in omega (arith, le, fewer)) panel
        (each_from_list_all (λ i. leb (count_by (share_household pool.volunteers i) panel) 1) panel own_parts.households) in
        let same = count_by-total shares panel in
        ⊎_elim (λ (no : total (λ i. one_if (shares i)) panel ≡ 0). let r : count_by shares panel ≤ 1 = omega (arith, no, same) in r)
        (λ (one : count_by shares panel ≤ 1). one) (none_or_one shares (count_by shares panel) panel each)

    pub own_household_met : (side : Side) → missed side (bound_of pool side (OfHousehold member)) (count_by (is_counted pool (OfHousehold member)) panel) ≡ 0
    own_household_met AtLeast = omega arith
    own_household_met AtMost = let le = own_few in omega (arith, le)

  pub own_size_met : (side : Side) → missed side (bound_of pool side Everybody) (count_by (is_counted pool Everybody) panel) ≡ 0
  own_size_met AtLeast = let many = everybody_counts panel in let size = own_parts.size in omega (arith, many, size)
  own_size_met AtMost = let many = everybody_counts panel in let size = own_parts.size in omega (arith, many, size)

  own_met : (side : Side) (counted : Counted) → is_counted_of pool counted ≡ true → missed side (bound_of pool side counted) (count_by (is_counted pool counted) panel) ≡ 0
  own_met side Everybody of_pool = own_size_met side
  own_met side (WithValue c v) of_pool =
      let both = and_parts (ltb c (length pool.categories)) (ltb v (length (category_at pool c).values)) of_pool in
      own_value_met c v (ltb-true c (length pool.categories) both.0) (ltb-true v (length (category_at pool c).values) both.1) side
  own_met side (OfHousehold member) of_pool = own_household_met member side

  own_none_missed : (quotas : List Quota) → list_all (is_quota_of pool) quotas ≡ true → misses pool panel quotas ≡ 0
  own_none_missed quotas of_pool =
      let each = each_map (λ quota. is_quota_of pool quota ≡ true) (λ quota. miss pool panel quota ≡ 0) (λ quota own. own_met quota.side quota.counted own) quotas
      (each_from_list_all (is_quota_of pool) quotas of_pool) in
      sum_by-is-total (miss pool panel) quotas ∙ zero_sum quotas each
    where
      zero_sum : (xs : List Quota) → AllByRecursion (λ quota. miss pool panel quota ≡ 0) xs → total (miss pool panel) xs ≡ 0
      zero_sum [] h = refl
      zero_sum (x ∷ xs) h = let rest = zero_sum xs h.1 in omega (arith, h.0, rest)

pub pool_has_none : (pool : Pool) (quotas : List Quota) (least : ℕ) → list_all (is_quota_of pool) quotas ≡ true → MissBy pool quotas least → 1 ≤ least → panels pool ≡ []
pool_has_none pool quotas least of_pool missing some =
    none_pass (is_quota_panel pool) (choices pool.size (everybody pool))
    (each_everywhere (λ panel. is_quota_panel pool panel ≡ false) (λ panel. false_from_ne_true (is_quota_panel pool panel) (λ is. refuted panel is)) (choices pool.size (everybody pool)))
  where
    refuted : (panel : List ℕ) → is_quota_panel pool panel ≡ true → ⊥
    refuted panel is =
        let least_missed = missing panel (own_selected pool panel is) in
        let none = own_none_missed pool panel is quotas of_pool in omega (arith, least_missed, none, some)
