-- The greatest sum of `count` units without a table. It needs the weight of the lightest unit in the sum: the level. At most `count` units
-- are heavier than the level, and at least `count` are no lighter. The sum is that of the heavier units, plus the level for each unit more.
-- The proofs of `units` cite it.
use Rattle.std.proofs.Common.{◌≡◌, ℕ, zero, suc, ◌+◌, ◌-◌, ◌*◌, ◌^◌, ◌≤◌, ◌<◌, Bool, true, false, cond, ◌&&◌, eqb, leb, List, [], ◌∷◌, ◌++◌, length, take, drop, replicate, ℤ, pos, ◌+ℤ◌, ◌*ℤ◌, refl, sym, ap, ◌∙◌, arith, subst, length-drop}
use Rattle.std.specs.Prelude.{int_le, int_lt, unsigned_abs}
use Rattle.std.specs.List.{AllByRecursion}
use Rattle.std.proofs.lemmas.Bool.{and_from, and_parts, eqb-false, eqb-true, false≢true, le-leb, leb-true}
use Rattle.std.proofs.lemmas.Int.{ints}
use borrow.Author.Differences.{lt-true, lt-false, le-true, le-false}
use Rattle.define_pools.proofs.Each.{each_map}
use Rattle.define_pools.proofs.Integers.{product-parts, zero-mul}
use Rattle.define_rows.proofs.SumLaws.{abs_sum_le}
use Rattle.define_searches.specs.Classes.{Class, Classes}
use Rattle.define_searches.specs.Fronts.{most_given, put_falling, falling, units, sum_of}
use Rattle.define_searches.proofs.GreatestSum.{AtMost, Falls, falling_falls, length-falling, length-replicate}
use Rattle.define_searches.specs.Weights.{at, units_from}
use Rattle.define_searches.proofs.Tracking.{most_more, most_of_none}
use Rattle.define_searches.proofs.UnitSums.{sum_more, width, same_units_width}
use Rattle.define_searches.proofs.WeightLaws.{weight_fits}
use Rattle.panel_search.proofs.Counted.{drop_all}
use Rattle.panel_search.specs.Units.{IsBeside, heavier, heavier_sum, no_lighter, units_with}
use Rattle.panel_search.specs.declared.units.Beside.{Beside}

-- ---- counts and sums don't depend on the order of the units

with_put : (p : ℤ → Bool) (x : ℤ) (ys : List ℤ) → units_with p (put_falling x ys) ≡ units_with p (x ∷ ys)
with_put p x [] = refl
with_put p x (y ∷ ys) =
    let rest = with_put p x ys in
    elim (int_le y x) as (λ b. units_with p (cond b (x ∷ (y ∷ ys)) (y ∷ put_falling x ys)) ≡ units_with p (x ∷ (y ∷ ys))) [
      | true ↦ refl
      | false ↦ omega arith
    ]

with_falling : (p : ℤ → Bool) (us : List ℤ) → units_with p (falling us) ≡ units_with p us
with_falling p [] = refl
with_falling p (x ∷ us) = omega (arith, with_put p x (falling us), with_falling p us)

sum_put : (t x : ℤ) (ys : List ℤ) → heavier_sum t (put_falling x ys) ≡ heavier_sum t (x ∷ ys)
sum_put t x [] = refl
sum_put t x (y ∷ ys) =
    let rest = sum_put t x ys in
    elim (int_le y x) as (λ b. heavier_sum t (cond b (x ∷ (y ∷ ys)) (y ∷ put_falling x ys)) ≡ heavier_sum t (x ∷ (y ∷ ys))) [
      | true ↦ refl
      | false ↦ omega (arith, ints)
    ]

sum_falling : (t : ℤ) (us : List ℤ) → heavier_sum t (falling us) ≡ heavier_sum t us
sum_falling t [] = refl
sum_falling t (x ∷ us) = sum_put t x (falling us) ∙ ap (λ s. cond (int_lt t x) x (pos 0) +ℤ s) (sum_falling t us)

-- ---- in a falling list

-- If each unit weighs at most `t`, no unit is heavier than `t`, and the heavier ones sum to 0.
none_heavier : (t : ℤ) (ys : List ℤ) → AllByRecursion (λ z. AtMost z t) ys → (heavier t ys ≡ 0) × (heavier_sum t ys ≡ pos 0)
none_heavier t [] each = (refl, refl)
none_heavier t (y ∷ ys) each =
    let rest = none_heavier t ys each.1 in let here = each.0 in
    (elim (int_lt t y) as (λ b. int_lt t y ≡ b → (cond b 1 0 + heavier t ys ≡ 0) × (cond b y (pos 0) +ℤ heavier_sum t ys ≡ pos 0)) [
      | true ↦ λ e. let l = lt-true t y e in absurd (omega arith)
      | false ↦ λ e. (omega arith, omega (arith, ints))
    ]) refl

-- If each unit weighs at most `y`, and `y` is lighter than `t`, no unit weighs at least `t`.
all_lighter : (t y : ℤ) (ys : List ℤ) → AllByRecursion (λ z. AtMost z y) ys → int_le t y ≡ false → no_lighter t ys ≡ 0
all_lighter t y [] each e = refl
all_lighter t y (z ∷ zs) each e =
    let rest = all_lighter t y zs each.1 e in let here = each.0 in let light = le-false t y e in
    (elim (int_le t z) as (λ b. int_le t z ≡ b → cond b 1 0 + no_lighter t zs ≡ 0) [
      | true ↦ λ f. let l = le-true t z f in absurd (omega arith)
      | false ↦ λ f. omega arith
    ]) refl

next_product : (k : ℕ) (t : ℤ) → t +ℤ pos k *ℤ t ≡ pos (suc k) *ℤ t
next_product k t = omega (arith, ints, product-parts k t, product-parts (suc k) t)

-- If each unit weighs at most `t`, and `k` of them weigh at least `t`, the first `k` of the falling list sum to `k` times `t`.
level_sum : (t : ℤ) (ys : List ℤ) (k : ℕ) → Falls ys → AllByRecursion (λ z. AtMost z t) ys → k ≤ no_lighter t ys → sum_of (take k ys) ≡ pos k *ℤ t
level_sum t ys zero falls each l = sym (zero-mul t)
level_sum t [] (suc k) falls each l = absurd (omega arith)
level_sum t (y ∷ ys) (suc k) falls each l =
    let here = each.0 in
    (elim (int_le t y) as (λ b. int_le t y ≡ b → suc k ≤ cond b 1 0 + no_lighter t ys → sum_of (y ∷ take k ys) ≡ pos (suc k) *ℤ t) [
      | true ↦ λ e m.
          let h = le-true t y e in let same : y ≡ t = omega (arith, ints) in
          let rest = level_sum t ys k falls.1 each.1 (omega arith) in
          sum_more y (take k ys) ∙ ap (λ z. z +ℤ sum_of (take k ys)) same ∙ ap (λ z. t +ℤ z) rest ∙ next_product k t
      | false ↦ λ e m. let none = all_lighter t y ys falls.0 e in absurd (omega arith)
    ]) refl l

at_most_one : (b : Bool) (m : ℕ) → cond b 1 0 + m ≤ 1 + m
at_most_one true m = omega arith
at_most_one false m = omega arith

-- The law `first_sum` for a falling list whose first unit isn't heavier than `t`.
light_sum : (t y : ℤ) (ys : List ℤ) (n k : ℕ) → Falls (y ∷ ys) → int_lt t y ≡ false → n ≡ heavier t ys + k → n ≤ no_lighter t (y ∷ ys) → sum_of (take n (y ∷ ys)) ≡ pos 0 +ℤ heavier_sum t ys +ℤ pos k *ℤ t
light_sum t y ys n k falls f e l =
    let h : AtMost y t = lt-false t y f in
    let each = each_map (λ z. AtMost z y) (λ z. AtMost z t) (λ z q. omega arith) ys falls.0 in
    let none = none_heavier t ys each in
    let same : n ≡ k = omega (arith, none.0) in
    let sum : sum_of (take k (y ∷ ys)) ≡ pos k *ℤ t = level_sum t (y ∷ ys) k falls (h, each) (omega arith) in
    let rest : pos k *ℤ t ≡ pos 0 +ℤ heavier_sum t ys +ℤ pos k *ℤ t = omega (arith, ints, none.1) in
    ap (λ m. sum_of (take m (y ∷ ys))) same ∙ sum ∙ rest

-- If `n` is the number of units heavier than `t`, plus `k`, and at least `n` units are no lighter than `t`, the first `n` of the falling list
-- sum to the heavier ones and `k` times `t`.
first_sum : (t : ℤ) (ys : List ℤ) (n k : ℕ) → Falls ys → n ≡ heavier t ys + k → n ≤ no_lighter t ys → sum_of (take n ys) ≡ heavier_sum t ys +ℤ pos k *ℤ t
first_sum t [] zero zero falls e l = omega (arith, ints, zero-mul t)
first_sum t [] zero (suc k) falls e l = absurd (omega arith)
first_sum t [] (suc n) k falls e l = absurd (omega arith)
first_sum t (y ∷ ys) zero k falls e l =
    (elim (int_lt t y) as (λ b. int_lt t y ≡ b → zero ≡ cond b 1 0 + heavier t ys + k → sum_of (take zero (y ∷ ys)) ≡ cond b y (pos 0) +ℤ heavier_sum t ys +ℤ pos k *ℤ t) [
      | true ↦ λ f g. absurd (omega arith)
      | false ↦ λ f g. light_sum t y ys zero k falls f (omega arith) l
    ]) refl e
first_sum t (y ∷ ys) (suc n) k falls e l =
    let few = at_most_one (int_le t y) (no_lighter t ys) in
    (elim (int_lt t y) as (λ b. int_lt t y ≡ b → suc n ≡ cond b 1 0 + heavier t ys + k → sum_of (take (suc n) (y ∷ ys)) ≡ cond b y (pos 0) +ℤ heavier_sum t ys +ℤ pos k *ℤ t) [
      | true ↦ λ f g.
          let rest = first_sum t ys n k falls.1 (omega arith) (omega arith) in
          let sum : y +ℤ (heavier_sum t ys +ℤ pos k *ℤ t) ≡ y +ℤ heavier_sum t ys +ℤ pos k *ℤ t = omega (arith, ints) in
          sum_more y (take n ys) ∙ ap (λ z. y +ℤ z) rest ∙ sum
      | false ↦ λ f g. light_sum t y ys (suc n) k falls f (omega arith) l
    ]) refl e

-- ---- the level, and the greatest sum

-- at most `count` units are heavier than `weight`, and at least `count` are no lighter
pub record IsLevel (units : List ℤ) (count : ℕ) (weight : ℤ) : Type 0 where
  pub few : heavier weight units ≤ count
  pub many : count ≤ no_lighter weight units

greatest_at : (us : List ℤ) (n k : ℕ) (t : ℤ) → IsLevel us n t → n ≡ heavier t us + k → sum_of (take n (falling us)) ≡ heavier_sum t us +ℤ pos k *ℤ t
greatest_at us n k t level e =
    first_sum t (falling us) n k (falling_falls us) (omega (arith, e, with_falling (int_lt t) us)) (omega (arith, level.many, with_falling (int_le t) us))
    ∙ ap (λ s. s +ℤ pos k *ℤ t) (sum_falling t us)

-- In a falling list, at most `n` units are heavier than the one in place `n`, and at least `n + 1` are no lighter.
level_at : (ys : List ℤ) (n : ℕ) → Falls ys → n < length ys → (heavier (at ys n) ys ≤ n) × (n + 1 ≤ no_lighter (at ys n) ys)
level_at [] n falls l = absurd (omega arith)
level_at (y ∷ ys) zero falls l =
    let none = none_heavier y ys falls.0 in (
      elim (int_lt y y) as (λ b. int_lt y y ≡ b → cond b 1 0 + heavier y ys ≤ 0) [
        | true ↦ λ e. let h = lt-true y y e in absurd (omega arith)
        | false ↦ λ e. omega (arith, none.0)
      ] refl,
      elim (int_le y y) as (λ b. int_le y y ≡ b → 1 ≤ cond b 1 0 + no_lighter y ys) [
        | true ↦ λ e. omega arith
        | false ↦ λ e. let h = le-false y y e in absurd (omega arith)
      ] refl,
    )
level_at (y ∷ ys) (suc n) falls l =
    let rest = level_at ys n falls.1 (omega arith) in let t = at ys n in
    let below : AtMost t y = each_at ys n falls.0 (omega arith) in (
      elim (int_lt t y) as (λ b. cond b 1 0 + heavier t ys ≤ suc n) [
        | true ↦ omega (arith, rest.0)
        | false ↦ omega (arith, rest.0)
      ],
      elim (int_le t y) as (λ b. int_le t y ≡ b → suc n + 1 ≤ cond b 1 0 + no_lighter t ys) [
        | true ↦ λ e. omega (arith, rest.1)
        | false ↦ λ e. let h = le-false t y e in absurd (omega arith)
      ] refl,
    )
  where
    each_at : (xs : List ℤ) (i : ℕ) → AllByRecursion (λ z. AtMost z y) xs → i < length xs → AtMost (at xs i) y
    each_at [] i each m = absurd (omega arith)
    each_at (x ∷ xs) zero each m = each.0
    each_at (x ∷ xs) (suc i) each m = each_at xs i each.1 (omega arith)

-- what holds of each entry holds of each unit, in any order

put_each : (P : ℤ → Type 0) (x : ℤ) (ys : List ℤ) → P x → AllByRecursion P ys → AllByRecursion P (put_falling x ys)
put_each P x [] h each = (h, tt)
put_each P x (y ∷ ys) h each =
    let rest = put_each P x ys h each.1 in
    elim (int_le y x) as (λ b. AllByRecursion P (cond b (x ∷ (y ∷ ys)) (y ∷ put_falling x ys))) [
      | true ↦ (h, each)
      | false ↦ (each.0, rest)
    ]

falling_each : (P : ℤ → Type 0) (us : List ℤ) → AllByRecursion P us → AllByRecursion P (falling us)
falling_each P [] each = tt
falling_each P (x ∷ us) each = put_each P x (falling us) each.0 (falling_each P us each.1)

replicate_each : (P : ℤ → Type 0) (m : ℕ) (x : ℤ) (us : List ℤ) → P x → AllByRecursion P us → AllByRecursion P (replicate m x ++ us)
replicate_each P zero x us h each = each
replicate_each P (suc m) x us h each = (h, replicate_each P m x us h each)

units_each : (P : ℤ → Type 0) (classes : List Class) (entries : List ℤ) → AllByRecursion P entries → AllByRecursion P (units classes entries)
units_each P [] entries each = tt
units_each P (class ∷ classes) [] each = tt
units_each P (class ∷ classes) (x ∷ entries) each = replicate_each P class.most x (units classes entries) each.0 (units_each P classes entries each.1)

each_from : (P : ℤ → Type 0) (xs : List ℤ) (place : ℕ) → ((j : ℕ) → place ≤ j → j < length xs → P (at xs j)) → AllByRecursion P (drop place xs)
each_from P [] zero h = tt
each_from P [] (suc place) h = tt
each_from P (x ∷ xs) zero h = (h 0 (omega arith) (omega arith), each_from P xs 0 (λ j a b. h (suc j) (omega arith) (omega arith)))
each_from P (x ∷ xs) (suc place) h = each_from P xs place (λ j a b. h (suc j) (omega arith) (omega arith))

at_each : (P : ℤ → Type 0) (xs : List ℤ) (i : ℕ) → AllByRecursion P xs → i < length xs → P (at xs i)
at_each P [] i each l = absurd (omega arith)
at_each P (x ∷ xs) zero each l = each.0
at_each P (x ∷ xs) (suc i) each l = at_each P xs i each.1 (omega arith)

-- If there are at least `count` units, and none of them is a level, there are no units, so the greatest sum is 0.
no_level : (us : List ℤ) (count : ℕ) → count ≤ length us → AllByRecursion (λ x. IsLevel us count x → ⊥) us → sum_of (take count (falling us)) ≡ pos 0
no_level [] zero l none = refl
no_level [] (suc count) l none = absurd (omega arith)
no_level (x ∷ us) zero l none = refl
no_level (x ∷ us) (suc count) l none =
    let all = x ∷ us in
    let below : count < length (falling all) = omega (arith, length-falling all) in
    let t = at (falling all) count in
    let level = level_at (falling all) count (falling_falls all) below in
    absurd (at_each (λ x. IsLevel all (suc count) x → ⊥) (falling all) count (falling_each (λ x. IsLevel all (suc count) x → ⊥) all none) below
    (record { few = omega (arith, level.0, with_falling (int_lt t) all); many = omega (arith, level.1, with_falling (int_le t) all) }))

-- If the classes from `place` on have at least `count` units, and no entry from `place` on is a level, the greatest sum is 0.
pub nothing_taken : (classes : List Class) (entries : List ℤ) (place count : ℕ) → count ≤ length (units (drop place classes) (drop place entries)) →
    ((j : ℕ) → place ≤ j → j < length entries → IsLevel (units (drop place classes) (drop place entries)) count (at entries j) → ⊥) →
    sum_of (take count (falling (units (drop place classes) (drop place entries)))) ≡ pos 0
nothing_taken classes entries place count l none =
    let us = units (drop place classes) (drop place entries) in
    no_level us count l (units_each (λ x. IsLevel us count x → ⊥) (drop place classes) (drop place entries) (each_from (λ x. IsLevel us count x → ⊥) entries place none))

-- ---- counts and sums with the units of one more class

pub with_class : (p : ℤ → Bool) (m : ℕ) (x : ℤ) (us : List ℤ) → units_with p (replicate m x ++ us) ≡ cond (p x) m 0 + units_with p us
with_class p zero x us = elim (p x) as (λ b. units_with p us ≡ cond b 0 0 + units_with p us) [ true ↦ omega arith | false ↦ omega arith ]
with_class p (suc m) x us =
    let rest = with_class p m x us in
    (elim (p x) as (λ b. units_with p (replicate m x ++ us) ≡ cond b m 0 + units_with p us → cond b 1 0 + units_with p (replicate m x ++ us) ≡ cond b (suc m) 0 + units_with p us) [
      | true ↦ λ e. omega arith
      | false ↦ λ e. omega arith
    ]) rest

sum_class : (t : ℤ) (m : ℕ) (x : ℤ) (us : List ℤ) → heavier_sum t (replicate m x ++ us) ≡ pos (cond (int_lt t x) m 0) *ℤ x +ℤ heavier_sum t us
sum_class t zero x us =
    elim (int_lt t x) as (λ b. heavier_sum t us ≡ pos (cond b 0 0) *ℤ x +ℤ heavier_sum t us) [ true ↦ omega (arith, ints, zero-mul x) | false ↦ omega (arith, ints, zero-mul x) ]
sum_class t (suc m) x us =
    let rest = sum_class t m x us in let next = next_product m x in let none = zero-mul x in
    (elim (int_lt t x) as (λ b. heavier_sum t (replicate m x ++ us) ≡ pos (cond b m 0) *ℤ x +ℤ heavier_sum t us →
    cond b x (pos 0) +ℤ heavier_sum t (replicate m x ++ us) ≡ pos (cond b (suc m) 0) *ℤ x +ℤ heavier_sum t us) [
      | true ↦ λ e. omega (arith, ints)
      | false ↦ λ e. omega (arith, ints)
    ]) rest

-- ---- bounds on absolute values

fewer : (t : ℤ) (us : List ℤ) → heavier t us ≤ no_lighter t us
fewer t [] = omega arith
fewer t (x ∷ us) =
    let rest = fewer t us in
    (elim (int_lt t x) as (λ b. int_lt t x ≡ b → cond b 1 0 + heavier t us ≤ cond (int_le t x) 1 0 + no_lighter t us) [
      | true ↦ λ e. (elim (int_le t x) as (λ b. int_le t x ≡ b → 1 + heavier t us ≤ cond b 1 0 + no_lighter t us) [
        | true ↦ λ f. omega arith
        | false ↦ λ f. let h = lt-true t x e in let g = le-false t x f in absurd (omega arith)
      ]) refl
      | false ↦ λ e. omega arith
    ]) refl

nothing_more : (z : ℤ) → pos 0 +ℤ z ≡ z
nothing_more z = omega (arith, ints)

one_more : (x z : ℤ) → unsigned_abs (x +ℤ z) ≤ unsigned_abs x + unsigned_abs z
one_more x z = abs_sum_le x z (unsigned_abs x) (unsigned_abs z) (omega arith) (omega arith)

-- If at least `k` units weigh `t`, the absolute values of the heavier units' sum and of `k` times `t` sum to at most those of all units.
level_width : (t : ℤ) (us : List ℤ) (k : ℕ) → heavier t us + k ≤ no_lighter t us → unsigned_abs (heavier_sum t us) + k * unsigned_abs t ≤ width us
level_width t [] zero l = omega arith
level_width t [] (suc k) l = absurd (omega arith)
level_width t (x ∷ us) zero l =
    let rest = level_width t us zero (omega (arith, fewer t us)) in
    elim (int_lt t x) as (λ b. unsigned_abs (cond b x (pos 0) +ℤ heavier_sum t us) + 0 * unsigned_abs t ≤ unsigned_abs x + width us) [
      | true ↦ omega (arith, one_more x (heavier_sum t us))
      | false ↦ omega (arith, ap unsigned_abs (nothing_more (heavier_sum t us)))
    ]
level_width t (x ∷ us) (suc k) l =
    let few = at_most_one (int_le t x) (no_lighter t us) in
    (elim (int_lt t x) as (λ b. int_lt t x ≡ b → cond b 1 0 + heavier t us + suc k ≤ cond (int_le t x) 1 0 + no_lighter t us →
    unsigned_abs (cond b x (pos 0) +ℤ heavier_sum t us) + suc k * unsigned_abs t ≤ unsigned_abs x + width us) [
      | true ↦ λ e m. let rest = level_width t us (suc k) (omega arith) in omega (arith, one_more x (heavier_sum t us))
      | false ↦ λ e m.
          (elim (int_le t x) as (λ b. int_le t x ≡ b → 0 + heavier t us + suc k ≤ cond b 1 0 + no_lighter t us →
          unsigned_abs (pos 0 +ℤ heavier_sum t us) + suc k * unsigned_abs t ≤ unsigned_abs x + width us) [
            | true ↦ λ f n.
                let h = lt-false t x e in let g = le-true t x f in let same : x ≡ t = omega (arith, ints) in
                let rest = level_width t us k (omega arith) in
                omega (arith, ap unsigned_abs (nothing_more (heavier_sum t us)), ap unsigned_abs same)
            | false ↦ λ f n. let rest = level_width t us (suc k) (omega arith) in omega (arith, ap unsigned_abs (nothing_more (heavier_sum t us)))
          ]) refl m
    ]) refl l

-- ---- units class by class

-- all units but those of `rest` are counted: `more` of them weigh more than `weight` and sum to `sum`, and `as_much` weigh at least `weight`.
-- The absolute values of `sum` and of the units of `rest` sum to at most those of all units
pub record IsBesideSome (all : List ℤ) (weight : ℤ) (rest : List ℤ) (more : ℕ) (sum : ℤ) (as_much : ℕ) : Type 0 where
  pub above : more + heavier weight rest ≡ heavier weight all
  pub summed : sum +ℤ heavier_sum weight rest ≡ heavier_sum weight all
  pub from : as_much + no_lighter weight rest ≡ no_lighter weight all
  pub narrow : unsigned_abs sum + width rest ≤ width all

part_width : (b : Bool) (m w : ℕ) → cond b m 0 * w ≤ m * w
part_width true m w = omega arith
part_width false m w = omega arith

-- If the units of a class are counted too, `rest` is without them.
pub beside_more : (all : List ℤ) (weight : ℤ) (most : ℕ) (entry : ℤ) (rest whole : List ℤ) {many : ℕ} {sum : ℤ} {from many' : ℕ} {sum' : ℤ} {from' : ℕ} → whole ≡ replicate most entry ++ rest →
    IsBesideSome all weight whole many sum from → many' ≡ many + cond (int_lt weight entry) most 0 → sum' ≡ sum +ℤ pos (cond (int_lt weight entry) most 0) *ℤ entry →
    from' ≡ from + cond (int_le weight entry) most 0 → IsBesideSome all weight rest many' sum' from'
beside_more all weight most entry rest whole {many} {sum} {from} e some f g h =
    let us = replicate most entry ++ rest in
    let here : IsBesideSome all weight us many sum from = subst (λ us. IsBesideSome all weight us many sum from) e some in
    record {
      above = omega (arith, f, with_class (int_lt weight) most entry rest, here.above);
      summed = omega (arith, ints, g, sum_class weight most entry rest, here.summed);
      from = omega (arith, h, with_class (int_le weight) most entry rest, here.from);
      narrow = omega (
        arith,
        same_units_width most entry rest,
        here.narrow,
        ap unsigned_abs g,
        weight_fits sum (cond (int_lt weight entry) most 0) entry,
        part_width (int_lt weight entry) most (unsigned_abs entry),
      );
    }

-- If the absolute values of all units sum to below 2 ^ 127, those of a class can be added to the sum within 128 bits.
pub beside_fits : (all : List ℤ) (weight : ℤ) (most : ℕ) (entry : ℤ) (rest whole : List ℤ) {many : ℕ} {sum : ℤ} {from : ℕ} → whole ≡ replicate most entry ++ rest →
    IsBesideSome all weight whole many sum from → width all < 2 ^ 127 → unsigned_abs sum + cond (int_lt weight entry) most 0 * unsigned_abs entry < 2 ^ 127
beside_fits all weight most entry rest whole e some narrow =
    omega (arith, some.narrow, ap width e, same_units_width most entry rest, part_width (int_lt weight entry) most (unsigned_abs entry))

-- If no unit is left, all are counted.
pub beside_all : (all : List ℤ) (weight : ℤ) (rest : List ℤ) (beside : Beside) → rest ≡ [] → IsBesideSome all weight rest beside.heavier beside.sum beside.no_lighter → IsBeside all weight beside
beside_all all weight rest beside e some =
    let here : IsBesideSome all weight [] beside.heavier beside.sum beside.no_lighter = subst (λ us. IsBesideSome all weight us beside.heavier beside.sum beside.no_lighter) e some in
    record { above = omega (arith, here.above); sum = omega (arith, ints, here.summed); from = omega (arith, here.from) }

-- Before any unit is counted, all are left.
pub beside_none : (all : List ℤ) (weight : ℤ) → IsBesideSome all weight all 0 (pos 0) 0
beside_none all weight = record { above = omega arith; summed = omega (arith, ints); from = omega arith; narrow = omega arith }

-- At most all units pass a test.
pub with_few : (p : ℤ → Bool) (us : List ℤ) → units_with p us ≤ length us
with_few p [] = omega arith
with_few p (x ∷ us) =
    let rest = with_few p us in
    elim (p x) as (λ b. cond b 1 0 + units_with p us ≤ length (x ∷ us)) [
      | true ↦ omega arith
      | false ↦ omega arith
    ]

-- ---- the code's test of a level

pub level_from : (us : List ℤ) (count : ℕ) (t : ℤ) (beside : Beside) → IsBeside us t beside → (leb beside.heavier count && leb count beside.no_lighter) ≡ true → IsLevel us count t
level_from us count t beside is e =
    let both = and_parts (leb beside.heavier count) (leb count beside.no_lighter) e in
    let few = leb-true beside.heavier count both.0 in let many = leb-true count beside.no_lighter both.1 in
    record { few = omega (arith, is.above); many = omega (arith, is.from) }

pub no_level_from : (us : List ℤ) (count : ℕ) (t : ℤ) (beside : Beside) → IsBeside us t beside → (leb beside.heavier count && leb count beside.no_lighter) ≡ false → IsLevel us count t → ⊥
no_level_from us count t beside is e level =
    false≢true (sym e ∙ and_from (leb beside.heavier count) (leb count beside.no_lighter) (le-leb beside.heavier count (omega (arith, is.above, level.few))) (le-leb count beside.no_lighter (omega (arith, is.from, level.many))))

-- If no entry in `place..i` is a level, and that in place `i` is none, no entry in `place..i + 1` is one.
pub no_level_more : (us : List ℤ) (count : ℕ) (entries : List ℤ) (place i : ℕ) → ((j : ℕ) → place ≤ j → j < i → IsLevel us count (at entries j) → ⊥) → (IsLevel us count (at entries i) → ⊥) →
    (j : ℕ) → place ≤ j → j < i + 1 → IsLevel us count (at entries j) → ⊥
no_level_more us count entries place i before here j a b level =
    (elim (eqb j i) as (λ b. eqb j i ≡ b → ⊥) [
      | true ↦ λ t. let same = eqb-true j i t in here (subst (λ n. IsLevel us count (at entries n)) same level)
      | false ↦ λ t. let other = eqb-false j i t in before j a (lower j other b) level
    ]) refl
  where
    lower : (j : ℕ) → (j ≡ i → ⊥) → j < i + 1 → j < i
    lower j other l = omega arith

-- At a level, the sum that the code computes is the greatest sum: the heavier units, and the level for each unit that `count` has more.
pub sum_at_level : (us : List ℤ) (count : ℕ) (t : ℤ) (beside : Beside) → IsBeside us t beside → IsLevel us count t →
    beside.sum +ℤ pos (count - beside.heavier) *ℤ t ≡ sum_of (take count (falling us))
sum_at_level us count t beside is level =
    ap (λ z. z +ℤ pos (count - beside.heavier) *ℤ t) is.sum ∙ sym (greatest_at us count (count - beside.heavier) t level (omega (arith, is.above, level.few)))

pub fits_at_level : (us : List ℤ) (count : ℕ) (t : ℤ) (beside : Beside) → IsBeside us t beside → IsLevel us count t → width us < 2 ^ 127 →
    unsigned_abs beside.sum + (count - beside.heavier) * unsigned_abs t < 2 ^ 127
fits_at_level us count t beside is level narrow =
    omega (arith, ap unsigned_abs is.sum, level_width t us (count - beside.heavier) (omega (arith, is.above, level.few, level.many)))

-- There are as many units as the classes can give members, if there is an entry for each class.
units_as_many : (classes : List Class) (entries : List ℤ) → length entries ≡ length classes → most_given (λ class. true) classes ≤ length (units classes entries)
units_as_many [] entries e = omega (arith, most_of_none (λ class. true))
units_as_many (class ∷ classes) [] e = absurd (omega arith)
units_as_many (class ∷ classes) (x ∷ entries) e =
    omega (arith, most_more (λ class. true) class classes, length-replicate class.most x (units classes entries), units_as_many classes entries (omega arith))

pub enough_units : (all : Classes) (entries : List ℤ) (place : ℕ) → length entries ≡ length all.classes → most_given (λ class. true) (drop place all.classes) ≤ length (units_from all entries place)
enough_units all entries place e = units_as_many (drop place all.classes) (drop place entries) (omega (arith, length-drop place entries, length-drop place all.classes))

-- Behind the last class, there are no units.
pub units_end : (all : Classes) (entries : List ℤ) (i : ℕ) → length all.classes ≤ i → units_from all entries i ≡ []
units_end all entries i l = ap (λ classes. units classes (drop i entries)) (drop_all i all.classes l)
