-- Sorted lists are compared in lexicographic order by counting, for each number `u`, how many of their numbers are at most `u`.
use Rattle.std.proofs.Common.{◌≡◌, ℕ, zero, suc, ◌+◌, ◌*◌, ◌≤◌, ◌<◌, Bool, true, false, cond, leb, ltb, eqb, List, [], ◌∷◌, map, refl, sym, ap, ◌∙◌, ⊎_elim, true≢false, arith, le_refl, le_of_lt, le_of_eq, mul-le-mul_right}
use Rattle.std.specs.List.{AllByRecursion}
use Rattle.std.proofs.lemmas.Bool.{leb-true, leb-false, le-leb, lt-leb, cases_lt, le-ltb, eqb-true}
use Rattle.define_pools.proofs.Sums.{total, total_same, total_eq}
use Rattle.define_pools.proofs.Each.{each_map, each_both}
use Rattle.define_pools.specs.Lists.{put_in_order, rising}
use Rattle.define_pools.specs.Lottery.{first_is_greater}

-- 1 if `a * k` is at most `t`, else 0
abbrev pub one_at : ℕ → ℕ → ℕ → ℕ
one_at k t a = cond (leb (a * k) t) 1 0

-- how many of the numbers, each times `k`, are at most `t`
abbrev pub at_most : ℕ → ℕ → List ℕ → ℕ
at_most k t [] = 0
at_most k t (a ∷ xs) = one_at k t a + at_most k t xs

pub at_most-put_in_order : (k t x : ℕ) (xs : List ℕ) → at_most k t (put_in_order x xs) ≡ one_at k t x + at_most k t xs
at_most-put_in_order k t x [] = refl
at_most-put_in_order k t x (y ∷ ys) =
    let rest = at_most-put_in_order k t x ys in
    elim (leb x y) as (λ b. at_most k t (cond b (x ∷ (y ∷ ys)) (y ∷ put_in_order x ys)) ≡ one_at k t x + (one_at k t y + at_most k t ys)) [
      | true ↦ refl
      | false ↦ omega (arith, rest)
    ]

-- Sorting a list doesn't change how many of its numbers are at most `t`.
pub at_most-rising : (k t : ℕ) (xs : List ℕ) → at_most k t (rising xs) ≡ at_most k t xs
at_most-rising k t [] = refl
at_most-rising k t (x ∷ xs) = omega (arith, at_most-put_in_order k t x (rising xs), at_most-rising k t xs)

-- each number is at most all that follow it
abbrev pub Rises : List ℕ → Type 0
Rises [] = Unit {0}
Rises (x ∷ xs) = AllByRecursion (λ y. x ≤ y) xs × Rises xs

each_put : (z x : ℕ) (xs : List ℕ) → z ≤ x → AllByRecursion (λ y. z ≤ y) xs → AllByRecursion (λ y. z ≤ y) (put_in_order x xs)
each_put z x [] h k = (h, tt)
each_put z x (y ∷ ys) h k =
    let rest = each_put z x ys h k.1 in
    elim (leb x y) as (λ b. AllByRecursion (λ y. z ≤ y) (cond b (x ∷ (y ∷ ys)) (y ∷ put_in_order x ys))) [
      | true ↦ (h, k)
      | false ↦ (k.0, rest)
    ]

Rises-put : (x : ℕ) (xs : List ℕ) → Rises xs → Rises (put_in_order x xs)
Rises-put x [] r = (tt, tt)
Rises-put x (y ∷ ys) r =
    let rest = Rises-put x ys r.1 in
    (elim (leb x y) as (λ b. leb x y ≡ b → Rises (cond b (x ∷ (y ∷ ys)) (y ∷ put_in_order x ys))) [
      | true ↦ λ e. let low = leb-true x y e in ((low, each_map (λ w. y ≤ w) (λ w. x ≤ w) (λ w h. omega arith) ys r.0), r)
      | false ↦ λ e. let low = leb-false x y e in (each_put y x ys (omega arith) r.0, rest)
    ]) refl

pub Rises-rising : (xs : List ℕ) → Rises (rising xs)
Rises-rising [] = tt
Rises-rising (x ∷ xs) = Rises-put x (rising xs) (Rises-rising xs)

-- If all numbers are at least `a`, and `a * k` is above `t`, no number times `k` is at most `t`.
none_at_most : (k t a : ℕ) (xs : List ℕ) → t < a * k → AllByRecursion (λ y. a ≤ y) xs → at_most k t xs ≡ 0
none_at_most k t a [] h r = refl
none_at_most k t a (x ∷ xs) h r =
    let more : a * k ≤ x * k = mul-le-mul_right k r.0 in
    let high : leb (x * k) t ≡ false = lt-leb (x * k) t (omega arith) in
    let rest = none_at_most k t a xs h r.1 in rw (high, rest) refl

-- In a list that begins with `a`, at least one number times `k` is at most `a * k`.
some_at_most : (k a : ℕ) (xs : List ℕ) → 1 ≤ at_most k (a * k) (a ∷ xs)
some_at_most k a xs =
    let same : leb (a * k) (a * k) ≡ true = le-leb (a * k) (a * k) (omega arith) in rw same (omega arith)

-- at the least number where `f` and `g` have different values, if there is one, `g` has the lesser value
abbrev pub NoMoreAtFirst : (ℕ → ℕ) → (ℕ → ℕ) → Type 0
NoMoreAtFirst f g = (u : ℕ) → ((w : ℕ) → w < u → f w ≡ g w) → g u ≤ f u

tails : (A B a b : ℕ) (as' bs : List ℕ) → a * B ≡ b * A →
    NoMoreAtFirst (λ u. at_most B u (a ∷ as')) (λ u. at_most A u (b ∷ bs)) → NoMoreAtFirst (λ u. at_most B u as') (λ u. at_most A u bs)
tails A B a b as' bs e h u below =
    let one : (w : ℕ) → one_at B w a ≡ one_at A w b = λ w. ap (λ m. cond (leb m w) 1 0) e in
    let here = h u (λ w l. omega (arith, below w l, one w)) in omega (arith, here, one u)

-- Take the rising lists `as'` times `B` and `bs` times `A`, and the least `u` for which they have different numbers of elements up to `u`.
-- If there is no `u` like this, or `bs` has fewer elements up to `u`, then `as'` isn't greater than `bs`.
pub not_greater : (A B : ℕ) (as' bs : List ℕ) → Rises as' → Rises bs →
    NoMoreAtFirst (λ u. at_most B u as') (λ u. at_most A u bs) → first_is_greater A B as' bs ≡ false
not_greater A B [] bs r s h = refl
not_greater A B (a ∷ as') [] r s h = refl
not_greater A B (a ∷ as') (b ∷ bs) r s h =
    (elim (eqb (a * B) (b * A)) as (λ v. eqb (a * B) (b * A) ≡ v → cond v (first_is_greater A B as' bs) (ltb (b * A) (a * B)) ≡ false) [
      | true ↦ λ e. not_greater A B as' bs r.1 s.1 (tails A B a b as' bs (eqb-true (a * B) (b * A) e) h)
      | false ↦ λ e. le-ltb (b * A) (a * B) (⊎_elim (λ lower.
          let none : (u : ℕ) → u ≤ b * A → at_most B u (a ∷ as') ≡ 0 = λ u l. none_at_most B u a (a ∷ as') (omega arith) (le_refl a, r.0) in
          let few : (u : ℕ) → u < b * A → at_most A u (b ∷ bs) ≡ 0 = λ u l. none_at_most A u b (b ∷ bs) l (le_refl b, s.0) in
          let here : at_most A (b * A) (b ∷ bs) ≤ at_most B (b * A) (a ∷ as') = h (b * A) (λ w l. none w (le_of_lt l) ∙ sym (few w l)) in
          absurd (omega (arith, none (b * A) (le_refl (b * A)), some_at_most A b bs))) (λ k. k) (cases_lt (b * A) (a * B)))
    ]) refl

-- 1 if `m` is at most `t`, else 0
abbrev pub le_one : ℕ → ℕ → ℕ
le_one m t = cond (leb m t) 1 0

pub at_most-map : (k t : ℕ) (f : ℕ → ℕ) (xs : List ℕ) → at_most k t (map f xs) ≡ total (λ i. le_one (f i * k) t) xs
at_most-map k t f [] = refl
at_most-map k t f (x ∷ xs) = omega (arith, at_most-map k t f xs)

-- what is known of a volunteer's chances `x` and `y` in two lotteries: if the volunteer is settled, they are equal; else `x` is at least
-- `level`, and `y` at least `t`
pub record Known (settled : Bool) (x y level t : ℕ) : Type 0 where
  pub equal : settled ≡ true → x ≡ y
  pub high : settled ≡ false → level ≤ x
  pub low : settled ≡ false → t ≤ y

known_before : (b : Bool) (x y level t u : ℕ) → t < level → u < t → Known b x y level t → le_one x u ≡ le_one y u
known_before true x y level t u h l k = ap (λ m. le_one m u) (k.equal refl)
known_before false x y level t u h l k =
    let p = k.high refl in let q = k.low refl in
    let e : leb x u ≡ false = lt-leb x u (omega arith) in let f : leb y u ≡ false = lt-leb y u (omega arith) in rw (e, f) refl

known_here : (b : Bool) (x y level t : ℕ) → t < level → Known b x y level t → le_one x t ≤ le_one y t
known_here true x y level t h k = let e = ap (λ m. le_one m t) (k.equal refl) in omega arith
known_here false x y level t h k =
    let p = k.high refl in let e : leb x t ≡ false = lt-leb x t (omega arith) in rw e (omega arith)

is_above_t : (y t : ℕ) → le_one y t ≡ 0 → t < y
is_above_t y t z =
    (elim (leb y t) as (λ c. leb y t ≡ c → cond {A = ℕ} c 1 0 ≡ 0 → t < y) [
      | true ↦ λ q z. absurd (omega arith)
      | false ↦ λ q z. leb-false y t q
    ]) refl z

known_next : (b : Bool) (x y level t : ℕ) → t < level → Known b x y level t → le_one x t ≡ le_one y t → Known b x y level (suc t)
known_next true x y level t h k e = record { equal = k.equal; high = k.high; low = λ s. absurd (true≢false s) }
known_next false x y level t h k e =
    let p = k.high refl in let no : leb x t ≡ false = lt-leb x t (omega arith) in
    let zero_y : le_one y t ≡ 0 = sym (rw no at e) in
    record { equal = k.equal; high = k.high; low = λ s. is_above_t y t zero_y }

no_more_at_first : (f g : ℕ → ℕ) (t : ℕ) → ((u : ℕ) → u < t → f u ≡ g u) → g t < f t → NoMoreAtFirst f g
no_more_at_first f g t same more u eqs =
    ⊎_elim (λ (l : u < t). le_of_eq (sym (same u l)))
    (λ (l : t ≤ u). ⊎_elim (λ (p : t < u). absurd (omega (arith, eqs t p))) (λ (p : u ≤ t). let e : u ≡ t = omega arith in rw e (le_of_lt more)) (cases_lt t u))
    (cases_lt u t)

-- Take the numbers of chances up to `u` in the second lottery and in the first. If `NoMoreAtFirst` fails for them, and `Known` holds of
-- each volunteer for `t = 0`, then `Known` holds for each `t` up to `level`: each unsettled volunteer's chance in the second lottery is
-- at least `t`.
pub all_reach : (xs : List ℕ) (settled : ℕ → Bool) (x y : ℕ → ℕ) (level : ℕ) →
    (NoMoreAtFirst (λ u. total (λ i. le_one (y i) u) xs) (λ u. total (λ i. le_one (x i) u) xs) → ⊥) →
    AllByRecursion (λ i. Known (settled i) (x i) (y i) level 0) xs →
    (t : ℕ) → t ≤ level → AllByRecursion (λ i. Known (settled i) (x i) (y i) level t) xs
all_reach xs settled x y level above known zero h = known
all_reach xs settled x y level above known (suc t) h =
    let before = all_reach xs settled x y level above known t (omega arith) in
    let same : (u : ℕ) → u < t → total (λ i. le_one (y i) u) xs ≡ total (λ i. le_one (x i) u) xs =
    λ u l. sym (total_eq (λ i. le_one (x i) u) (λ i. le_one (y i) u) xs
    (each_map (λ i. Known (settled i) (x i) (y i) level t) (λ i. le_one (x i) u ≡ le_one (y i) u) (λ i k. known_before (settled i) (x i) (y i) level t u h l k) xs before)) in
    let here = each_map (λ i. Known (settled i) (x i) (y i) level t) (λ i. le_one (x i) t ≤ le_one (y i) t) (λ i k. known_here (settled i) (x i) (y i) level t h k) xs before in
    ⊎_elim (λ more. absurd (above (no_more_at_first (λ u. total (λ i. le_one (y i) u) xs) (λ u. total (λ i. le_one (x i) u) xs) t same more)))
    (λ most. let equal = total_same (λ i. le_one (x i) t) (λ i. le_one (y i) t) xs here most in
    each_map (λ i. Known (settled i) (x i) (y i) level t × (le_one (x i) t ≡ le_one (y i) t)) (λ i. Known (settled i) (x i) (y i) level (suc t))
    (λ i k. known_next (settled i) (x i) (y i) level t h k.0 k.1) xs
    (each_both (λ i. Known (settled i) (x i) (y i) level t) (λ i. le_one (x i) t ≡ le_one (y i) t) xs before equal))
    (cases_lt (total (λ i. le_one (x i) t) xs) (total (λ i. le_one (y i) t) xs))
