-- The greatest sum of `count` units is at least the sum of any `count` units.
use Rattle.std.proofs.Common.{◌≡◌, ℕ, zero, suc, ◌+◌, ◌*◌, ◌≤◌, true, false, cond, List, [], ◌∷◌, ◌++◌, length, take, drop, fold, ℤ, pos, ◌+ℤ◌, ◌*ℤ◌, refl, arith}
use Rattle.std.specs.Prelude.{int_le, replicate}
use Rattle.std.specs.List.{AllByRecursion}
use borrow.Author.Differences.{up, down, sum_is_lem, le-true, le-false}
use Rattle.define_pools.proofs.Each.{each_map}
use Rattle.define_pools.proofs.Integers.{product-parts}
use Rattle.define_pools.proofs.Sums.{total}
use Rattle.define_searches.specs.Classes.{Class}
use Rattle.define_searches.specs.Compositions.{taken_of, weight_in}
use Rattle.define_searches.specs.Fronts.{put_falling, falling, units, sum_of, greatest_sum}
use Rattle.define_searches.proofs.FirstSearch.{Gives}

-- ---- whole numbers as differences

-- the first integer is at most the second
abbrev pub AtMost : ℤ → ℤ → Type 0
AtMost x y = up x + down y ≤ up y + down x

fold_parts : (s : ℤ) (xs : List ℤ) →
    up (fold (λ total x. total +ℤ x) s xs) + total down xs + down s ≡ total up xs + down (fold (λ total x. total +ℤ x) s xs) + up s
fold_parts s [] = omega arith
fold_parts s (x ∷ xs) = omega (arith, sum_is_lem s x, fold_parts (s +ℤ x) xs)

pub sum_parts : (xs : List ℤ) → up (sum_of xs) + total down xs ≡ total up xs + down (sum_of xs)
sum_parts xs = omega (arith, fold_parts (pos 0) xs)

-- ---- a falling list

abbrev pub Falls : List ℤ → Type 0
Falls [] = Unit {0}
Falls (x ∷ xs) = AllByRecursion (λ y. AtMost y x) xs × Falls xs

put_each : (y x : ℤ) (xs : List ℤ) → AtMost x y → AllByRecursion (λ z. AtMost z y) xs → AllByRecursion (λ z. AtMost z y) (put_falling x xs)
put_each y x [] h each = (h, tt)
put_each y x (z ∷ zs) h each =
    let rest = put_each y x zs h each.1 in
    elim (int_le z x) as (λ b. AllByRecursion (λ z. AtMost z y) (cond b (x ∷ (z ∷ zs)) (z ∷ put_falling x zs))) [
      | true ↦ (h, each)
      | false ↦ (each.0, rest)
    ]

put_falls : (x : ℤ) (xs : List ℤ) → Falls xs → Falls (put_falling x xs)
put_falls x [] h = (tt, tt)
put_falls x (y ∷ ys) h =
    let rest = put_falls x ys h.1 in
    (elim (int_le y x) as (λ b. int_le y x ≡ b → Falls (cond b (x ∷ (y ∷ ys)) (y ∷ put_falling x ys))) [
      | true ↦ λ e. let l = le-true y x e in ((l, each_map (λ z. AtMost z y) (λ z. AtMost z x) (λ z k. omega arith) ys h.0), h)
      | false ↦ λ e. let l = le-false y x e in (put_each y x ys (omega arith) h.0, rest)
    ]) refl

pub falling_falls : (xs : List ℤ) → Falls (falling xs)
falling_falls [] = tt
falling_falls (x ∷ xs) = put_falls x (falling xs) (falling_falls xs)

length-put : (x : ℤ) (xs : List ℤ) → length (put_falling x xs) ≡ suc (length xs)
length-put x [] = refl
length-put x (y ∷ ys) =
    let rest = length-put x ys in
    elim (int_le y x) as (λ b. length (cond b (x ∷ (y ∷ ys)) (y ∷ put_falling x ys)) ≡ suc (length (y ∷ ys))) [
      | true ↦ refl
      | false ↦ omega arith
    ]

pub length-falling : (xs : List ℤ) → length (falling xs) ≡ length xs
length-falling [] = refl
length-falling (x ∷ xs) = omega (arith, length-put x (falling xs), length-falling xs)

-- ---- the greatest numbers of a list, after one number is added

put_taken : (x : ℤ) (xs : List ℤ) (k : ℕ) → k ≤ length xs →
    up x + total up (take k xs) + total down (take (suc k) (put_falling x xs)) ≤ total up (take (suc k) (put_falling x xs)) + down x + total down (take k xs)
put_taken x [] zero l = omega arith
put_taken x [] (suc k) l = absurd (omega arith)
put_taken x (y ∷ ys) zero l =
    (elim (int_le y x) as (λ b. int_le y x ≡ b → up x + 0 + total down (take 1 (cond b (x ∷ (y ∷ ys)) (y ∷ put_falling x ys))) ≤ total up (take 1 (cond b (x ∷ (y ∷ ys)) (y ∷ put_falling x ys))) + down x + 0) [
      | true ↦ λ e. omega arith
      | false ↦ λ e. let h = le-false y x e in omega arith
    ]) refl
put_taken x (y ∷ ys) (suc k) l =
    let rest = put_taken x ys k (omega arith) in
    (elim (int_le y x) as (λ b. up x + total up (take (suc k) (y ∷ ys)) + total down (take (suc (suc k)) (cond b (x ∷ (y ∷ ys)) (y ∷ put_falling x ys)))
    ≤ total up (take (suc (suc k)) (cond b (x ∷ (y ∷ ys)) (y ∷ put_falling x ys))) + down x + total down (take (suc k) (y ∷ ys))) [
      | true ↦ omega arith
      | false ↦ omega arith
    ])

shifted : (y : ℤ) (ys : List ℤ) (k : ℕ) → Falls (y ∷ ys) → k ≤ length ys → total up (take k ys) + total down (take k (y ∷ ys)) ≤ total up (take k (y ∷ ys)) + total down (take k ys)
shifted y ys zero f l = omega arith
shifted y [] (suc k) f l = absurd (omega arith)
shifted y (z ∷ zs) (suc k) f l = let here = f.0.0 in let rest = shifted z zs k f.1 (omega arith) in omega arith

put_left : (x : ℤ) (xs : List ℤ) (k : ℕ) → Falls xs → k ≤ length xs → total up (take k xs) + total down (take k (put_falling x xs)) ≤ total up (take k (put_falling x xs)) + total down (take k xs)
put_left x xs zero f l = omega arith
put_left x [] (suc k) f l = absurd (omega arith)
put_left x (y ∷ ys) (suc k) f l =
    let rest = put_left x ys k f.1 (omega arith) in
    let shift = shifted y ys k f (omega arith) in
    (elim (int_le y x) as (λ b. int_le y x ≡ b → total up (take (suc k) (y ∷ ys)) + total down (take (suc k) (cond b (x ∷ (y ∷ ys)) (y ∷ put_falling x ys)))
    ≤ total up (take (suc k) (cond b (x ∷ (y ∷ ys)) (y ∷ put_falling x ys))) + total down (take (suc k) (y ∷ ys))) [
      | true ↦ λ e. let h = le-true y x e in omega arith
      | false ↦ λ e. omega arith
    ]) refl

-- the sum of those of the `k` greatest numbers of `xs` that are above 0
abbrev high : ℕ → List ℤ → ℕ
high k xs = total up (take k (falling xs))

-- the sum of the absolute values of those of the `k` greatest numbers of `xs` that are below 0
abbrev low : ℕ → List ℤ → ℕ
low k xs = total down (take k (falling xs))

pub length-replicate : (m : ℕ) (x : ℤ) (ys : List ℤ) → length (replicate m x ++ ys) ≡ m + length ys
length-replicate zero x ys = omega arith
length-replicate (suc m) x ys = omega (arith, length-replicate m x ys)

-- `j` copies of `x` and the `k` greatest of `ys` sum to at most the greatest sum of `j + k` numbers of `ys` and `m` copies of `x`
some_of : (m : ℕ) (x : ℤ) (ys : List ℤ) (j k n : ℕ) → j ≤ m → k ≤ length ys → n ≡ j + k →
    j * up x + high k ys + low n (replicate m x ++ ys) ≤ high n (replicate m x ++ ys) + j * down x + low k ys
some_of zero x ys zero k n a b e = let s : n ≡ k = omega arith in rw s (omega arith)
some_of zero x ys (suc j) k n a b e = absurd (omega arith)
some_of (suc m) x ys zero k n a b e =
    let rest = some_of m x ys 0 k n (omega arith) b e in
    let zs = replicate m x ++ ys in
    let left = put_left x (falling zs) n (falling_falls zs) (omega (arith, length-falling zs, length-replicate m x ys)) in omega arith
some_of (suc m) x ys (suc j) k zero a b e = absurd (omega arith)
some_of (suc m) x ys (suc j) k (suc n) a b e =
    let rest = some_of m x ys j k n (omega arith) b (omega arith) in
    let zs = replicate m x ++ ys in
    let taken = put_taken x (falling zs) n (omega (arith, length-falling zs, length-replicate m x ys)) in omega arith

few_units : (later : List Class) (entries : List ℤ) (counts : List ℕ) → length entries ≡ length later → Gives later counts → taken_of (λ class. true) later counts ≤ length (units later entries)
few_units [] entries [] e g = omega arith
few_units [] entries (c ∷ counts) e g = absurd g
few_units (class ∷ later) entries [] e g = absurd g
few_units (class ∷ later) [] (c ∷ counts) e g = absurd (omega arith)
few_units (class ∷ later) (x ∷ entries) (c ∷ counts) e g =
    let here = g.0 in let rest = few_units later entries counts (omega arith) g.1 in
    omega (arith, length-replicate class.most x (units later entries))

weight_bound : (later : List Class) (entries : List ℤ) (counts : List ℕ) → length entries ≡ length later → Gives later counts →
    up (weight_in entries counts) + low (taken_of (λ class. true) later counts) (units later entries) ≤ high (taken_of (λ class. true) later counts) (units later entries) + down (weight_in entries counts)
weight_bound [] [] [] e g = omega arith
weight_bound [] (x ∷ entries) [] e g = absurd (omega arith)
weight_bound [] entries (c ∷ counts) e g = absurd g
weight_bound (class ∷ later) entries [] e g = absurd g
weight_bound (class ∷ later) [] (c ∷ counts) e g = absurd (omega arith)
weight_bound (class ∷ later) (x ∷ entries) (c ∷ counts) e g =
    let rest = weight_bound later entries counts (omega arith) g.1 in
    let here = g.0 in
    let some = some_of class.most x (units later entries) c (taken_of (λ class. true) later counts) (c + taken_of (λ class. true) later counts) here (few_units later entries counts (omega arith) g.1) refl in
    omega (arith, rest, some, product-parts c x, sum_is_lem (pos c *ℤ x) (weight_in entries counts))

-- if the later classes can give `counts`, the weight of `counts` is at most the greatest sum of n units, where n is the sum of `counts`
pub weight_within_greatest : (later : List Class) (entries : List ℤ) (counts : List ℕ) → length entries ≡ length later → Gives later counts →
    AtMost (weight_in entries counts) (greatest_sum (taken_of (λ class. true) later counts) later entries)
weight_within_greatest later entries counts e g =
    let n = taken_of (λ class. true) later counts in
    omega (arith, weight_bound later entries counts e g, sum_parts (take n (falling (units later entries))))

-- the weight of `front ++ counts` is the weight of `front` plus the weight of `counts`
pub weight-append : (entries : List ℤ) (front counts : List ℕ) → length front ≤ length entries →
    up (weight_in entries (front ++ counts)) + down (weight_in entries front) + down (weight_in (drop (length front) entries) counts)
    ≡ down (weight_in entries (front ++ counts)) + up (weight_in entries front) + up (weight_in (drop (length front) entries) counts)
weight-append [] [] counts l = omega arith
weight-append [] (c ∷ front) counts l = absurd (omega arith)
weight-append (x ∷ entries) [] counts l = omega arith
weight-append (x ∷ entries) (c ∷ front) counts l =
    omega (arith, weight-append entries front counts (omega arith), sum_is_lem (pos c *ℤ x) (weight_in entries (front ++ counts)), sum_is_lem (pos c *ℤ x) (weight_in entries front))
