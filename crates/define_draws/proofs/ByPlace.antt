-- Sums over the places of a list, by recursion.
use Rattle.std.proofs.Common.{◌≡◌, ℕ, zero, suc, ◌+◌, ◌*◌, ◌<◌, ◌≤◌, ◌⊎◌, inl, inr, List, get_or, length, map, take, refl, sym, ap, ap₂, ◌∙◌, arith}
use Rattle.std.specs.Prelude.{sum}
use Rattle.std.specs.List.{range_with_len, sum_by}
use Rattle.std.proofs.lemmas.List.{take_all}
use Rattle.std.proofs.lemmas.List.Sums.{sum-map, sum_by_more, sum_by_push}
use Rattle.std.proofs.lemmas.Bool.{cases_lt}
use Rattle.std.proofs.Math.Nat.{mul-le-mul_right}
use Rattle.define_pools.proofs.Lists.{range-more}

-- the sum of `f` at the places below `n`
abbrev pub below : (ℕ → ℕ) → ℕ → ℕ
below f zero = 0
below f (suc n) = below f n + f n

pub sum_by-places : (f : ℕ → ℕ) (n : ℕ) → sum_by f (range_with_len 0 n) ≡ below f n
sum_by-places f zero = refl
sum_by-places f (suc n) =
    let at : 0 + n ≡ n = omega arith in
    ap (sum_by f) (range-more 0 n) ∙ (sum_by_push f (range_with_len 0 n) (0 + n) ∙ ap₂ (λ (s k : ℕ). s + f k) (sum_by-places f n) at)

pub sum-places : (f : ℕ → ℕ) (n : ℕ) → sum (map f (range_with_len 0 n)) ≡ below f n
sum-places f n = sum-map f (range_with_len 0 n) ∙ sum_by-places f n

pub below_same : (f g : ℕ → ℕ) (n : ℕ) → ((k : ℕ) → k < n → f k ≡ g k) → below f n ≡ below g n
below_same f g zero e = refl
below_same f g (suc n) e = ap₂ (λ (s t : ℕ). s + t) (below_same f g n (λ k l. e k (omega arith))) (e n (omega arith))

pub below_le : (f g : ℕ → ℕ) (n : ℕ) → ((k : ℕ) → k < n → f k ≤ g k) → below f n ≤ below g n
below_le f g zero e = omega arith
below_le f g (suc n) e = omega (arith, below_le f g n (λ k l. e k (omega arith)), e n (omega arith))

pub below-add : (f g : ℕ → ℕ) (n : ℕ) → below (λ k. f k + g k) n ≡ below f n + below g n
below-add f g zero = refl
below-add f g (suc n) = omega (arith, below-add f g n)

pub below-scaled : (f : ℕ → ℕ) (c n : ℕ) → below (λ k. c * f k) n ≡ c * below f n
below-scaled f c zero = omega arith
below-scaled f c (suc n) = omega (arith, below-scaled f c n)

-- the sum over the first `n` places of a list is the sum over its first `n` elements
pub below-list : {X : Type 0} (f : X → ℕ) (xs : List X) (d : X) (n : ℕ) → n ≤ length xs → below (λ k. f (get_or xs k d)) n ≡ sum_by f (take n xs)
below-list f xs d zero l = refl
below-list f xs d (suc n) l =
    let e : n + 1 ≡ suc n = omega arith in
    ap (λ s. s + f (get_or xs n d)) (below-list f xs d n (omega arith)) ∙ (sym (sum_by_more f xs n d (omega arith)) ∙ ap (λ k. sum_by f (take k xs)) e)

pub below-whole : {X : Type 0} (f : X → ℕ) (xs : List X) (d : X) → below (λ k. f (get_or xs k d)) (length xs) ≡ sum_by f xs
below-whole f xs d = below-list f xs d (length xs) (omega arith) ∙ ap (sum_by f) (take_all (length xs) xs (omega arith))

-- if `a * total` is at most `b * total`, and `total` is at least 1, `a` is at most `b`
pub le_unscaled : (a b total : ℕ) → 1 ≤ total → a * total ≤ b * total → a ≤ b
le_unscaled a b total some h = by (cases_lt b a)
  where
    by : (b < a) ⊎ (a ≤ b) → a ≤ b
    by (inl less) = let m : (b + 1) * total ≤ a * total = mul-le-mul_right total (omega arith) in absurd (omega arith)
    by (inr le) = le
