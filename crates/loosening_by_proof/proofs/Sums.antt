-- Sums over the numbered elements of a list, element by element; and a sum that is returned only if it fits.
use Rattle.std.proofs.Common.{◌≡◌, ℕ, ◌+◌, ◌≤◌, ◌<◌, Option, Some, None, List, length, take, get_or, sum_by, ap, ◌∙◌, arith}
use Rattle.std.specs.List.{enumerate_from}
use Rattle.std.specs.Option.{IfSome, SomeIff}
use Rattle.std.proofs.lemmas.List.{take_all}
use Rattle.std.proofs.lemmas.List.Sums.{sum_by_more}
use Rattle.define_pools.proofs.Lists.{get_or-enumerate_from, length-enumerate_from}

-- taking one more element adds its value to the sum
pub one_more : {X : Type 0} (f : ℕ × X → ℕ) (xs : List X) (k : ℕ) (d : X) → k < length xs →
    sum_by f (take (k + 1) (enumerate_from 0 xs)) ≡ sum_by f (take k (enumerate_from 0 xs)) + f (k, get_or xs k d)
one_more f xs k d l =
    let many = length-enumerate_from 0 xs in
    let here : 0 + k ≡ k = omega arith in
    sum_by_more f (enumerate_from 0 xs) k (0, d) (omega (arith, many, l))
    ∙ ap (λ p. sum_by f (take k (enumerate_from 0 xs)) + f p) (get_or-enumerate_from 0 xs k (0, d) d l ∙ ap (λ n. (n, get_or xs k d)) here)

-- if all elements are taken, their sum is that of the whole list
pub all_read : {X : Type 0} (f : ℕ × X → ℕ) (xs : List X) (k : ℕ) → length xs ≤ k → sum_by f (take k (enumerate_from 0 xs)) ≡ sum_by f (enumerate_from 0 xs)
all_read f xs k l = let many = length-enumerate_from 0 xs in ap (sum_by f) (take_all k (enumerate_from 0 xs) (omega (arith, many, l)))

-- if a function returns `sum` exactly where it fits, and `sum` equals `same`, then what it returns, if anything, is `same`
pub sum_returned : (returned : Option ℕ) (Fits : Type 0) (sum same : ℕ) → SomeIff returned Fits sum → sum ≡ same → IfSome returned (λ n. n ≡ same)
sum_returned None Fits sum same h e = tt
sum_returned (Some n) Fits sum same h e = h.1 ∙ e
