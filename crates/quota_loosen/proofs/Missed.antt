-- A sum over values or categories, with one more term.
use Rattle.std.proofs.Common.{◌≡◌, ℕ, zero, suc, ◌+◌, ◌≤◌, ◌<◌, List, [], ◌∷◌, length, take, get_or, sum_by, refl, sym, ap, ◌∙◌, arith, subst, All}
use Rattle.std.specs.Prelude.{slice_index, slice_index_or}
use Rattle.std.specs.List.{enumerate_from}
use Rattle.define_pools.proofs.Sums.{sum_by-is-total, total}

totals_next : {X : Type 0} (f : ℕ × X → ℕ) (first : ℕ) (xs : List X) (i : ℕ) (d : X) → i < length xs →
    total f (enumerate_from first (take (i + 1) xs)) ≡ total f (enumerate_from first (take i xs)) + f (first + i, get_or xs i d)
totals_next f first [] i d l = absurd (omega arith)
totals_next f first (x ∷ xs) zero d l = let e : first + 0 ≡ first = omega arith in rw e (omega arith)
totals_next f first (x ∷ xs) (suc i) d l =
    let e : suc i + 1 ≡ suc (i + 1) = omega arith in let g : first + suc i ≡ first + 1 + i = omega arith in
    let rest = totals_next f (first + 1) xs i d (omega arith) in rw (e, g) (omega (arith, rest))

-- the sum over the first `i + 1` elements is the sum over the first `i` plus the term of element `i`
pub sums_next : {X : Type 0} (f : ℕ × X → ℕ) (xs : List X) (i : ℕ) (d : X) → i < length xs →
    sum_by f (enumerate_from 0 (take (i + 1) xs)) ≡ sum_by f (enumerate_from 0 (take i xs)) + f (i, get_or xs i d)
sums_next f xs i d l =
    let e : 0 + i ≡ i = omega arith in
    let here = subst (λ k. total f (enumerate_from 0 (take (i + 1) xs)) ≡ total f (enumerate_from 0 (take i xs)) + f (k, get_or xs i d)) e (totals_next f 0 xs i d l) in
    omega (arith, here, sum_by-is-total f (enumerate_from 0 (take (i + 1) xs)), sum_by-is-total f (enumerate_from 0 (take i xs)))

-- the element at a place within a list is the same, whatever the default
pub default_same : {X : Type 0} (xs : List X) (i : ℕ) (d e : X) → i < length xs → get_or xs i d ≡ get_or xs i e
default_same [] i d e l = absurd (omega arith)
default_same (x ∷ xs) zero d e l = refl
default_same (x ∷ xs) (suc i) d e l = default_same xs i d e (omega arith)
