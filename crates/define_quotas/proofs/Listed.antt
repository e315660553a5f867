-- A list that joins one list of quotas for each element, as it grows element by element.
use Rattle.std.proofs.Common.{◌≡◌, ℕ, ◌+◌, ◌≤◌, ◌<◌, List, [], ◌∷◌, ◌++◌, length, get_or, take, ap, ◌∙◌, arith}
use Rattle.std.specs.List.{enumerate_from, flat_map}
use Rattle.std.proofs.lemmas.Grind.{flat_map-append}
use Rattle.std.proofs.lemmas.List.{append-nil, take_all, take_more}
use Rattle.define_pools.proofs.Lists.{get_or-enumerate_from, length-enumerate_from}

-- taking one more element appends the list that `f` returns for it
pub one_more_list : {X Y : Type 0} (f : ℕ × X → List Y) (xs : List X) (k : ℕ) (d : X) → k < length xs →
    flat_map f (take (k + 1) (enumerate_from 0 xs)) ≡ flat_map f (take k (enumerate_from 0 xs)) ++ f (k, get_or xs k d)
one_more_list f xs k d l =
    let many = length-enumerate_from 0 xs in
    let here : 0 + k ≡ k = omega arith in
    let before = take k (enumerate_from 0 xs) in
    let next = get_or (enumerate_from 0 xs) k (0, d) in
    ap (flat_map f) (take_more (enumerate_from 0 xs) k (0, d) (omega (arith, many, l)))
    ∙ (flat_map-append f before (next ∷ [])
    ∙ (ap (λ more. flat_map f before ++ more) (append-nil (f next))
    ∙ ap (λ p. flat_map f before ++ f p) (get_or-enumerate_from 0 xs k (0, d) d l ∙ ap (λ n. (n, get_or xs k d)) here)))

-- if all elements are taken, their lists joined are the whole list
pub all_listed : {X Y : Type 0} (f : ℕ × X → List Y) (xs : List X) (k : ℕ) → length xs ≤ k → flat_map f (take k (enumerate_from 0 xs)) ≡ flat_map f (enumerate_from 0 xs)
all_listed f xs k l = let many = length-enumerate_from 0 xs in ap (flat_map f) (take_all k (enumerate_from 0 xs) (omega (arith, many, l)))
