-- Tests of a list's elements, each together with its number.
use Rattle.std.proofs.Common.{◌≡◌, ℕ, ◌+◌, ◌<◌, Bool, false, ◌&&◌, List, [], ◌∷◌, length, get_or, refl, sym, ap, ap₂, ◌∙◌, arith}
use Rattle.std.specs.List.{enumerate_from, list_all}
use Rattle.std.proofs.lemmas.Bool.{false_from_ne_true, false≢true}
use Rattle.define_pools.proofs.Each.{enumerated-each}

pub list_all-enumerated_same : {X : Type 0} (p q : ℕ × X → Bool) (first : ℕ) (xs : List X) → ((k : ℕ) (x : X) → k < first + length xs → p (k, x) ≡ q (k, x)) →
    list_all p (enumerate_from first xs) ≡ list_all q (enumerate_from first xs)
list_all-enumerated_same p q first [] e = refl
list_all-enumerated_same p q first (x ∷ xs) e =
    ap₂ (λ a b. a && b) (e first x (omega arith)) (list_all-enumerated_same p q (first + 1) xs (λ k y l. e k y (omega arith)))

-- If element `k` fails the test, not all elements satisfy it.
pub one_fails : {X : Type 0} (p : ℕ × X → Bool) (xs : List X) (k : ℕ) (d : X) → k < length xs → p (k, get_or xs k d) ≡ false → list_all p (enumerate_from 0 xs) ≡ false
one_fails {X} p xs k d l e =
    false_from_ne_true (list_all p (enumerate_from 0 xs)) (λ all.
    let at : 0 + k ≡ k = omega arith in
    false≢true (sym e ∙ sym (ap (λ n. let pair : ℕ × X = (n, get_or xs k d) in p pair) at) ∙ enumerated-each p 0 xs all k d l))
