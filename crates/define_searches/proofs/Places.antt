-- The element at place `i` of the list that `f` makes of the numbers below `n` is `f i`.
use Rattle.std.proofs.Common.{◌≡◌, ℕ, ◌<◌, true, ltb, List, map, length, get_or, Option, ap, ◌∙◌, arith}
use Rattle.std.specs.List.{range_with_len}
use Rattle.std.proofs.lemmas.Bool.{lt-ltb}
use Rattle.std.proofs.lemmas.List.FromFn.{get_or-map-range_with_len, length-map-range_with_len}

pub made_at : (f : ℕ → Option ℕ) (n i : ℕ) (xs : List (Option ℕ)) (d : Option ℕ) → xs ≡ map f (range_with_len 0 n) → i < n → get_or xs i d ≡ f i
made_at f n i xs d e below = ap (λ xs. get_or xs i d) e ∙ get_or-map-range_with_len f 0 n i i d below (omega arith)

pub made_within : (f : ℕ → Option ℕ) (n i : ℕ) (xs : List (Option ℕ)) → xs ≡ map f (range_with_len 0 n) → i < n → ltb i (length xs) ≡ true
made_within f n i xs e below = let many : length xs ≡ n = ap length e ∙ length-map-range_with_len f 0 n in lt-ltb i (length xs) (omega arith)
