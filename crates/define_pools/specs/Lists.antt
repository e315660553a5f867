-- Definitions on lists of numbers and lists of texts. Pool, Lottery and Building use them, and so do many crates about panels or names.
use Rattle.std.specs.Prelude.{ℕ, zero, suc, Bool, true, not, ◌&&◌, ◌==◌, nat_lt, nat_le, if◌then◌else◌, List, [], ◌∷◌, ◌++◌, map, bytes_eq}
use Rattle.std.specs.List.{list_all, list_any}

-- `choices size xs` has all ways to choose `size` elements of `xs`, in the order of `xs`; those that take its first element come first
abbrev pub choices : ℕ → List ℕ → List (List ℕ)
choices zero xs = [] ∷ []
choices (suc size) [] = []
choices (suc size) (x ∷ xs) = map (λ chosen. x ∷ chosen) (choices size xs) ++ choices (suc size) xs

-- the list includes the number
abbrev pub includes : List ℕ → ℕ → Bool
includes xs i = list_any (λ x. x == i) xs

-- each number is below all that follow it
abbrev pub is_increasing : List ℕ → Bool
is_increasing [] = true
is_increasing (x ∷ xs) = list_all (λ y. nat_lt x y) xs && is_increasing xs

-- `xs` is among the lists
abbrev pub includes_list : List (List ℕ) → List ℕ → Bool
includes_list rest xs = list_any (bytes_eq xs) rest

-- no two lists are equal
abbrev pub all_different : List (List ℕ) → Bool
all_different [] = true
all_different (xs ∷ rest) = not (includes_list rest xs) && all_different rest

-- a number put into a rising list, in its place
abbrev pub put_in_order : ℕ → List ℕ → List ℕ
put_in_order x [] = x ∷ []
put_in_order x (y ∷ ys) = (if nat_le x y then x ∷ (y ∷ ys) else y ∷ put_in_order x ys)

-- the numbers in rising order
abbrev pub rising : List ℕ → List ℕ
rising [] = []
rising (x ∷ xs) = put_in_order x (rising xs)
