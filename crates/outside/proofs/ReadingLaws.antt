-- What a read of an object in memory does to its bytes. The bytes are `items`, and those before `at` were read already. The program takes a
-- slice of a list `bytes`, which equals `items`.
use Rattle.std.proofs.Common.{◌≡◌, ℕ, ◌<◌, ◌-◌, ◌+◌, ◌++◌, List, [], ap, arith, drop, length, min, sym, take, ◌∙◌}
use Rattle.std.proofs.lemmas.List.{drop-drop, drop_all, length-drop, take-append-drop, take_rest}

-- the bytes copied into the room, followed by those still left, are the bytes that were left before
pub front_and_rest : (bytes items room : List ℕ) (at count : ℕ) → bytes ≡ items → take count room ≡ take count (take (length bytes - at) (drop at bytes))
    → drop at items ≡ take count room ++ drop (at + count) items
front_and_rest bytes items room at count same copied =
    let front : take count room ≡ take count (drop at items) = copied ∙ ap (take count) (take_rest bytes at) ∙ ap (λ xs. take count (drop at xs)) same in
    sym (take-append-drop count (drop at items)) ∙ ap (λ xs. xs ++ drop count (drop at items)) (sym front) ∙ ap (λ xs. take count room ++ xs) (drop-drop count at items)

-- if a room isn't empty and no byte was copied into it, no byte was left
pub none_left : (bytes items room : List ℕ) (at count size : ℕ) → bytes ≡ items → count ≡ min size (length (take (length bytes - at) (drop at bytes))) → length room ≡ size
    → count ≡ 0 → 0 < length room → drop (at + count) items ≡ []
none_left bytes items room at count size same counted sized zero some =
    drop_all (at + count) items (omega (arith, ap length same, ap length (take_rest bytes at), length-drop at bytes))
