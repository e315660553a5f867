-- A filtered range of numbers, and the same range with one number more.
use Rattle.std.proofs.Common.{◌≡◌, ℕ, ◌+◌, Bool, true, false, ◌||◌, List, [], ◌∷◌, ◌++◌, map, filter, sym, ap, ◌∙◌}
use Rattle.std.specs.List.{list_any, range_with_len}
use Rattle.std.proofs.lemmas.List.{map-append}
use Rattle.std.proofs.Math.Bool.{or-false}
use Rattle.std.proofs.lemmas.List.Folds.{list_any-append}
use Rattle.define_pools.proofs.Lists.{numbers_more, filter_taken, filter_passed}

pub any_next : (p : ℕ → Bool) (i : ℕ) → list_any p (range_with_len 0 (i + 1)) ≡ (list_any p (range_with_len 0 i) || p i)
any_next p i = ap (list_any p) (numbers_more i) ∙ list_any-append p (range_with_len 0 i) (i ∷ []) ∙ ap (λ b. list_any p (range_with_len 0 i) || b) (or-false (p i))

-- If `i` satisfies `p`, extending the range by the number `i` appends `f i` to the list made of the filtered range.
pub mapped_taken : {X : Type 0} (f : ℕ → X) (p : ℕ → Bool) (i : ℕ) (xs made : List X) (x : X) → p i ≡ true → x ≡ f i → xs ≡ map f (filter p (range_with_len 0 i)) → made ≡ xs ++ x ∷ [] →
    made ≡ map f (filter p (range_with_len 0 (i + 1)))
mapped_taken {X} f p i xs made x t e g h =
    h ∙ ap (λ (xs : List X). xs ++ x ∷ []) g ∙ ap (λ x. map f (filter p (range_with_len 0 i)) ++ x ∷ []) e
    ∙ sym (map-append f (filter p (range_with_len 0 i)) (i ∷ [])) ∙ sym (ap (map f) (filter_taken p i t))

-- If `i` doesn't satisfy `p`, extending the range by the number `i` leaves the list made of the filtered range as it is.
pub mapped_passed : {X : Type 0} (f : ℕ → X) (p : ℕ → Bool) (i : ℕ) (xs made : List X) → p i ≡ false → xs ≡ map f (filter p (range_with_len 0 i)) → made ≡ xs →
    made ≡ map f (filter p (range_with_len 0 (i + 1)))
mapped_passed f p i xs made t g h = h ∙ g ∙ sym (ap (map f) (filter_passed p i t))
