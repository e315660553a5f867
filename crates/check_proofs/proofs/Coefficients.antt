-- A coefficient by its place, read from what a constraint refers to.
use Rattle.std.proofs.Common.{◌≡◌, ℕ, zero, suc, ◌+◌, ◌<◌, ◌≤◌, Bool, true, false, cond, ◌&&◌, ltb, List, [], ◌∷◌, map, length, get_or, Option, None, ℤ, pos, refl, sym, ap, ◌∙◌, arith}
use Rattle.std.specs.List.{range_with_len}
use Rattle.std.proofs.lemmas.Bool.{ltb-true, ltb-false}
use Rattle.std.proofs.lemmas.List.FromFn.{get_or-map-range_with_len, length-map-range_with_len}

beyond : (xs : List ℤ) (i : ℕ) → length xs ≤ i → get_or xs i (pos 0) ≡ pos 0
beyond [] i l = refl
beyond (x ∷ xs) zero l = absurd (omega arith)
beyond (x ∷ xs) (suc i) l = beyond xs i (omega arith)

-- for each number below `count` its value, and 0 beyond
pub for_each : (value : ℕ → ℤ) (count i : ℕ) → cond (ltb i count) (value i) (pos 0) ≡ get_or (map value (range_with_len 0 count)) i (pos 0)
for_each value count i = by (ltb i count) refl
  where
    by : (b : Bool) → ltb i count ≡ b → cond b (value i) (pos 0) ≡ get_or (map value (range_with_len 0 count)) i (pos 0)
    by true e = let l = ltb-true i count e in sym (get_or-map-range_with_len value 0 count i i (pos 0) (omega arith) (omega arith))
    by false e =
        let l = ltb-false i count e in let many = length-map-range_with_len value 0 count in
        sym (beyond (map value (range_with_len 0 count)) i (omega arith))

-- 1 for each number below `count`, and 0 beyond
pub for_everybody : (count i : ℕ) → cond (ltb i count) (pos 1) (pos 0) ≡ get_or (map (λ (i : ℕ). pos 1) (range_with_len 0 count)) i (pos 0)
for_everybody count i = for_each (λ i. pos 1) count i

-- 1 for each number below `count` that passes a test, and 0 for all others
pub for_passing : (passes : ℕ → Bool) (count i : ℕ) →
    cond (ltb i count && passes i) (pos 1) (pos 0) ≡ get_or (map (λ i. cond (passes i) (pos 1) (pos 0)) (range_with_len 0 count)) i (pos 0)
for_passing passes count i = both (ltb i count) (passes i) ∙ for_each (λ i. cond (passes i) (pos 1) (pos 0)) count i
  where
    both : (a b : Bool) → cond (a && b) (pos 1) (pos 0) ≡ cond a (cond b (pos 1) (pos 0)) (pos 0)
    both true b = refl
    both false b = refl

-- the image of the element at a place; beyond the list, that of None
pub of_element : (image : Option ℕ → ℤ) (xs : List (Option ℕ)) (i : ℕ) → image None ≡ pos 0 → image (get_or xs i None) ≡ get_or (map image xs) i (pos 0)
of_element image [] i none = none
of_element image (x ∷ xs) zero none = refl
of_element image (x ∷ xs) (suc i) none = of_element image xs i none
