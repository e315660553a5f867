-- One step of the loops that find the least and the greatest count.
use Rattle.std.proofs.Common.{◌≡◌, ℕ, ◌+◌, ◌<◌, min, max, ltb, List, map, length, get_or, take, fold, ℤ, pos, unsigned_abs, FitsSigned, to_z, of_z, sym, ◌∙◌, ap, arith}
use Rattle.std.specs.Int.{int_max, int_min, w128}
use Rattle.std.proofs.Math.ListN.{get_or-map}
use Rattle.std.proofs.lemmas.Bool.{cond_both, ltb-false, ltb-true}
use Rattle.std.proofs.lemmas.Int.{to_z-of_z}
use Rattle.std.proofs.lemmas.List.{length-map}
use Rattle.std.proofs.lemmas.List.Sums.{fold_more}

pub min_of_naturals : (a b : ℕ) → int_min (pos a) (pos b) ≡ pos (min a b)
min_of_naturals a b =
    cond_both (ltb b a) (pos b) (pos a) (λ z. z ≡ pos (min a b)) (λ e. let l = ltb-true b a e in ap pos (omega arith)) (λ e. let l = ltb-false b a e in ap pos (omega arith))

pub max_of_naturals : (a b : ℕ) → int_max (pos a) (pos b) ≡ pos (max a b)
max_of_naturals a b =
    cond_both (ltb b a) (pos a) (pos b) (λ z. z ≡ pos (max a b)) (λ e. let l = ltb-true b a e in ap pos (omega arith)) (λ e. let l = ltb-false b a e in ap pos (omega arith))

-- if no count is negative, the count at place `i` is its own absolute value, as a signed number
number_at : (counts : List ℤ) (i : ℕ) (x : ℤ) → counts ≡ map pos (map unsigned_abs counts) → x ≡ get_or counts i (pos 0) → x ≡ pos (get_or (map unsigned_abs counts) i 0)
number_at counts i x natural e = e ∙ ap (λ zs. get_or zs i (pos 0)) natural ∙ get_or-map pos (map unsigned_abs counts) i 0

-- after the step of a loop at place `i`, the stored number is what `pick` makes of `first` and the counts up to place `i`
pub next_stored : (pick : ℕ → ℕ → ℕ) (choose : ℤ → ℤ → ℤ) → ((a b : ℕ) → choose (pos a) (pos b) ≡ pos (pick a b)) → (counts : List ℤ) (i first : ℕ) (now next : ℤ) →
    FitsSigned w128 (get_or counts i (pos 0)) → FitsSigned w128 next → counts ≡ map pos (map unsigned_abs counts) → i < length counts →
    now ≡ pos (fold pick first (take i (map unsigned_abs counts))) → next ≡ choose now (to_z w128 (of_z w128 (get_or counts i (pos 0)))) →
    to_z w128 (of_z w128 next) ≡ pos (fold pick first (take (i + 1) (map unsigned_abs counts)))
next_stored pick choose of_naturals counts i first now next fits fits_next natural inside so_far step =
    let ns = map unsigned_abs counts in
    let room : i < length ns = omega (arith, length-map counts unsigned_abs) in
    to_z-of_z w128 next fits_next ∙ step ∙ ap (λ z. choose z (to_z w128 (of_z w128 (get_or counts i (pos 0))))) so_far
    ∙ ap (choose (pos (fold pick first (take i ns)))) (number_at counts i (to_z w128 (of_z w128 (get_or counts i (pos 0)))) natural (to_z-of_z w128 (get_or counts i (pos 0)) fits))
    ∙ of_naturals (fold pick first (take i ns)) (get_or ns i 0) ∙ ap pos (sym (fold_more pick first ns i 0 room))
