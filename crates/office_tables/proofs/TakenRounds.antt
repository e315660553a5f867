-- The rounds after one is taken away, which are those before it if it is open and the last, else all; and names without one.
use Rattle.std.proofs.Common.{◌≡◌, ◌<◌, ◌+◌, ℕ, zero, suc, cond, not, List, [], ◌∷◌, ◌++◌, Some, None, get_or, length, take, ◌⊎◌, inl, inr, refl, sym, ap, ap₂, ◌∙◌, arith}
use Rattle.std.specs.Str.{bytes_eq}
use Rattle.std.proofs.lemmas.List.Elements.{filter_more}
use Rattle.define_offices.specs.Steps.{without_id}
use Rattle.define_bundles.specs.BundleText.{Bundle}
use Rattle.define_offices.specs.Tables.{Round, Open, Solved, Sealed, Drawn, bundle_of, taken_at, taken_named}

taken-open : (rounds : List Round) (place : ℕ) (d : Round) → suc place ≡ length rounds → get_or rounds place d ≡ Open → take place rounds ≡ taken_at rounds place
taken-open [] place d end is = absurd (omega arith)
taken-open (Open ∷ []) zero d end is = refl
taken-open (Solved bundle ∷ []) zero d end is = absurd (cc)
taken-open (Sealed bundle tickets ∷ []) zero d end is = absurd (cc)
taken-open (Drawn bundle tickets digits dropped ∷ []) zero d end is = absurd (cc)
taken-open (round ∷ next ∷ later) zero d end is = absurd (omega arith)
taken-open (round ∷ rounds) (suc place) d end is = ap (λ later. round ∷ later) (taken-open rounds place d (omega arith) is)

taken-other : (rounds : List Round) (place : ℕ) (d : Round) → (get_or rounds place d ≡ Open → ⊥) → suc place ≡ length rounds → taken_at rounds place ≡ rounds
taken-other [] place d other end = refl
taken-other (Open ∷ []) zero d other end = absurd (other refl)
taken-other (Open ∷ next ∷ later) zero d other end = refl
taken-other (Solved bundle ∷ later) zero d other end = refl
taken-other (Sealed bundle tickets ∷ later) zero d other end = refl
taken-other (Drawn bundle tickets digits dropped ∷ later) zero d other end = refl
taken-other (round ∷ rounds) (suc place) d other end = ap (λ later. round ∷ later) (taken-other rounds place d other (omega arith))

round-open : (round : Round) → bundle_of round ≡ None → round ≡ Open
round-open Open e = refl
round-open (Solved bundle) e = absurd (cc)
round-open (Sealed bundle tickets) e = absurd (cc)
round-open (Drawn bundle tickets digits dropped) e = absurd (cc)

-- if the last round has no bundle, it is open, and the rounds before it are left
pub taken-last : (rounds : List Round) (number place : ℕ) (round : Round) → number ≡ suc place → length rounds ≡ number → round ≡ get_or rounds place round → bundle_of round ≡ None →
    take place rounds ≡ taken_named rounds number
taken-last rounds number place round named last at none =
    taken-open rounds place round (omega arith) (sym at ∙ round-open round none) ∙ ap (taken_named rounds) (sym named)

-- if the last round has a bundle, all rounds are left
pub taken-kept : (rounds : List Round) (number place : ℕ) (round : Round) (bundle : Bundle) → number ≡ suc place → length rounds ≡ number → round ≡ get_or rounds place round → bundle_of round ≡ Some bundle →
    taken_named rounds number ≡ rounds
taken-kept rounds number place round bundle named last at has =
    ap (taken_named rounds) named ∙ taken-other rounds place round (λ e. (let none : Some bundle ≡ None = sym has ∙ ap bundle_of (at ∙ e) in cc)) (omega arith)

not-last : (rounds : List Round) (place : ℕ) → (suc place ≡ length rounds → ⊥) → taken_at rounds place ≡ rounds
not-last [] place h = refl
not-last (Open ∷ []) zero h = absurd (h refl)
not-last (Open ∷ next ∷ later) zero h = refl
not-last (Solved bundle ∷ later) zero h = refl
not-last (Sealed bundle tickets ∷ later) zero h = refl
not-last (Drawn bundle tickets digits dropped ∷ later) zero h = refl
not-last (round ∷ rounds) (suc place) h = ap (λ later. round ∷ later) (not-last rounds place (λ e. h (ap suc e)))

-- if no round has number `number`, or it isn't the last, no round is taken away
pub taken-none : (rounds : List Round) (number : ℕ) → (number ≡ 0) ⊎ ((number ≡ 0 → ⊥) × (length rounds ≡ number → ⊥)) → taken_named rounds number ≡ rounds
taken-none rounds zero h = refl
taken-none rounds (suc place) (inl h) = absurd (cc)
taken-none rounds (suc place) (inr h) = not-last rounds place (λ e. h.1 (let l = e in cc))

-- the names other than `id` among the first `i + 1`, from those among the first `i`
pub one_more-without : (id : List ℕ) (names old new : List (List ℕ)) (i : ℕ) (name : List ℕ) → i < length names → name ≡ get_or names i name → old ≡ without_id id (take i names) →
    new ≡ old ++ cond (not (bytes_eq id name)) (name ∷ []) [] → new ≡ without_id id (take (i + 1) names)
one_more-without id names old new i name inside at so_far pushed =
    pushed ∙ ap₂ (λ (xs : List (List ℕ)) (n : List ℕ). xs ++ cond (not (bytes_eq id n)) (n ∷ []) []) so_far at ∙ sym (filter_more (λ other. not (bytes_eq id other)) names i name inside)
