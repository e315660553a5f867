-- Multipliers that are read from pairs of fields, pair by pair.
use Rattle.std.proofs.Common.{◌≡◌, ℕ, ◌+◌, ◌*◌, ◌<◌, List, [], ◌∷◌, ◌++◌, map, length, get_or, drop, refl, sym, ◌∙◌, ap, arith, append_assoc, Option, Some, None, Bor, length-drop}
use Rattle.std.proofs.lemmas.List.{drop_more}
use Rattle.define_lines.specs.Numbers.{number_up_to, signed_up_to}
use Rattle.define_bundles.specs.BundleReading.{with_number}
use Rattle.define_proofs.specs.Leaves.{Multiplier}
use Rattle.define_proofs.specs.TreeRanges.{greatest_constraint, number_limit}
use Rattle.define_proofs.specs.ProofReading.{multiplier_of, multipliers_of}

-- the multipliers `done`, then the later ones; None if the later ones can't be read
abbrev pub behind : List Multiplier → Option (List Multiplier) → Option (List Multiplier)
behind done None = None
behind done (Some later) = Some (done ++ later)

one_behind : (done : List Multiplier) (multiplier : Multiplier) (later : Option (List Multiplier)) → behind done (with_number (Some multiplier) later) ≡ behind (done ++ multiplier ∷ []) later
one_behind done multiplier None = refl
one_behind done multiplier (Some later) = ap Some (sym (append_assoc done (multiplier ∷ []) later))

-- the values of the borrowed fields from place `i` on
abbrev pub fields_behind : List (Bor (List ℕ)) → ℕ → List (List ℕ)
fields_behind fields i = map (λ field. field.now) (drop i fields)

-- the multiplier that the two fields of pair `i` spell; None if they spell none
abbrev pub pair_at : List (Bor (List ℕ)) → ℕ → Bor (List ℕ) → Option Multiplier
pair_at fields i d = multiplier_of (number_up_to greatest_constraint (get_or fields (2 * i) d).now) (signed_up_to number_limit (get_or fields (2 * i + 1) d).now)

two_first : (fields : List (Bor (List ℕ))) (i : ℕ) (d : Bor (List ℕ)) → 2 * i + 1 < length fields →
    multipliers_of (fields_behind fields (2 * i)) ≡ with_number (pair_at fields i d) (multipliers_of (fields_behind fields (2 * (i + 1))))
two_first fields i d l =
    let next : (2 * i + 1) + 1 ≡ 2 * (i + 1) = omega arith in
    ap (λ (fs : List (Bor (List ℕ))). multipliers_of (map (λ field. field.now) fs))
    (drop_more fields (2 * i) d (omega arith) ∙ ap (λ rest. get_or fields (2 * i) d ∷ rest) (drop_more fields (2 * i + 1) d l ∙ ap (λ k. get_or fields (2 * i + 1) d ∷ drop k fields) next))

-- if pair `i` spells a multiplier, it can be moved from the fields that are unread to the multipliers that are done
pub one_more : (fields : List (Bor (List ℕ))) (i : ℕ) (d : Bor (List ℕ)) (done : List Multiplier) (multiplier : Multiplier) → 2 * i + 1 < length fields → pair_at fields i d ≡ Some multiplier →
    behind (done ++ multiplier ∷ []) (multipliers_of (fields_behind fields (2 * (i + 1)))) ≡ behind done (multipliers_of (fields_behind fields (2 * i)))
one_more fields i d done multiplier l h =
    let later = multipliers_of (fields_behind fields (2 * (i + 1))) in
    sym (ap (behind done) (two_first fields i d l ∙ ap (λ first. with_number first later) h) ∙ one_behind done multiplier later)

-- if pair `i` spells no multiplier, the fields spell no list of multipliers
pub one_fails : (fields : List (Bor (List ℕ))) (i : ℕ) (d : Bor (List ℕ)) (done : List Multiplier) → 2 * i + 1 < length fields → pair_at fields i d ≡ None →
    behind done (multipliers_of (fields_behind fields (2 * i))) ≡ None
one_fails fields i d done l h =
    ap (behind done) (two_first fields i d l ∙ ap (λ first. with_number first (multipliers_of (fields_behind fields (2 * (i + 1))))) h)

-- if a single field is left, the fields spell no list of multipliers
one_left : (fields : List (Bor (List ℕ))) (done : List Multiplier) → length fields ≡ 1 → behind done (multipliers_of (map (λ field. field.now) fields)) ≡ None
one_left [] done h = absurd (omega arith)
one_left (field ∷ []) done h = refl
one_left (field ∷ next ∷ later) done h = absurd (omega arith)

pub odd_left : (fields : List (Bor (List ℕ))) (i : ℕ) (done : List Multiplier) → length fields ≡ 2 * i + 1 → behind done (multipliers_of (fields_behind fields (2 * i))) ≡ None
odd_left fields i done h = one_left (drop (2 * i) fields) done (omega (arith, length-drop (2 * i) fields))
