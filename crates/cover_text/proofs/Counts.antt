-- Counts that are read from fields, field by field.
use Rattle.std.proofs.Common.{◌≡◌, ℕ, ◌+◌, ◌<◌, List, [], ◌∷◌, ◌++◌, map, length, get_or, drop, refl, sym, ◌∙◌, ap, append_assoc, Option, Some, None, Bor}
use Rattle.std.proofs.lemmas.List.{drop_more}
use Rattle.define_lines.specs.Numbers.{number_up_to}
use Rattle.define_bundles.specs.BundleReading.{numbers_up_to, with_number}

-- the counts `done`, then the later ones; None if the later ones can't be read
abbrev pub behind : List ℕ → Option (List ℕ) → Option (List ℕ)
behind done None = None
behind done (Some later) = Some (done ++ later)

one_behind : (done : List ℕ) (count : ℕ) (later : Option (List ℕ)) → behind done (with_number (Some count) later) ≡ behind (done ++ count ∷ []) later
one_behind done count None = refl
one_behind done count (Some later) = ap Some (sym (append_assoc done (count ∷ []) later))

-- the values of the borrowed fields from place `i` on
abbrev pub fields_behind : List (Bor (List ℕ)) → ℕ → List (List ℕ)
fields_behind fields i = map (λ field. field.now) (drop i fields)

module _ (limit : ℕ) (fields : List (Bor (List ℕ))) (i : ℕ) (d : Bor (List ℕ)) (l : i < length fields) where
  one_first : numbers_up_to limit (fields_behind fields i) ≡ with_number (number_up_to limit (get_or fields i d).now) (numbers_up_to limit (fields_behind fields (i + 1)))
  one_first = ap (λ (fs : List (Bor (List ℕ))). numbers_up_to limit (map (λ field. field.now) fs)) (drop_more fields i d l)

  -- if field `i` spells a count, it can be moved from the fields that are unread to the counts that are done
  pub one_more : (done : List ℕ) (count : ℕ) → number_up_to limit (get_or fields i d).now ≡ Some count →
      behind (done ++ count ∷ []) (numbers_up_to limit (fields_behind fields (i + 1))) ≡ behind done (numbers_up_to limit (fields_behind fields i))
  one_more done count h =
      let later = numbers_up_to limit (fields_behind fields (i + 1)) in
      sym (ap (behind done) (one_first ∙ ap (λ first. with_number first later) h) ∙ one_behind done count later)

  -- if field `i` spells no count, the fields spell no list of counts
  pub one_fails : (done : List ℕ) → number_up_to limit (get_or fields i d).now ≡ None → behind done (numbers_up_to limit (fields_behind fields i)) ≡ None
  one_fails done h = ap (behind done) (one_first ∙ ap (λ first. with_number first (numbers_up_to limit (fields_behind fields (i + 1)))) h)
