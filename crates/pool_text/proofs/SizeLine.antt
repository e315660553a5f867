-- The second line, read without splitting it into fields.
use Rattle.std.proofs.Common.{◌≡◌, ℕ, true, eqb, List, [], ◌∷◌, ◌++◌, length, take, drop, sym, ◌∙◌, ap, arith, Some, None, unwrap_or, refl}
use Rattle.std.specs.Prelude.{bytes_eq, codes}
use Rattle.std.specs.Fmt.{decimal}
use Rattle.std.proofs.lemmas.List.{take-append-drop}
use Rattle.std.proofs.lemmas.List.Splits.{slice_split_at}
use Rattle.define_lines.specs.Lines.{tab, line_of, fields_of}
use Rattle.define_lines.specs.Numbers.{number_up_to}
use Rattle.define_lines.proofs.LineLemmas.{fields_of-line_of, line_of-fields_of}
use Rattle.define_lines.proofs.FieldLemmas.{plain_field, decimal_field}
use Rattle.define_lines.proofs.NumberLemmas.{bytes_are, number_spelled}
use Rattle.define_pools.specs.declared.Limits.{Limits}
use Rattle.define_pools.specs.Pool.{most_members}
use Rattle.define_pools.proofs.BuildingLemmas.{members_are_few}
use Rattle.define_bundles.specs.PoolReading.{size_of}

-- a field that has a TAB spells no number
no_number : (limits : Limits) (field : List ℕ) (fields : List (List ℕ)) → fields_of field ≡ fields → (length fields ≡ 1 → ⊥) → number_up_to (most_members limits) field ≡ None
no_number limits field fields e apart =
    (elim (number_up_to (most_members limits) field) as (λ o. number_up_to (most_members limits) field ≡ o → o ≡ None) [
      | None ↦ λ _. refl
      | Some n ↦ λ k.
          let spelled = number_spelled (most_members limits) n field k in
          let few = members_are_few limits in
          let whole : fields_of (decimal n) ≡ decimal n ∷ [] = fields_of-line_of (decimal n) [] ((decimal_field n (omega (arith, spelled.1))).no_tab, tt) in
          let one : fields ≡ decimal n ∷ [] = sym e ∙ (ap fields_of (sym spelled.0) ∙ whole) in
          absurd (apart (ap (λ (fs : List (List ℕ)). length fs) one))
    ]) refl

-- if `field` splits into `fields`, the size of a line with `size` before `fields` is the number that `field` spells, or 0 if none
one_field : (limits : Limits) (field : List ℕ) (fields : List (List ℕ)) → fields_of field ≡ fields → unwrap_or (number_up_to (most_members limits) field) 0 ≡ size_of limits (codes "size" ∷ fields)
one_field limits field [] e = ap (λ o. unwrap_or o 0) (no_number limits field [] e (λ h. omega arith))
one_field limits field (x ∷ []) e = ap (λ f. unwrap_or (number_up_to (most_members limits) f) 0) (sym (line_of-fields_of field) ∙ ap line_of e)
one_field limits field (x ∷ y ∷ fields) e = ap (λ o. unwrap_or o 0) (no_number limits field (x ∷ y ∷ fields) e (λ h. omega arith))

-- if a line begins with `size` and a TAB, its size is the number that the rest of the line spells, or 0 if it spells none
pub size_behind : (limits : Limits) (line field : List ℕ) → bytes_eq (take 5 line) (codes "size" ++ 9 ∷ []) ≡ true → field ≡ drop 5 line →
    unwrap_or (number_up_to (most_members limits) field) 0 ≡ size_of limits (fields_of line)
size_behind limits line field h e =
    let parts : line ≡ (codes "size" ++ 9 ∷ []) ++ field = sym (take-append-drop 5 line) ∙ (ap (λ front. front ++ drop 5 line) (bytes_are (take 5 line) (codes "size" ++ 9 ∷ []) h) ∙ ap (λ rest. (codes "size" ++ 9 ∷ []) ++ rest) (sym e)) in
    let split : fields_of line ≡ codes "size" ∷ fields_of field = ap fields_of parts ∙ slice_split_at (λ b. eqb b tab) (codes "size") tab field (plain_field (codes "size") refl).no_tab refl in
    one_field limits field (fields_of field) refl ∙ ap (size_of limits) (sym split)
