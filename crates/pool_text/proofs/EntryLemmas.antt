-- If a line is UTF-8, so is the new name or id of its entry; if it isn't, the line's kind of fault is 11, unless its entry has a lower one.
use Rattle.std.proofs.Common.{◌≡◌, ℕ, true, false, not, cond, List, [], ◌∷◌, map, sym, ◌∙◌, ap, subst, Option, Some, None}
use Rattle.std.proofs.Common.{Bor}
use Rattle.std.specs.List.{AllByRecursion}
use Rattle.std.specs.Str.{IsUtf8, is_utf8}
use Rattle.std.proofs.lemmas.Str.{IsUtf8-from_is_utf8}
use Rattle.define_pools.specs.Pool.{Pool}
use Rattle.define_pools.proofs.Each.{each_map}
use Rattle.define_lines.specs.Lines.{fields_of}
use Rattle.define_bundles.specs.declared.Passed.{Passed}
use Rattle.define_bundles.specs.PoolReading.{Entry, Word, CategoryWord, ValueWord, VolunteerWord, HouseholdWord, StandingWord, EndWord, words, word_among, entry_of_word, entry_behind, entry_of, entry_kind, line_kind, Inside}
use Rattle.define_bundles.proofs.LowestKinds.{kind_or, encoding_kind, line_kind_of}
use Rattle.define_lines.proofs.LineLemmas.{each_field_is_utf8, line_of-fields_of}
use Rattle.pool_text.specs.Entries.{IsText}

word_says_text : (word : Word) (fields : List (List ℕ)) → AllByRecursion IsUtf8 fields → IsText (entry_of_word word fields)
word_says_text CategoryWord [] h = tt
word_says_text CategoryWord (name ∷ []) h = h.0
word_says_text CategoryWord (name ∷ other ∷ fields) h = tt
word_says_text ValueWord [] h = tt
word_says_text ValueWord (name ∷ []) h = tt
word_says_text ValueWord (name ∷ lower ∷ []) h = tt
word_says_text ValueWord (name ∷ lower ∷ upper ∷ []) h = h.0
word_says_text ValueWord (name ∷ lower ∷ upper ∷ other ∷ fields) h = tt
word_says_text VolunteerWord [] h = tt
word_says_text VolunteerWord (id ∷ names) h = h.0
word_says_text HouseholdWord [] h = tt
word_says_text HouseholdWord (id ∷ []) h = tt
word_says_text HouseholdWord (id ∷ name ∷ []) h = h.1.0
word_says_text HouseholdWord (id ∷ name ∷ other ∷ fields) h = tt
word_says_text (StandingWord standing) [] h = tt
word_says_text (StandingWord standing) (id ∷ []) h = tt
word_says_text (StandingWord standing) (id ∷ other ∷ fields) h = tt
word_says_text EndWord [] h = tt
word_says_text EndWord (other ∷ fields) h = tt

-- if all fields are UTF-8, so is the new name or id of their entry
entry_is_text : (fields : List (List ℕ)) → AllByRecursion IsUtf8 fields → IsText (entry_of fields)
entry_is_text [] h = tt
entry_is_text (first ∷ fields) h =
    elim (word_among words first) as (λ o. IsText (entry_behind o fields)) [
      | None ↦ tt
      | Some word ↦ word_says_text word fields h.1
    ]

-- if a line is UTF-8, so is the new name or id of its entry
pub line_says_text : (line : List ℕ) → is_utf8 line ≡ true → IsText (entry_of (fields_of line))
line_says_text line h =
    let each = each_field_is_utf8 (fields_of line) (subst IsUtf8 (sym (line_of-fields_of line)) (IsUtf8-from_is_utf8 line h)) in
    entry_is_text (fields_of line) (each_map (λ field. is_utf8 field ≡ true) IsUtf8 IsUtf8-from_is_utf8 (fields_of line) each)

-- `kind_of_text` and `kind_of_no_text`: if a line's entry has no fault, the line has none if it is UTF-8, and else a fault of kind 11
pub kind_of_text : (pool : Pool) (passed : Passed) (line : List ℕ) → entry_kind pool passed (entry_of (fields_of line)) ≡ None → is_utf8 line ≡ true → line_kind (Inside pool passed) line ≡ None
kind_of_text pool passed line h text = line_kind_of pool passed line ∙ ap (λ kind. kind_or kind (encoding_kind line)) h ∙ ap (λ test. cond (not test) (Some 11) None) text

pub kind_of_no_text : (pool : Pool) (passed : Passed) (line : List ℕ) → entry_kind pool passed (entry_of (fields_of line)) ≡ None → is_utf8 line ≡ false → line_kind (Inside pool passed) line ≡ Some 11
kind_of_no_text pool passed line h text = line_kind_of pool passed line ∙ ap (λ kind. kind_or kind (encoding_kind line)) h ∙ ap (λ test. cond (not test) (Some 11) None) text

-- if `taken` are the fields of a line, the entry that was made of them is the entry of the line
pub says : (entry : Entry) (lent taken : List (Bor (List ℕ))) (line : List ℕ) → entry ≡ entry_of (map (λ field. field.now) lent) → lent ≡ taken → map (λ field. field.now) taken ≡ fields_of line →
    entry ≡ entry_of (fields_of line)
says entry lent taken line h same is = h ∙ (ap (λ fields. entry_of (map (λ field. field.now) fields)) same ∙ ap entry_of is)

-- if no kind of fault was found for `entry`, which is the line's entry, no kind applies to the line's entry
pub is_right : (pool : Pool) (passed : Passed) (entry : Entry) (line : List ℕ) (found : Option ℕ) → entry ≡ entry_of (fields_of line) → found ≡ entry_kind pool passed entry → found ≡ None →
    entry_kind pool passed (entry_of (fields_of line)) ≡ None
is_right pool passed entry line found same is none = ap (entry_kind pool passed) (sym same) ∙ (sym is ∙ none)
