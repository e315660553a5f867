-- The fields of a head, as spans of bytes and as values of the grammar, have the same names and values.
use Rattle.std.proofs.Common.{◌≡◌, ℕ, ◌+◌, ◌<◌, ◌≤◌, ◌||◌, cond, Bool, false, true, List, [], ◌∷◌, ◌++◌, length, get_or, map, drop, Option, Some, None, refl, sym, ap, ◌∙◌, append-nil, append_assoc}
use Rattle.std.specs.List.{filter, list_any}
use Rattle.std.proofs.lemmas.List.{drop_all, drop_more}
use Rattle.httparse.specs.Grammar.{Field, field_value}
use Rattle.httparse.specs.Spans.{header_bytes, name_and_value, span_bytes}
use Rattle.httparse.specs.declared.spans.Span.{Span}
use Rattle.httparse.specs.declared.spans.HeaderSpan.{HeaderSpan}
use Rattle.define_desk.specs.Requests.{is_name, size_by, values_of}
use Rattle.office_requests.specs.Heads.{pairs_at, values_with}

-- ---- one field after the other

-- `values`, followed by the values with this name among the fields from `at` on, are the values with this name among all fields
abbrev pub AreValuesAt : List ℕ → List ℕ → List HeaderSpan → ℕ → List (List ℕ) → Type 0
AreValuesAt name head fields at values = values ++ values_with name (pairs_at head (drop at fields)) ≡ values_with name (pairs_at head fields)

pub values-named : (name head : List ℕ) (fields : List HeaderSpan) (at : ℕ) (field : HeaderSpan) (values : List (List ℕ)) → at < length fields → field ≡ get_or fields at field
    → is_name name (span_bytes head field.name) ≡ true → AreValuesAt name head fields at values → AreValuesAt name head fields (at + 1) (values ++ span_bytes head field.value ∷ [])
values-named name head fields at field values within is named before =
    let value = span_bytes head field.value in
    let rest = values_with name (pairs_at head (drop (at + 1) fields)) in
    let cut : drop at fields ≡ field ∷ drop (at + 1) fields = drop_more fields at field within ∙ ap (λ f. f ∷ drop (at + 1) fields) (sym is) in
    let here : values_with name (pairs_at head (field ∷ drop (at + 1) fields)) ≡ value ∷ rest = ap (λ t. cond t (value ∷ rest) rest) named in
    append_assoc values (value ∷ []) rest ∙ ap (λ xs. values ++ xs) (sym here) ∙ ap (λ fs. values ++ values_with name (pairs_at head fs)) (sym cut) ∙ before

pub values-other : (name head : List ℕ) (fields : List HeaderSpan) (at : ℕ) (field : HeaderSpan) (values : List (List ℕ)) → at < length fields → field ≡ get_or fields at field
    → is_name name (span_bytes head field.name) ≡ false → AreValuesAt name head fields at values → AreValuesAt name head fields (at + 1) values
values-other name head fields at field values within is other before =
    let value = span_bytes head field.value in
    let rest = values_with name (pairs_at head (drop (at + 1) fields)) in
    let cut : drop at fields ≡ field ∷ drop (at + 1) fields = drop_more fields at field within ∙ ap (λ f. f ∷ drop (at + 1) fields) (sym is) in
    let here : values_with name (pairs_at head (field ∷ drop (at + 1) fields)) ≡ rest = ap (λ t. cond t (value ∷ rest) rest) other in
    ap (λ xs. values ++ xs) (sym here) ∙ ap (λ fs. values ++ values_with name (pairs_at head fs)) (sym cut) ∙ before

pub values-all : (name head : List ℕ) (fields : List HeaderSpan) (at : ℕ) (values : List (List ℕ)) → length fields ≤ at
    → AreValuesAt name head fields at values → values ≡ values_with name (pairs_at head fields)
values-all name head fields at values all before =
    sym (append-nil values) ∙ ap (λ fs. values ++ values_with name (pairs_at head fs)) (sym (drop_all at fields all)) ∙ before

-- ---- the value of a name that at most one field has

abbrev pub found_value : List ℕ → Option Span → List (List ℕ)
found_value head None = []
found_value head (Some span) = span_bytes head span ∷ []

-- if two fields have the name, their values give no size
pub two_sizes : (name head : List ℕ) (fields : List HeaderSpan) (at : ℕ) (field : HeaderSpan) (span : Span) → at < length fields → field ≡ get_or fields at field
    → is_name name (span_bytes head field.name) ≡ true → AreValuesAt name head fields at (found_value head (Some span)) → None ≡ size_by (values_with name (pairs_at head fields))
two_sizes name head fields at field span within is named before =
    ap size_by (values-named name head fields at field (found_value head (Some span)) within is named before)

-- ---- the fields of the grammar

pub values_of_pairs : (name : List ℕ) (fields : List Field) → values_with name (map name_and_value fields) ≡ values_of name fields
values_of_pairs name [] = refl
values_of_pairs name (field ∷ fields) =
    let named : Field → Bool = λ f. is_name name f.name in
    elim (is_name name field.name)
    as (λ t. cond t (field_value field ∷ values_with name (map name_and_value fields)) (values_with name (map name_and_value fields)) ≡ map field_value (cond t (field ∷ filter named fields) (filter named fields)))
    [ true ↦ ap (λ xs. field_value field ∷ xs) (values_of_pairs name fields) | false ↦ values_of_pairs name fields ]

pub values_same : (name head : List ℕ) (spans : List HeaderSpan) (fields : List Field) → map (header_bytes head) spans ≡ map name_and_value fields
    → values_with name (pairs_at head spans) ≡ values_of name fields
values_same name head spans fields e = ap (values_with name) e ∙ values_of_pairs name fields

any_pair : (name head : List ℕ) (spans : List HeaderSpan) → list_any (λ span. is_name name (span_bytes head span.name)) spans ≡ list_any (λ pair. is_name name pair.0) (pairs_at head spans)
any_pair name head [] = refl
any_pair name head (span ∷ spans) = ap (λ t. is_name name (span_bytes head span.name) || t) (any_pair name head spans)

any_field : (name : List ℕ) (fields : List Field) → list_any (λ pair. is_name name pair.0) (map name_and_value fields) ≡ list_any (λ field. is_name name field.name) fields
any_field name [] = refl
any_field name (field ∷ fields) = ap (λ t. is_name name field.name || t) (any_field name fields)

pub any_same : (name head : List ℕ) (spans : List HeaderSpan) (fields : List Field) → map (header_bytes head) spans ≡ map name_and_value fields
    → list_any (λ span. is_name name (span_bytes head span.name)) spans ≡ list_any (λ field. is_name name field.name) fields
any_same name head spans fields e = any_pair name head spans ∙ ap (list_any (λ pair. is_name name pair.0)) e ∙ any_field name fields
