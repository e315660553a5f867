-- Lines that are read without a fault are those of the pool that is read.
use Rattle.std.proofs.Common.{◌≡◌, ℕ, zero, suc, ◌+◌, ◌<◌, ◌≤◌, Bool, true, false, not, cond, ltb, leb, eqb, ◌&&◌, ◌||◌, List, [], ◌∷◌, ◌++◌, length, get_or, drop, map, refl, sym, ◌∙◌, ap, subst, arith, add-one, append_assoc, Option, Some, None, unwrap_or}
use Rattle.std.specs.Prelude.{bytes_eq, codes, Ok, is_some}
use Rattle.std.specs.Fmt.{decimal}
use Rattle.std.specs.List.{AllByRecursion, flat_map, list_all, list_any}
use Rattle.std.specs.Str.{is_utf8}
use Rattle.std.proofs.lemmas.Bool.{and_from, and_parts, cond_both, le-leb, leb-true, ltb-false, lt-ltb, not-false, or_parts, or_from, or_right, false≢true}
use Rattle.std.proofs.lemmas.Grind.{flat_map-append}
use Rattle.std.proofs.lemmas.List.{append-nil, length_push, map-append}
use Rattle.std.proofs.lemmas.List.Quantifiers.{position-Some}
use Rattle.std.proofs.lemmas.List.Folds.{list_any-append}
use Rattle.define_pools.specs.Pool.{Pool, BoundedValue, Category, Volunteer, are_bounds, is_size, is_usual, most_members, most_volunteers, IsPool, has_households}
use Rattle.define_pools.specs.Lists.{includes_list}
use Rattle.define_pools.specs.Building.{value_names, size_kind, with_value, place_of, places_of, are_known, empty_pool, volunteer_kind, volunteer_added, with_standing, standing_set, with_household, household_set, household_kind}
use Rattle.define_lines.specs.Lines.{line_of, text_of, fields_of}
use Rattle.define_lines.specs.Numbers.{number_up_to}
use Rattle.define_bundles.specs.PoolText.{version_line, size_line, value_line, category_lines, names_at, volunteer_line, household_line, household_lines, standing_line, standing_lines, end_line, version_of, lines_in, lines_before_end, spelling}
use Rattle.define_bundles.specs.declared.Passed.{Passed}
use Rattle.define_bundles.specs.declared.Version.{Version}
use Rattle.define_bundles.specs.declared.Version.TheVariants.{First, Second, Third}
use Rattle.define_bundles.specs.PoolReading.{Progress, Begun, Versioned, Inside, Ended, Entry, OfCategory, OfValue, OfVolunteer, OfHousehold, OfStanding, TheEnd, Unknown, Word, CategoryWord, ValueWord, VolunteerWord, HouseholdWord, StandingWord, EndWord, words, word_among, bound_of, entry_of_word, entry_behind, entry_of, number_of, is_ahead, limits_in, may_house, must_house, must_pass, awaits_household, awaits_volunteers, is_version_line, entry_kind, size_of, line_kind, after_entry, after_line, at_last, read, reader}
use Rattle.define_pools.specs.declared.Limits.{Limits}
use Rattle.define_pools.specs.declared.Limits.TheVariants.{Usual, Large}
use Rattle.define_pools.specs.declared.Standing.{Standing}
use Rattle.define_pools.specs.declared.Standing.TheVariants.{Open, Seated, Gone}
use Rattle.std.specs.Str.{IsUtf8}
use Rattle.std.proofs.lemmas.Str.{IsUtf8-from_is_utf8}
use Rattle.define_pools.proofs.Each.{list_all-push}
use Rattle.define_pools.proofs.BuildingLemmas.{no_kind, category_fits, value_fits, volunteer_fits, place_at, IsPool-empty_pool, IsPool-category_added, IsPool-value_added, IsPool-volunteer_added, IsPool-standing_set, IsPool-household_set, length-with_standing, length-with_household}
use Rattle.define_lines.proofs.LineByLine as reading
use Rattle.define_lines.proofs.LineLemmas.{each_field_is_utf8, line_of-fields_of}
use Rattle.define_lines.proofs.NumberLemmas.{bytes_are, number_spelled}
use Rattle.define_bundles.proofs.LowestKinds.{kind_or, encoding_kind, line_kind_of}

-- if `kind_or` of two kinds is None, both are None
pub neither : (first second : Option ℕ) → kind_or first second ≡ None → (first ≡ None) × (second ≡ None)
neither None second h = (refl, h)
neither (Some kind) second h = cc

-- the lines that led to a progress
abbrev pub lines_so_far : Progress → List (List ℕ)
lines_so_far Begun = []
lines_so_far (Versioned version) = version_line version ∷ []
lines_so_far (Inside pool passed) = lines_in passed.version pool
lines_so_far (Ended pool) = lines_before_end pool ++ end_line ∷ []

-- the line of an entry; an open standing has none
abbrev pub entry_lines : Entry → List (List ℕ)
entry_lines (OfCategory name) = line_of (codes "category" ∷ name ∷ []) ∷ []
entry_lines (OfValue value) = value_line value ∷ []
entry_lines (OfVolunteer id names) = line_of (codes "volunteer" ∷ id ∷ names) ∷ []
entry_lines (OfHousehold id name) = household_line (Some name) id
entry_lines (OfStanding standing id) = standing_line standing id
entry_lines TheEnd = end_line ∷ []
entry_lines Unknown = [] ∷ []

-- if the bound that a field gives is in range, the field is the spelling of this bound
bound_spelled : (field : List ℕ) → bound_of field ≤ 999 → decimal (bound_of field) ≡ field
bound_spelled field h =
    (elim (number_up_to 999 field) as (λ o. number_up_to 999 field ≡ o → unwrap_or o 1000 ≤ 999 → decimal (unwrap_or o 1000) ≡ field) [
      | None ↦ λ e k. absurd (omega arith)
      | Some n ↦ λ e k. (number_spelled 999 n field e).0
    ]) refl h

bounds_in_range : (lower upper : ℕ) → are_bounds lower upper ≡ true → (lower ≤ 999) × (upper ≤ 999)
bounds_in_range lower upper h =
    let parts = and_parts (leb lower upper) (leb upper 999) h in
    let a = leb-true lower upper parts.0 in let b = leb-true upper 999 parts.1 in (omega arith, omega arith)

-- `first` is the spelling of the word
abbrev IsWord : List ℕ → Word → Type 0
IsWord first CategoryWord = first ≡ codes "category"
IsWord first ValueWord = first ≡ codes "value"
IsWord first VolunteerWord = first ≡ codes "volunteer"
IsWord first HouseholdWord = first ≡ codes "household"
IsWord first (StandingWord Open) = ⊥
IsWord first (StandingWord Seated) = first ≡ codes "seated"
IsWord first (StandingWord Gone) = first ≡ codes "gone"
IsWord first EndWord = first ≡ codes "end"

is_word : (first : List ℕ) (word : Word) → word_among words first ≡ Some word → IsWord first word
is_word first word h =
    among (codes "category") CategoryWord _ (λ e. e) (among (codes "value") ValueWord _ (λ e. e) (among (codes "volunteer") VolunteerWord _ (λ e. e)
    (among (codes "household") HouseholdWord _ (λ e. e) (among (codes "seated") (StandingWord Seated) _ (λ e. e) (among (codes "gone") (StandingWord Gone) _ (λ e. e) (among (codes "end") EndWord _ (λ e. e) (λ k. cc))))))) h
  where
    among : (spelled : List ℕ) (one : Word) (later : Option Word) → (first ≡ spelled → IsWord first one) → (later ≡ Some word → IsWord first word) →
        cond (bytes_eq first spelled) (Some one) later ≡ Some word → IsWord first word
    among spelled one later is rest k =
        cond_both (bytes_eq first spelled) (Some one) later (λ o. o ≡ Some word → IsWord first word)
        (λ e l. subst (IsWord first) (same one l) (is (bytes_are first spelled e))) (λ _ l. rest l) k
      where
        same : (one : Word) → Some one ≡ Some word → one ≡ word
        same one l = cc

-- if fields are read as an entry without a fault, their line is the entry's line
module _ (pool : Pool) (passed : Passed) where
  Spells : List (List ℕ) → Entry → Type 0
  Spells fields entry = entry_kind pool passed entry ≡ None → line_of fields ∷ [] ≡ entry_lines entry

  spells : (word : Word) (first : List ℕ) (fields : List (List ℕ)) → IsWord first word → Spells (first ∷ fields) (entry_of_word word fields)
  unfolding Spells
  spells CategoryWord first [] e h = cc
  spells CategoryWord first (name ∷ []) e h = ap (λ word. line_of (word ∷ name ∷ []) ∷ []) e
  spells CategoryWord first (name ∷ other ∷ fields) e h = cc
  spells ValueWord first [] e h = cc
  spells ValueWord first (name ∷ []) e h = cc
  spells ValueWord first (name ∷ lower ∷ []) e h = cc
  spells ValueWord first (name ∷ lower ∷ upper ∷ []) e h =
      let value : BoundedValue = record { name = name; lower = bound_of lower; upper = bound_of upper } in
      let range = bounds_in_range (bound_of lower) (bound_of upper) (value_fits pool value h).bounds in
      ap (λ word. line_of (word ∷ name ∷ lower ∷ upper ∷ []) ∷ []) e
      ∙ (ap (λ field. line_of (codes "value" ∷ name ∷ field ∷ upper ∷ []) ∷ []) (sym (bound_spelled lower range.0))
      ∙ ap (λ field. line_of (codes "value" ∷ name ∷ decimal (bound_of lower) ∷ field ∷ []) ∷ []) (sym (bound_spelled upper range.1)))
  spells ValueWord first (name ∷ lower ∷ upper ∷ other ∷ fields) e h = cc
  spells VolunteerWord first [] e h = cc
  spells VolunteerWord first (id ∷ names) e h = ap (λ word. line_of (word ∷ id ∷ names) ∷ []) e
  spells HouseholdWord first [] e h = cc
  spells HouseholdWord first (id ∷ []) e h = cc
  spells HouseholdWord first (id ∷ name ∷ []) e h = ap (λ word. line_of (word ∷ id ∷ name ∷ []) ∷ []) e
  spells HouseholdWord first (id ∷ name ∷ other ∷ fields) e h = cc
  spells (StandingWord standing) first [] e h = cc
  spells (StandingWord Open) first (id ∷ []) e h = absurd e
  spells (StandingWord Seated) first (id ∷ []) e h = ap (λ word. line_of (word ∷ id ∷ []) ∷ []) e
  spells (StandingWord Gone) first (id ∷ []) e h = ap (λ word. line_of (word ∷ id ∷ []) ∷ []) e
  spells (StandingWord standing) first (id ∷ other ∷ fields) e h = cc
  spells EndWord first [] e h = ap (λ word. word ∷ []) e
  spells EndWord first (other ∷ fields) e h = cc

  pub entry_spelled : (fields : List (List ℕ)) → entry_kind pool passed (entry_of fields) ≡ None → line_of fields ∷ [] ≡ entry_lines (entry_of fields)
  unfolding Spells
  entry_spelled [] h = cc
  entry_spelled (first ∷ fields) h =
      (elim (word_among words first) as (λ o. word_among words first ≡ o → Spells (first ∷ fields) (entry_behind o fields)) [
        | None ↦ λ _ k. cc
        | Some word ↦ λ e. spells word first fields (is_word first word e)
      ]) refl h

-- if the last category gets one more value, the lines of the categories get one more line, the value's
flat_map-with_value : (categories : List Category) (value : BoundedValue) → (length categories ≡ 0 → ⊥) →
    flat_map category_lines (with_value categories value) ≡ flat_map category_lines categories ++ value_line value ∷ []
flat_map-with_value [] value some = absurd (some refl)
flat_map-with_value (category ∷ []) value some =
    let head = line_of (codes "category" ∷ category.name ∷ []) in
    ap (λ lines. head ∷ (lines ++ [])) (map-append value_line category.values (value ∷ []))
    ∙ (append-nil (head ∷ (map value_line category.values ++ value_line value ∷ []))
    ∙ ap (λ lines. lines ++ value_line value ∷ []) (sym (append-nil (category_lines category))))
flat_map-with_value (category ∷ next ∷ later) value some =
    ap (λ lines. category_lines category ++ lines) (flat_map-with_value (next ∷ later) value (λ e. omega arith))
    ∙ sym (append_assoc (category_lines category) (flat_map category_lines (next ∷ later)) (value_line value ∷ []))

-- if a name is among the values' names, the name at its place is this name
name_at_place : (values : List BoundedValue) (name : List ℕ) → includes_list (value_names values) name ≡ true → get_or (value_names values) (unwrap_or (place_of values name) 0) [] ≡ name
name_at_place values name h =
    let known = place_at values name h in
    ap (λ place. get_or (value_names values) (unwrap_or place 0) []) known.1 ∙ known.3

-- if each name is known in its category, the names at their places are these names
pub names_at-places_of : (categories : List Category) (names : List (List ℕ)) → are_known categories names ≡ true → length names ≡ length categories → names_at categories (places_of categories names) ≡ names
names_at-places_of [] [] known e = refl
names_at-places_of [] (name ∷ names) known e = absurd (omega arith)
names_at-places_of (category ∷ categories) [] known e = absurd (omega arith)
names_at-places_of (category ∷ categories) (name ∷ names) known e =
    let parts = and_parts (includes_list (value_names category.values) name) (are_known categories names) known in
    let rest = names_at-places_of categories names parts.1 (omega arith) in
    let here = name_at_place category.values name parts.0 in cc

-- if there are no volunteers, a line appended to the categories' lines is appended to all lines
under_nobody : (f g : Volunteer → List ℕ) (volunteers : List Volunteer) (after before : List (List ℕ)) (line : List ℕ) →
    volunteers ≡ [] → after ≡ before ++ line ∷ [] →
    ((after ++ map f volunteers) ++ household_lines volunteers) ++ standing_lines volunteers ≡ (((before ++ map g volunteers) ++ household_lines volunteers) ++ standing_lines volunteers) ++ line ∷ []
under_nobody f g [] after before line e h = nils after ∙ (h ∙ ap (λ lines. lines ++ line ∷ []) (sym (nils before)))
  where
    nils : (lines : List (List ℕ)) → ((lines ++ []) ++ []) ++ [] ≡ lines
    nils lines = append-nil ((lines ++ []) ++ []) ∙ (append-nil (lines ++ []) ∙ append-nil lines)
under_nobody f g (volunteer ∷ volunteers) after before line e h = cc

-- true if the standing is open; only then it has no line
abbrev pub is_open : Standing → Bool
is_open Open = true
is_open Seated = false
is_open Gone = false

-- all volunteers from `number` on are open
abbrev pub open_from : ℕ → List Volunteer → Bool
open_from number volunteers = list_all (λ (volunteer : Volunteer). is_open volunteer.standing) (drop number volunteers)

-- an open standing has no line
no_line : (standing : Standing) (id : List ℕ) → is_open standing ≡ true → standing_line standing id ≡ []
no_line Open id h = refl
no_line Seated id h = absurd (false≢true h)
no_line Gone id h = absurd (false≢true h)

-- if all volunteers are open, there is no standing line
no_lines : (volunteers : List Volunteer) → open_from 0 volunteers ≡ true → standing_lines volunteers ≡ []
no_lines [] h = refl
no_lines (volunteer ∷ volunteers) h =
    let parts = and_parts (is_open volunteer.standing) (open_from 0 volunteers) h in
    rw (no_line volunteer.standing volunteer.id parts.0) (no_lines volunteers parts.1)

-- if the volunteers from `passed` on are open, and `number` is at least `passed`, setting the standing of volunteer `number` appends the
-- line of this standing, if it has one, to the standing lines
one_standing : (volunteers : List Volunteer) (passed number : ℕ) (standing : Standing) (d : Volunteer) → open_from passed volunteers ≡ true → passed ≤ number → number < length volunteers →
    standing_lines (with_standing volunteers number standing) ≡ standing_lines volunteers ++ standing_line standing (get_or volunteers number d).id
one_standing [] passed number standing d h l m = absurd (omega arith)
one_standing (volunteer ∷ volunteers) zero zero standing d h l m =
    let parts = and_parts (is_open volunteer.standing) (open_from 0 volunteers) h in
    rw (no_line volunteer.standing volunteer.id parts.0, no_lines volunteers parts.1) (append-nil (standing_line standing volunteer.id))
one_standing (volunteer ∷ volunteers) zero (suc number) standing d h l m =
    let parts = and_parts (is_open volunteer.standing) (open_from 0 volunteers) h in
    ap (λ lines. standing_line volunteer.standing volunteer.id ++ lines) (one_standing volunteers zero number standing d parts.1 (omega arith) (omega arith))
    ∙ sym (append_assoc (standing_line volunteer.standing volunteer.id) (standing_lines volunteers) (standing_line standing (get_or volunteers number d).id))
one_standing (volunteer ∷ volunteers) (suc passed) zero standing d h l m = absurd (omega arith)
one_standing (volunteer ∷ volunteers) (suc passed) (suc number) standing d h l m =
    ap (λ lines. standing_line volunteer.standing volunteer.id ++ lines) (one_standing volunteers passed number standing d h (omega arith) (omega arith))
    ∙ sym (append_assoc (standing_line volunteer.standing volunteer.id) (standing_lines volunteers) (standing_line standing (get_or volunteers number d).id))

-- if the volunteers from `passed` on are open and `passed ≤ number`, the volunteers after `number` are still open once the standing of
-- volunteer `number` is set
open_behind : (volunteers : List Volunteer) (passed number : ℕ) (standing : Standing) → open_from passed volunteers ≡ true → passed ≤ number → open_from (suc number) (with_standing volunteers number standing) ≡ true
open_behind [] passed number standing h l = refl
open_behind (volunteer ∷ volunteers) zero zero standing h l = (and_parts (is_open volunteer.standing) (open_from 0 volunteers) h).1
open_behind (volunteer ∷ volunteers) zero (suc number) standing h l =
    open_behind volunteers zero number standing (and_parts (is_open volunteer.standing) (open_from 0 volunteers) h).1 (omega arith)
open_behind (volunteer ∷ volunteers) (suc passed) zero standing h l = absurd (omega arith)
open_behind (volunteer ∷ volunteers) (suc passed) (suc number) standing h l = open_behind volunteers passed number standing h (omega arith)

-- no volunteer from `number` on has a household
abbrev pub alone_from : ℕ → List Volunteer → Bool
alone_from number volunteers = list_all (λ (volunteer : Volunteer). not (is_some volunteer.household)) (drop number volunteers)

-- without a household there is no household line
no_house : (household : Option (List ℕ)) (id : List ℕ) → not (is_some household) ≡ true → household_line household id ≡ []
no_house None id h = refl
no_house (Some name) id h = absurd (false≢true h)

-- if nobody has a household, there is no household line
no_houses : (volunteers : List Volunteer) → alone_from 0 volunteers ≡ true → household_lines volunteers ≡ []
no_houses [] h = refl
no_houses (volunteer ∷ volunteers) h =
    let parts = and_parts (not (is_some volunteer.household)) (alone_from 0 volunteers) h in
    rw (no_house volunteer.household volunteer.id parts.0) (no_houses volunteers parts.1)

-- if the volunteers from `passed` on have no household, and `number` is at least `passed`, setting the household of volunteer `number`
-- appends its line to the household lines
one_household : (volunteers : List Volunteer) (passed number : ℕ) (name : List ℕ) (d : Volunteer) → alone_from passed volunteers ≡ true → passed ≤ number → number < length volunteers →
    household_lines (with_household volunteers number name) ≡ household_lines volunteers ++ household_line (Some name) (get_or volunteers number d).id
one_household [] passed number name d h l m = absurd (omega arith)
one_household (volunteer ∷ volunteers) zero zero name d h l m =
    let parts = and_parts (not (is_some volunteer.household)) (alone_from 0 volunteers) h in
    rw (no_house volunteer.household volunteer.id parts.0, no_houses volunteers parts.1) (append-nil (household_line (Some name) volunteer.id))
one_household (volunteer ∷ volunteers) zero (suc number) name d h l m =
    let parts = and_parts (not (is_some volunteer.household)) (alone_from 0 volunteers) h in
    ap (λ lines. household_line volunteer.household volunteer.id ++ lines) (one_household volunteers zero number name d parts.1 (omega arith) (omega arith))
    ∙ sym (append_assoc (household_line volunteer.household volunteer.id) (household_lines volunteers) (household_line (Some name) (get_or volunteers number d).id))
one_household (volunteer ∷ volunteers) (suc passed) zero name d h l m = absurd (omega arith)
one_household (volunteer ∷ volunteers) (suc passed) (suc number) name d h l m =
    ap (λ lines. household_line volunteer.household volunteer.id ++ lines) (one_household volunteers passed number name d h (omega arith) (omega arith))
    ∙ sym (append_assoc (household_line volunteer.household volunteer.id) (household_lines volunteers) (household_line (Some name) (get_or volunteers number d).id))

-- if the volunteers from `passed` on have no household and `passed ≤ number`, the volunteers after `number` still have none once the
-- household of volunteer `number` is set
alone_behind : (volunteers : List Volunteer) (passed number : ℕ) (name : List ℕ) → alone_from passed volunteers ≡ true → passed ≤ number → alone_from (suc number) (with_household volunteers number name) ≡ true
alone_behind [] passed number name h l = refl
alone_behind (volunteer ∷ volunteers) zero zero name h l = (and_parts (not (is_some volunteer.household)) (alone_from 0 volunteers) h).1
alone_behind (volunteer ∷ volunteers) zero (suc number) name h l =
    alone_behind volunteers zero number name (and_parts (not (is_some volunteer.household)) (alone_from 0 volunteers) h).1 (omega arith)
alone_behind (volunteer ∷ volunteers) (suc passed) zero name h l = absurd (omega arith)
alone_behind (volunteer ∷ volunteers) (suc passed) (suc number) name h l = alone_behind volunteers passed number name h (omega arith)

-- setting a standing doesn't change whether the volunteers from `passed` on are without a household
alone-with_standing : (volunteers : List Volunteer) (passed number : ℕ) (standing : Standing) → alone_from passed (with_standing volunteers number standing) ≡ alone_from passed volunteers
alone-with_standing [] passed number standing = refl
alone-with_standing (volunteer ∷ volunteers) zero zero standing = refl
alone-with_standing (volunteer ∷ volunteers) zero (suc number) standing = ap (λ b. not (is_some volunteer.household) && b) (alone-with_standing volunteers zero number standing)
alone-with_standing (volunteer ∷ volunteers) (suc passed) zero standing = refl
alone-with_standing (volunteer ∷ volunteers) (suc passed) (suc number) standing = alone-with_standing volunteers passed number standing

houses-with_standing : (volunteers : List Volunteer) (number : ℕ) (standing : Standing) → household_lines (with_standing volunteers number standing) ≡ household_lines volunteers
houses-with_standing [] number standing = refl
houses-with_standing (volunteer ∷ volunteers) zero standing = refl
houses-with_standing (volunteer ∷ volunteers) (suc number) standing = ap (λ lines. household_line volunteer.household volunteer.id ++ lines) (houses-with_standing volunteers number standing)

housed-with_standing : (volunteers : List Volunteer) (number : ℕ) (standing : Standing) →
    list_any (λ (v : Volunteer). is_some v.household) (with_standing volunteers number standing) ≡ list_any (λ (v : Volunteer). is_some v.household) volunteers
housed-with_standing [] number standing = refl
housed-with_standing (volunteer ∷ volunteers) zero standing = refl
housed-with_standing (volunteer ∷ volunteers) (suc number) standing = ap (λ b. is_some volunteer.household || b) (housed-with_standing volunteers number standing)

standings-with_household : (volunteers : List Volunteer) (number : ℕ) (name : List ℕ) → standing_lines (with_household volunteers number name) ≡ standing_lines volunteers
standings-with_household [] number name = refl
standings-with_household (volunteer ∷ volunteers) zero name = refl
standings-with_household (volunteer ∷ volunteers) (suc number) name = ap (λ lines. standing_line volunteer.standing volunteer.id ++ lines) (standings-with_household volunteers number name)

open-with_household : (volunteers : List Volunteer) (number : ℕ) (name : List ℕ) → open_from 0 (with_household volunteers number name) ≡ open_from 0 volunteers
open-with_household [] number name = refl
open-with_household (volunteer ∷ volunteers) zero name = refl
open-with_household (volunteer ∷ volunteers) (suc number) name = ap (λ b. is_open volunteer.standing && b) (open-with_household volunteers number name)

-- if a household is set, somebody has one
housed-with_household : (volunteers : List Volunteer) (number : ℕ) (name : List ℕ) → number < length volunteers →
    list_any (λ (v : Volunteer). is_some v.household) (with_household volunteers number name) ≡ true
housed-with_household [] number name l = absurd (omega arith)
housed-with_household (volunteer ∷ volunteers) zero name l = refl
housed-with_household (volunteer ∷ volunteers) (suc number) name l = or_right (is_some volunteer.household) _ (housed-with_household volunteers number name (omega arith))

-- the id of a household or standing line without a fault is that of a volunteer whose number is at least `passed`
record IdFits (pool : Pool) (passed : ℕ) (id : List ℕ) : Type 0 where
  number : ℕ
  found : number_of pool.volunteers id ≡ Some number
  ahead : passed ≤ number
  inside : number < length pool.volunteers
  named : (d : Volunteer) → id ≡ (get_or pool.volunteers number d).id

id_fits : (pool : Pool) (passed : ℕ) (id : List ℕ) → not (is_ahead passed (number_of pool.volunteers id)) ≡ false → IdFits pool passed id
id_fits pool passed id h =
    (elim (number_of pool.volunteers id) as (λ o. number_of pool.volunteers id ≡ o → is_ahead passed o ≡ true → IdFits pool passed id) [
      | None ↦ λ e k. absurd (false≢true k)
      | Some number ↦ λ e k.
          let test : Volunteer → Bool = λ volunteer. bytes_eq id volunteer.id in
          let nobody : Volunteer = record { id = []; values = []; standing = Open; household = None } in
          record {
            number = number;
            found = e;
            ahead = leb-true passed number k;
            inside = (position-Some test pool.volunteers number nobody e).0;
            named = λ d. bytes_are id (get_or pool.volunteers number d).id (position-Some test pool.volunteers number d e).1;
          }
    ]) refl (not-false (is_ahead passed (number_of pool.volunteers id)) h)

-- if a standing line has no fault, nothing is missing before it, and the id fits
standing_fits : (pool : Pool) (passed : Passed) (standing : Standing) (id : List ℕ) → entry_kind pool passed (OfStanding standing id) ≡ None →
    ((awaits_household passed || awaits_volunteers pool passed) ≡ false) × IdFits pool passed.standings id
standing_fits pool passed standing id h =
    let first = no_kind (awaits_household passed || awaits_volunteers pool passed) 1 _ h in
    (first.0, id_fits pool passed.standings id (no_kind (not (is_ahead passed.standings (number_of pool.volunteers id))) 9 None first.1).0)

-- a household line has no fault: the version has household lines, no standing line came before it, the id fits, and the household's name
-- has no fault
record HouseholdFits (pool : Pool) (passed : Passed) (id name : List ℕ) : Type 0 where
  may : may_house passed.version ≡ true
  no_standing : passed.standings ≡ 0
  fits : IdFits pool passed.households id
  kind : household_kind name ≡ None

household_fits : (pool : Pool) (passed : Passed) (id name : List ℕ) → entry_kind pool passed (OfHousehold id name) ≡ None → HouseholdFits pool passed id name
household_fits pool passed id name h =
    let first = no_kind (not (may_house passed.version) || ltb 0 passed.standings || awaits_volunteers pool passed) 1 _ h in
    let next = no_kind (not (is_ahead passed.households (number_of pool.volunteers id))) 9 (household_kind name) first.1 in
    let place = or_parts (not (may_house passed.version) || ltb 0 passed.standings) (awaits_volunteers pool passed) first.0 in
    let before = or_parts (not (may_house passed.version)) (ltb 0 passed.standings) place.0 in
    let none = ltb-false 0 passed.standings before.1 in
    record { may = not-false (may_house passed.version) before.0; no_standing = omega arith; fits = id_fits pool passed.households id next.0; kind = next.1 }

-- if a volunteer's line has no fault, no household or standing line came before it, and building finds no fault
volunteer_parts : (pool : Pool) (passed : Passed) (id : List ℕ) (names : List (List ℕ)) → entry_kind pool passed (OfVolunteer id names) ≡ None →
    (passed.households ≡ 0) × (passed.standings ≡ 0) × (volunteer_kind (limits_in passed.version) pool id names ≡ None)
volunteer_parts pool passed id names h =
    let parts = no_kind (ltb 0 passed.households || ltb 0 passed.standings) 1 (volunteer_kind (limits_in passed.version) pool id names) h in
    let neither_passed = or_parts (ltb 0 passed.households) (ltb 0 passed.standings) parts.0 in
    let one = ltb-false 0 passed.households neither_passed.0 in
    let other = ltb-false 0 passed.standings neither_passed.1 in (omega arith, omega arith, parts.1)

usual_size : (size : ℕ) → size_kind Usual size ≡ None → is_usual (empty_pool size) ≡ true
usual_size size h =
    let is = not-false (is_size Usual size) (no_kind (not (is_size Usual size)) 2 None h).0 in
    and_from (leb size (most_members Usual)) (leb 0 (most_volunteers Usual)) (and_parts (leb 1 size) (leb size (most_members Usual)) is).1 refl

usual_added : (pool : Pool) (id : List ℕ) (names : List (List ℕ)) → volunteer_kind Usual pool id names ≡ None → is_usual pool ≡ true → is_usual (volunteer_added pool id names) ≡ true
usual_added pool id names h usual =
    let fits = volunteer_fits Usual pool id names h in
    let parts = and_parts (leb pool.size (most_members Usual)) (leb (length pool.volunteers) (most_volunteers Usual)) usual in
    let one : Volunteer = record { id = id; values = places_of pool.categories names; standing = Open; household = None } in
    and_from (leb pool.size (most_members Usual)) (leb (length (pool.volunteers ++ one ∷ [])) (most_volunteers Usual)) parts.0
    (le-leb (length (pool.volunteers ++ one ∷ [])) (most_volunteers Usual) (omega (arith, length_push pool.volunteers one, fits.room)))

-- the pool is within the limits that the version has: those of version 1 and 2 are the usual ones
abbrev pub IsWithin : Version → Pool → Type 0
IsWithin version pool = must_pass version ≡ false → is_usual pool ≡ true

-- the empty pool of a size within the limits of the version is within them
empty_within : (version : Version) (size : ℕ) → size_kind (limits_in version) size ≡ None → IsWithin version (empty_pool size)
empty_within First size h _ = usual_size size h
empty_within Second size h _ = usual_size size h
empty_within Third size h e = absurd (false≢true (sym e))

-- with one more volunteer who has no fault, the pool is still within the limits of the version
within_added : (version : Version) (pool : Pool) (id : List ℕ) (names : List (List ℕ)) → volunteer_kind (limits_in version) pool id names ≡ None → IsWithin version pool → IsWithin version (volunteer_added pool id names)
within_added First pool id names h within _ = usual_added pool id names h (within refl)
within_added Second pool id names h within _ = usual_added pool id names h (within refl)
within_added Third pool id names h within e = absurd (false≢true (sym e))

-- setting a household or a standing doesn't change whether the pool is within the limits of the version
within_same : (version : Version) (pool : Pool) (volunteers : List Volunteer) → length volunteers ≡ length pool.volunteers → IsWithin version pool → IsWithin version (record pool { volunteers = volunteers })
within_same version pool volunteers same within e = ap (λ n. leb pool.size (most_members Usual) && leb n (most_volunteers Usual)) same ∙ within e

-- the pool so far is right: it is a pool, within the limits of the version; volunteers from `passed.standings` on are open; volunteers from
-- `passed.households` on have no household; somebody has a household exactly if there was a household line; and in version 1 there was none
pub record IsRightInside (pool : Pool) (passed : Passed) : Type 0 where
  pub is_pool : IsPool pool
  pub within : IsWithin passed.version pool
  pub ahead : open_from passed.standings pool.volunteers ≡ true
  pub alone : alone_from passed.households pool.volunteers ≡ true
  pub housed : has_households pool ≡ ltb 0 passed.households
  pub first : may_house passed.version ≡ false → passed.households ≡ 0

-- if nothing is missing, the pool's own version is that of the text
pub own_version : (pool : Pool) (passed : Passed) → IsRightInside pool passed → (awaits_household passed || awaits_volunteers pool passed) ≡ false → version_of pool ≡ passed.version
own_version pool passed right h =
    let parts = or_parts (awaits_household passed) (awaits_volunteers pool passed) h in
    same passed.version passed.households (has_households pool) (is_usual pool) (right.within) parts.0 parts.1 right.housed right.first
  where
    same : (version : Version) (households : ℕ) (housed usual : Bool) → (must_pass version ≡ false → usual ≡ true) → (must_house version && eqb households 0) ≡ false →
        (must_pass version && usual) ≡ false → housed ≡ ltb 0 households → (may_house version ≡ false → households ≡ 0) →
        cond usual (cond housed Second First) Third ≡ version
    same First zero housed usual within houses passes is first = let u = within refl in rw (u, is) refl
    same First (suc households) housed usual within houses passes is first = let none = first refl in absurd (omega arith)
    same Second zero housed usual within houses passes is first = absurd (false≢true (sym houses))
    same Second (suc households) housed usual within houses passes is first =
        let u = within refl in let some = lt-ltb 0 (suc households) (omega arith) in rw (u, is, some) refl
    same Third households housed usual within houses passes is first = rw passes refl

-- a progress is right: its pool, if it has one, is right so far
abbrev pub IsRight : Progress → Type 0
IsRight Begun = Unit {0}
IsRight (Versioned version) = Unit {0}
IsRight (Inside pool passed) = IsRightInside pool passed
IsRight (Ended pool) = IsPool pool

-- after right lines, an entry without a fault adds its line to the lines so far
pub entry_adds : (pool : Pool) (passed : Passed) (entry : Entry) → IsRight (Inside pool passed) → entry_kind pool passed entry ≡ None →
    lines_so_far (after_entry pool passed entry) ≡ lines_in passed.version pool ++ entry_lines entry
entry_adds pool passed (OfCategory name) right h =
    let fits = category_fits pool name h in
    let category : Category = record { name = name; values = [] } in
    ap (λ lines. version_line passed.version ∷ size_line pool.size ∷ lines)
    (under_nobody (volunteer_line (pool.categories ++ category ∷ [])) (volunteer_line pool.categories) pool.volunteers
    (flat_map category_lines (pool.categories ++ category ∷ [])) (flat_map category_lines pool.categories) (line_of (codes "category" ∷ name ∷ []))
    fits.nobody (flat_map-append category_lines pool.categories (category ∷ [])))
entry_adds pool passed (OfValue value) right h =
    let fits = value_fits pool value h in
    ap (λ lines. version_line passed.version ∷ size_line pool.size ∷ lines)
    (under_nobody (volunteer_line (with_value pool.categories value)) (volunteer_line pool.categories) pool.volunteers
    (flat_map category_lines (with_value pool.categories value)) (flat_map category_lines pool.categories) (value_line value)
    fits.nobody (flat_map-with_value pool.categories value (λ none. let some = fits.some in omega arith)))
entry_adds pool passed (OfVolunteer id names) right h =
    let parts = volunteer_parts pool passed id names h in
    let fits = volunteer_fits (limits_in passed.version) pool id names parts.2 in
    let line = volunteer_line pool.categories in
    let one : Volunteer = record { id = id; values = places_of pool.categories names; standing = Open; household = None } in
    let before = flat_map category_lines pool.categories in
    let all_open : open_from 0 pool.volunteers ≡ true = subst (λ n. open_from n pool.volunteers ≡ true) parts.1 right.ahead in
    let all_alone : alone_from 0 pool.volunteers ≡ true = subst (λ n. alone_from n pool.volunteers ≡ true) parts.0 right.alone in
    let none = no_lines pool.volunteers all_open in
    let none_housed = no_houses pool.volunteers all_alone in
    let none_housed_after = no_houses (pool.volunteers ++ one ∷ []) (list_all-push (λ (volunteer : Volunteer). not (is_some volunteer.household)) pool.volunteers one all_alone refl) in
    let none_after = no_lines (pool.volunteers ++ one ∷ []) (list_all-push (λ (volunteer : Volunteer). is_open volunteer.standing) pool.volunteers one all_open refl) in
    let spelled : line one ≡ line_of (codes "volunteer" ∷ id ∷ names) = ap (λ fields. line_of (codes "volunteer" ∷ id ∷ fields)) (names_at-places_of pool.categories names fits.known fits.each) in
    let new = line_of (codes "volunteer" ∷ id ∷ names) ∷ [] in
    ap (λ lines. version_line passed.version ∷ size_line pool.size ∷ lines)
    (no_more (before ++ map line (pool.volunteers ++ one ∷ [])) (household_lines (pool.volunteers ++ one ∷ [])) (standing_lines (pool.volunteers ++ one ∷ [])) none_housed_after none_after
    ∙ (ap (λ lines. before ++ lines) (map-append line pool.volunteers (one ∷ []))
    ∙ (sym (append_assoc before (map line pool.volunteers) (line one ∷ []))
    ∙ (ap (λ last. (before ++ map line pool.volunteers) ++ last ∷ []) spelled
    ∙ ap (λ lines. lines ++ new) (sym (no_more (before ++ map line pool.volunteers) (household_lines pool.volunteers) (standing_lines pool.volunteers) none_housed none))))))
  where
    no_more : (lines houses standings : List (List ℕ)) → houses ≡ [] → standings ≡ [] → (lines ++ houses) ++ standings ≡ lines
    no_more lines houses standings e f = rw (e, f) (append-nil (lines ++ []) ∙ append-nil lines)
entry_adds pool passed (OfHousehold id name) right h =
    let all = household_fits pool passed id name h in
    let fits = all.fits in
    let line = volunteer_line pool.categories in
    let before = flat_map category_lines pool.categories in
    let nobody : Volunteer = record { id = []; values = []; standing = Open; household = None } in
    let place : unwrap_or (number_of pool.volunteers id) 0 ≡ fits.number = ap (λ o. unwrap_or o 0) fits.found in
    let all_open : open_from 0 pool.volunteers ≡ true = subst (λ n. open_from n pool.volunteers ≡ true) all.no_standing right.ahead in
    let none = no_lines pool.volunteers all_open in
    let added = one_household pool.volunteers passed.households fits.number name nobody right.alone fits.ahead fits.inside in
    let listed = before ++ map line pool.volunteers in
    let houses = household_lines pool.volunteers in
    let new = household_line (Some name) id in
    let set = with_household pool.volunteers fits.number name in
    ap (λ n. lines_in passed.version (household_set pool n name)) place
    ∙ ap (λ lines. version_line passed.version ∷ size_line pool.size ∷ lines)
    (ap (λ lines. ((before ++ lines) ++ household_lines set) ++ standing_lines set) (lines_kept pool.categories pool.volunteers fits.number name)
    ∙ (ap (λ lines. (listed ++ household_lines set) ++ lines) (standings-with_household pool.volunteers fits.number name ∙ none)
    ∙ (append-nil (listed ++ household_lines set)
    ∙ (ap (λ lines. listed ++ lines) (added ∙ ap (λ who. houses ++ household_line (Some name) who) (sym (fits.named nobody)))
    ∙ (sym (append_assoc listed houses new)
    ∙ ap (λ lines. lines ++ new) (sym (ap (λ lines. (listed ++ houses) ++ lines) none ∙ append-nil (listed ++ houses))))))))
  where
    lines_kept : (categories : List Category) (volunteers : List Volunteer) (number : ℕ) (name : List ℕ) → map (volunteer_line categories) (with_household volunteers number name) ≡ map (volunteer_line categories) volunteers
    lines_kept categories [] number name = refl
    lines_kept categories (volunteer ∷ volunteers) zero name = refl
    lines_kept categories (volunteer ∷ volunteers) (suc number) name = ap (λ lines. volunteer_line categories volunteer ∷ lines) (lines_kept categories volunteers number name)
entry_adds pool passed (OfStanding standing id) right h =
    let fits = (standing_fits pool passed standing id h).1 in
    let line = volunteer_line pool.categories in
    let before = flat_map category_lines pool.categories in
    let nobody : Volunteer = record { id = []; values = []; standing = Open; household = None } in
    let place : unwrap_or (number_of pool.volunteers id) 0 ≡ fits.number = ap (λ o. unwrap_or o 0) fits.found in
    let kept = lines_kept pool.categories pool.volunteers fits.number standing in
    let added = one_standing pool.volunteers passed.standings fits.number standing nobody right.ahead fits.ahead fits.inside in
    let set = with_standing pool.volunteers fits.number standing in
    let listed = (before ++ map line pool.volunteers) ++ household_lines pool.volunteers in
    ap (λ n. lines_in passed.version (standing_set pool n standing)) place
    ∙ ap (λ lines. version_line passed.version ∷ size_line pool.size ∷ lines)
    (ap (λ lines. ((before ++ lines) ++ household_lines set) ++ standing_lines set) kept
    ∙ (ap (λ lines. ((before ++ map line pool.volunteers) ++ lines) ++ standing_lines set) (houses-with_standing pool.volunteers fits.number standing)
    ∙ (ap (λ lines. listed ++ lines) (added ∙ ap (λ who. standing_lines pool.volunteers ++ standing_line standing who) (sym (fits.named nobody)))
    ∙ sym (append_assoc listed (standing_lines pool.volunteers) (standing_line standing id)))))
  where
    lines_kept : (categories : List Category) (volunteers : List Volunteer) (number : ℕ) (standing : Standing) → map (volunteer_line categories) (with_standing volunteers number standing) ≡ map (volunteer_line categories) volunteers
    lines_kept categories [] number standing = refl
    lines_kept categories (volunteer ∷ volunteers) zero standing = refl
    lines_kept categories (volunteer ∷ volunteers) (suc number) standing = ap (λ lines. volunteer_line categories volunteer ∷ lines) (lines_kept categories volunteers number standing)
entry_adds pool passed TheEnd right h =
    let due = no_kind (awaits_household passed || awaits_volunteers pool passed) 1 None h in ap (λ version. lines_in version pool ++ end_line ∷ []) (own_version pool passed right due.0)
entry_adds pool passed Unknown right h = cc

-- 0 is no size
no_size : (limits : Limits) (P : Type 0) → size_kind limits 0 ≡ None → P
no_size limits P h = cc

-- if fields are read as a size in range, their line is the line of this size
size_spelled : (limits : Limits) (fields : List (List ℕ)) → size_kind limits (size_of limits fields) ≡ None → line_of fields ≡ size_line (size_of limits fields)
size_spelled limits [] h = no_size limits (line_of [] ≡ size_line 0) h
size_spelled limits (first ∷ []) h = no_size limits (line_of (first ∷ []) ≡ size_line 0) h
size_spelled limits (first ∷ field ∷ other ∷ fields) h = no_size limits (line_of (first ∷ field ∷ other ∷ fields) ≡ size_line 0) h
size_spelled limits (first ∷ field ∷ []) h =
    let most = most_members limits in
    cond_both (bytes_eq first (codes "size")) (unwrap_or (number_up_to most field) 0) 0 (λ size. size_kind limits size ≡ None → line_of (first ∷ field ∷ []) ≡ size_line size)
    (λ e. (elim (number_up_to most field) as (λ o. number_up_to most field ≡ o → size_kind limits (unwrap_or o 0) ≡ None → line_of (first ∷ field ∷ []) ≡ size_line (unwrap_or o 0)) [
      | None ↦ λ _ k. no_size limits (line_of (first ∷ field ∷ []) ≡ size_line 0) k
      | Some n ↦ λ f k. ap (λ word. line_of (word ∷ field ∷ [])) (bytes_are first (codes "size") e) ∙ ap (λ digits. line_of (codes "size" ∷ digits ∷ [])) (sym (number_spelled most n field f).0)
    ]) refl)
    (λ _ k. no_size limits (line_of (first ∷ field ∷ []) ≡ size_line 0) k) h

-- if fields are UTF-8 and are read as an entry without a fault, the progress after it is right
module _ (pool : Pool) (passed : Passed) (right : IsRight (Inside pool passed)) where
  Keeps : Entry → Type 0
  Keeps entry = entry_kind pool passed entry ≡ None → IsRight (after_entry pool passed entry)

  keeps : (word : Word) (fields : List (List ℕ)) → AllByRecursion (λ field. is_utf8 field ≡ true) fields → Keeps (entry_of_word word fields)
  unfolding Keeps
  keeps CategoryWord [] utf8 h = cc
  keeps CategoryWord (name ∷ []) utf8 h = record { is_pool = IsPool-category_added pool name right.is_pool h utf8.0; within = right.within; ahead = right.ahead; alone = right.alone; housed = right.housed; first = right.first }
  keeps CategoryWord (name ∷ other ∷ fields) utf8 h = cc
  keeps ValueWord [] utf8 h = cc
  keeps ValueWord (name ∷ []) utf8 h = cc
  keeps ValueWord (name ∷ lower ∷ []) utf8 h = cc
  keeps ValueWord (name ∷ lower ∷ upper ∷ []) utf8 h =
      let value : BoundedValue = record { name = name; lower = bound_of lower; upper = bound_of upper } in
      record { is_pool = IsPool-value_added pool value right.is_pool h utf8.0; within = right.within; ahead = right.ahead; alone = right.alone; housed = right.housed; first = right.first }
  keeps ValueWord (name ∷ lower ∷ upper ∷ other ∷ fields) utf8 h = cc
  keeps VolunteerWord [] utf8 h = cc
  keeps VolunteerWord (id ∷ names) utf8 h =
      let parts = volunteer_parts pool passed id names h in
      let one : Volunteer = record { id = id; values = places_of pool.categories names; standing = Open; household = None } in
      let all_open : open_from 0 pool.volunteers ≡ true = subst (λ n. open_from n pool.volunteers ≡ true) parts.1 right.ahead in
      let all_alone : alone_from 0 pool.volunteers ≡ true = subst (λ n. alone_from n pool.volunteers ≡ true) parts.0 right.alone in
      record {
        is_pool = IsPool-volunteer_added (limits_in passed.version) pool id names right.is_pool parts.2 utf8.0;
        within = within_added passed.version pool id names parts.2 right.within;
        ahead = subst (λ n. open_from n (pool.volunteers ++ one ∷ []) ≡ true) (sym parts.1)
            (list_all-push (λ (volunteer : Volunteer). is_open volunteer.standing) pool.volunteers one all_open refl);
        alone = subst (λ n. alone_from n (pool.volunteers ++ one ∷ []) ≡ true) (sym parts.0)
            (list_all-push (λ (volunteer : Volunteer). not (is_some volunteer.household)) pool.volunteers one all_alone refl);
        housed =
            let none : has_households pool ≡ false = right.housed ∙ ap (ltb 0) parts.0 in
            list_any-append (λ (v : Volunteer). is_some v.household) pool.volunteers (one ∷ []) ∙ (or_from (has_households pool) false none refl ∙ ap (ltb 0) (sym parts.0));
        first = right.first;
      }
  keeps HouseholdWord [] utf8 h = cc
  keeps HouseholdWord (id ∷ []) utf8 h = cc
  keeps HouseholdWord (id ∷ name ∷ []) utf8 h =
      let all = household_fits pool passed id name h in
      let fits = all.fits in
      let place : unwrap_or (number_of pool.volunteers id) 0 ≡ fits.number = ap (λ o. unwrap_or o 0) fits.found in
      let all_open : open_from 0 pool.volunteers ≡ true = subst (λ n. open_from n pool.volunteers ≡ true) all.no_standing right.ahead in
      let behind = alone_behind pool.volunteers passed.households fits.number name right.alone fits.ahead in
      let set = with_household pool.volunteers fits.number name in
      let at_number : IsRight (Inside (household_set pool fits.number name) (record passed { households = fits.number + 1 })) = record {
        is_pool = IsPool-household_set pool fits.number name right.is_pool all.kind utf8.1.0;
        within = within_same passed.version pool set (length-with_household pool.volunteers fits.number name) right.within;
        ahead = subst (λ n. open_from n set ≡ true) (sym all.no_standing) (open-with_household pool.volunteers fits.number name ∙ all_open);
        alone = subst (λ n. alone_from n set ≡ true) (sym (add-one fits.number)) behind;
        housed = housed-with_household pool.volunteers fits.number name fits.inside ∙ sym (lt-ltb 0 (fits.number + 1) (omega arith));
        first = λ none. absurd (false≢true (sym none ∙ all.may));
      } in
      subst (λ n. IsRight (Inside (household_set pool n name) (record passed { households = n + 1 }))) (sym place) at_number
  keeps HouseholdWord (id ∷ name ∷ other ∷ fields) utf8 h = cc
  keeps (StandingWord standing) [] utf8 h = cc
  keeps (StandingWord standing) (id ∷ []) utf8 h =
      let fits = (standing_fits pool passed standing id h).1 in
      let place : unwrap_or (number_of pool.volunteers id) 0 ≡ fits.number = ap (λ o. unwrap_or o 0) fits.found in
      let behind = open_behind pool.volunteers passed.standings fits.number standing right.ahead fits.ahead in
      let at_number : IsRight (Inside (standing_set pool fits.number standing) (record passed { standings = fits.number + 1 })) = record {
        is_pool = IsPool-standing_set pool fits.number standing right.is_pool;
        within = within_same passed.version pool (with_standing pool.volunteers fits.number standing) (length-with_standing pool.volunteers fits.number standing) right.within;
        ahead = subst (λ n. open_from n (with_standing pool.volunteers fits.number standing) ≡ true) (sym (add-one fits.number)) behind;
        alone = alone-with_standing pool.volunteers passed.households fits.number standing ∙ right.alone;
        housed = housed-with_standing pool.volunteers fits.number standing ∙ right.housed;
        first = right.first;
      } in
      subst (λ n. IsRight (Inside (standing_set pool n standing) (record passed { standings = n + 1 }))) (sym place) at_number
  keeps (StandingWord standing) (id ∷ other ∷ fields) utf8 h = cc
  keeps EndWord [] utf8 h = right.is_pool
  keeps EndWord (other ∷ fields) utf8 h = cc

  pub entry_keeps : (fields : List (List ℕ)) → AllByRecursion (λ field. is_utf8 field ≡ true) fields → entry_kind pool passed (entry_of fields) ≡ None → IsRight (after_entry pool passed (entry_of fields))
  unfolding Keeps
  entry_keeps [] utf8 h = cc
  entry_keeps (first ∷ fields) utf8 h =
      (elim (word_among words first) as (λ o. Keeps (entry_behind o fields)) [
        | None ↦ λ k. cc
        | Some word ↦ keeps word fields utf8.1
      ]) h

-- if a line has no fault, the progress after it is right, and its lines are the earlier ones with this line appended
pub line_adds : (progress : Progress) (line : List ℕ) → IsRight progress → line_kind progress line ≡ None →
    IsRight (after_line progress line) × (lines_so_far (after_line progress line) ≡ lines_so_far progress ++ line ∷ [])
line_adds Begun line right h =
    let some = not-false (is_version_line line) (no_kind (not (is_version_line line)) 1 None h).0 in
    (tt, ap (λ l. l ∷ []) (sym (one_of (bytes_eq line (version_line First)) (bytes_eq line (version_line Second)) (bytes_eq line (version_line Third)) refl refl refl some)))
  where
    one_of : (first second third : Bool) → bytes_eq line (version_line First) ≡ first → bytes_eq line (version_line Second) ≡ second → bytes_eq line (version_line Third) ≡ third →
        (first || second || third) ≡ true → line ≡ version_line (cond second Second (cond third Third First))
    one_of first true third e f g some = bytes_are line (version_line Second) f
    one_of first false true e f g some = bytes_are line (version_line Third) g
    one_of true false false e f g some = bytes_are line (version_line First) e
    one_of false false false e f g some = absurd (false≢true some)
line_adds (Versioned version) line right h =
    let limits = limits_in version in
    let size = size_of limits (fields_of line) in
    let spelled = sym (line_of-fields_of line) ∙ size_spelled limits (fields_of line) h in
    (record { is_pool = IsPool-empty_pool limits size h; within = empty_within version size h; ahead = refl; alone = refl; housed = refl; first = λ e. refl }, ap (λ l. version_line version ∷ l ∷ []) (sym spelled))
line_adds (Inside pool passed) line right h =
    let kinds = neither (entry_kind pool passed (entry_of (fields_of line))) (encoding_kind line) (sym (line_kind_of pool passed line) ∙ h) in
    let same = line_of-fields_of line in
    let text = not-false (is_utf8 line) (no_kind (not (is_utf8 line)) 11 None kinds.1).0 in
    let utf8 = each_field_is_utf8 (fields_of line) (subst IsUtf8 (sym same) (IsUtf8-from_is_utf8 line text)) in (
      entry_keeps pool passed right (fields_of line) utf8 kinds.0,
      entry_adds pool passed (entry_of (fields_of line)) right kinds.0
          ∙ ap (λ lines. lines_in passed.version pool ++ lines) (sym (entry_spelled pool passed (fields_of line) kinds.0) ∙ ap (λ l. l ∷ []) same),
    )
line_adds (Ended pool) line right h = cc

-- if the reading ends with a pool, the lines so far and the last bytes together are the spelling of this pool
last_is_spelled : (number : ℕ) (progress : Progress) (bytes : List ℕ) (pool : Pool) → IsRight progress → at_last number progress bytes ≡ Ok pool →
    IsPool pool × (text_of (lines_so_far progress) ++ bytes ≡ spelling pool)
last_is_spelled number Begun bytes pool right h = cc
last_is_spelled number (Versioned version) bytes pool right h = cc
last_is_spelled number (Inside other passed) bytes pool right h = cc
last_is_spelled number (Ended other) (byte ∷ bytes) pool right h = cc
last_is_spelled number (Ended other) [] pool right h =
    let same : other ≡ pool = cc in
    (subst IsPool same right, append-nil (spelling other) ∙ ap spelling same)

-- if bytes are read as a pool, they are its spelling
pub read_is_spelled : (bytes : List ℕ) (pool : Pool) → read bytes ≡ Ok pool → IsPool pool × (bytes ≡ spelling pool)
read_is_spelled bytes pool h = reading.read_is_spelled reader IsRight lines_so_far IsPool spelling line_adds last_is_spelled 1 Begun tt refl bytes pool h
