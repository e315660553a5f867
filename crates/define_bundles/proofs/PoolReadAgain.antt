-- The text of a pool is read as this pool.
use Rattle.std.proofs.Common.{◌≡◌, ℕ, zero, suc, ◌+◌, ◌<◌, ◌≤◌, true, false, not, ◌&&◌, ◌||◌, cond, eqb, ltb, leb, List, [], ◌∷◌, ◌++◌, length, get_or, map, refl, sym, ◌∙◌, ap, subst, arith, add-one, append_assoc, Option, Some, None, unwrap_or, option_map}
use Rattle.std.specs.Prelude.{bytes_eq, codes, Ok, is_some}
use Rattle.std.specs.Fmt.{decimal}
use Rattle.std.specs.List.{AllByRecursion, flat_map, list_all, list_any, position_or_len}
use Rattle.std.specs.Str.{is_utf8}
use Rattle.std.proofs.Common.{length-append, Bool}
use Rattle.std.proofs.Math.Seq.{get_or-append_seam}
use Rattle.std.proofs.lemmas.List.Sums.{position_or_len_is}
use Rattle.std.proofs.lemmas.Bool.{eq-eqb, false≢true, ne_eqb, and_from, and_parts, or_from, or_parts, or_left, or_right, leb-true, le-leb, lt-leb, lt-ltb, ltb-true, not-true}
use Rattle.std.proofs.lemmas.List.{append-nil, length-map, map-append, get_or_append_left}
use Rattle.std.proofs.lemmas.List.Folds.{list_any-append}
use Rattle.std.proofs.lemmas.Str.{is_utf8-from_IsUtf8}
use Rattle.define_pools.specs.declared.Limits.{Limits}
use Rattle.define_pools.specs.declared.Limits.TheVariants.{Usual, Large}
use Rattle.define_pools.specs.declared.Standing.{Standing}
use Rattle.define_pools.specs.declared.Standing.TheVariants.{Open, Seated, Gone}
use Rattle.define_pools.specs.Lists.{includes_list, all_different}
use Rattle.define_pools.specs.Pool.{BoundedValue, Category, Volunteer, Pool, is_size, is_usual, most_members, most_volunteers, is_name, is_value, is_category, are_bounds, has_values, keeps_name_limits, is_household, IsPool, has_households}
use Rattle.define_pools.specs.Building.{category_names, value_names, ids, last_values, with_value, place_of, places_of, are_known, empty_pool, size_kind, category_kind, value_kind, volunteer_kind, volunteer_added, with_standing, with_household, household_kind}
use Rattle.define_pools.proofs.BuildingLemmas.{same_bytes_comm}
use Rattle.define_pools.proofs.Each.{each_map}
use Rattle.define_lines.specs.Lines.{tab, line_of, fields_of}
use Rattle.define_bundles.specs.PoolText.{version_line, size_line, value_line, category_lines, names_at, volunteer_line, household_line, household_lines, standing_line, standing_lines, end_line, version_of, lines_before_end, spelling}
use Rattle.define_bundles.specs.declared.Passed.{Passed}
use Rattle.define_bundles.specs.declared.Version.{Version}
use Rattle.define_bundles.specs.declared.Version.TheVariants.{First, Second, Third}
use Rattle.define_bundles.specs.PoolReading.{Progress, Begun, Versioned, Inside, Ended, Entry, OfCategory, OfValue, OfVolunteer, OfHousehold, OfStanding, TheEnd, bound_of, entry_of, number_of, is_ahead, limits_in, may_house, must_house, must_pass, awaits_household, awaits_volunteers, entry_kind, size_of, none_passed, after_household, after_standing, after_entry, read, reader}
use Rattle.define_lines.proofs.LineByLine as reading
use Rattle.define_lines.proofs.LineLemmas.{Lacks, fields_of-line_of, line_is_utf8}
use Rattle.define_lines.proofs.FieldLemmas.{IsField, plain_field, decimal_field, line_lacks_feed}
use Rattle.define_lines.proofs.NumberLemmas.{bytes_same, number_again}
use Rattle.define_bundles.proofs.NameFields.{name_field}
use Rattle.define_bundles.proofs.LowestKinds.{kind_or, encoding_kind, line_kind_of}

-- no line has an LF or a fault, and the lines lead from the first progress to the second
abbrev pub Runs : Progress → List (List ℕ) → Progress → Type 0
Runs = reading.Runs reader

-- if fields are read as an entry without a fault, and `lines` lead from the progress after this entry to `after`, then the fields' line and
-- `lines` lead to `after` from the progress before the entry
run_entry : (pool : Pool) (passed : Passed) (field : List ℕ) (fields : List (List ℕ)) (entry : Entry) (lines : List (List ℕ)) (after : Progress) → AllByRecursion IsField (field ∷ fields) →
    entry_of (field ∷ fields) ≡ entry → entry_kind pool passed entry ≡ None → Runs (after_entry pool passed entry) lines after → Runs (Inside pool passed) (line_of (field ∷ fields) ∷ lines) after
run_entry pool passed field fields entry lines after are e none rest =
    let all = field ∷ fields in
    let line = line_of all in
    let same : entry_of (fields_of line) ≡ entry = ap entry_of (fields_of-line_of field fields (each_map IsField (Lacks tab) (λ f is. is.no_tab) all are)) ∙ e in
    let text : is_utf8 line ≡ true = is_utf8-from_IsUtf8 line (line_is_utf8 all (each_map IsField (λ f. is_utf8 f ≡ true) (λ f is. is.utf8) all are)) in (
      line_lacks_feed all are,
      line_kind_of pool passed line ∙ ap (λ said. kind_or (entry_kind pool passed said) (encoding_kind line)) same
          ∙ (ap (λ kind. kind_or kind (encoding_kind line)) none ∙ ap (λ test. cond (not test) (Some 11) None) text),
      subst (λ said. Runs (after_entry pool passed said) lines after) (sym same) rest,
    )

-- if names are all different, no name is among those before it
new_among : (before : List (List ℕ)) (name : List ℕ) (later : List (List ℕ)) → all_different (before ++ name ∷ later) ≡ true → includes_list before name ≡ false
new_among [] name later h = refl
new_among (first ∷ before) name later h =
    let parts = and_parts (not (includes_list (before ++ name ∷ later) first)) (all_different (before ++ name ∷ later)) h in
    let none = sym (list_any-append (bytes_eq first) before (name ∷ later)) ∙ not-true (includes_list (before ++ name ∷ later) first) parts.0 in
    let behind = or_parts (list_any (bytes_eq first) before) (bytes_eq first name || list_any (bytes_eq first) later) none in
    let here = or_parts (bytes_eq first name) (list_any (bytes_eq first) later) behind.1 in
    let other = same_bytes_comm name first ∙ here.0 in
    let rest = new_among before name later parts.1 in rw (other, rest) refl

abbrev made : ℕ → List Category → List Volunteer → Pool
made size categories volunteers = record { size = size; categories = categories; volunteers = volunteers }

abbrev named : List ℕ → List BoundedValue → Category
named name values = record { name = name; values = values }

last_values-push : (categories : List Category) (category : Category) → last_values (categories ++ category ∷ []) ≡ category.values
last_values-push [] category = refl
last_values-push (first ∷ []) category = refl
last_values-push (first ∷ next ∷ later) category = last_values-push (next ∷ later) category

with_value-push : (categories : List Category) (category : Category) (value : BoundedValue) →
    with_value (categories ++ category ∷ []) value ≡ categories ++ named category.name (category.values ++ value ∷ []) ∷ []
with_value-push [] category value = refl
with_value-push (first ∷ []) category value = refl
with_value-push (first ∷ next ∷ later) category value = ap (λ rest. first ∷ rest) (with_value-push (next ∷ later) category value)

bound_again : (n : ℕ) → n ≤ 999 → bound_of (decimal n) ≡ n
bound_again n h = ap (λ o. unwrap_or o 1000) (number_again 999 n (omega arith) h)

-- if a value has a new name and is within its limits, and its category has room, it has no fault
value_is_new : (size : ℕ) (before : List Category) (name : List ℕ) (values : List BoundedValue) (value : BoundedValue) →
    includes_list (value_names values) value.name ≡ false → is_value value ≡ true → length values < 50 → value_kind (made size (before ++ named name values ∷ []) []) value ≡ None
value_is_new size before name values value new is room =
    let parts = and_parts (is_name value.name) (are_bounds value.lower value.upper) is in
    let limits = (and_parts (keeps_name_limits value.name) (is_utf8 value.name) parts.0).0 in
    let last = last_values-push before (named name values) in
    let some : eqb (length (before ++ named name values ∷ [])) 0 ≡ false = ne_eqb (length (before ++ named name values ∷ [])) 0 (λ e. omega (arith, length-append before (named name values ∷ []))) in
    let few : leb 50 (length values) ≡ false = lt-leb 50 (length values) room in
    rw (some, last, new, parts.1, limits, few) refl

values_run : (version : Version) (size : ℕ) (before : List Category) (name : List ℕ) (done todo : List BoundedValue) → list_all is_value todo ≡ true → all_different (value_names (done ++ todo)) ≡ true → length (done ++ todo) ≤ 50 →
    Runs (Inside (made size (before ++ named name done ∷ []) []) (none_passed version)) (map value_line todo) (Inside (made size (before ++ named name (done ++ todo) ∷ []) []) (none_passed version))
values_run version size before name done [] are different few = ap (λ values. Inside (made size (before ++ named name values ∷ []) []) (none_passed version)) (sym (append-nil done))
values_run version size before name done (value ∷ todo) are different few =
    let parts = and_parts (is_value value) (list_all is_value todo) are in
    let is = and_parts (is_name value.name) (are_bounds value.lower value.upper) parts.0 in
    let order = and_parts (leb value.lower value.upper) (leb value.upper 999) is.1 in
    let lower_le = leb-true value.lower value.upper order.0 in
    let upper_le = leb-true value.upper 999 order.1 in
    let lower_again = bound_again value.lower (omega arith) in
    let upper_again = bound_again value.upper (omega arith) in
    let pool = made size (before ++ named name done ∷ []) [] in
    let fields = value.name ∷ decimal value.lower ∷ decimal value.upper ∷ [] in
    let after = Inside (made size (before ++ named name (done ++ value ∷ todo) ∷ []) []) (none_passed version) in
    let regrouped : (done ++ value ∷ []) ++ todo ≡ done ++ value ∷ todo = append_assoc done (value ∷ []) todo in
    let new = new_among (value_names done) value.name (value_names todo) (ap all_different (sym (map-append (λ v. v.name) done (value ∷ todo))) ∙ different) in
    let sizes : length (done ++ value ∷ todo) ≡ length done + suc (length todo) = length-append done (value ∷ todo) in
    let rest = values_run version size before name (done ++ value ∷ []) todo parts.1 (ap (λ values. all_different (value_names values)) regrouped ∙ different) (subst (λ values. length values ≤ 50) (sym regrouped) few) in
    let rest_to = subst (λ values. Runs (Inside (made size (before ++ named name (done ++ value ∷ []) ∷ []) []) (none_passed version)) (map value_line todo) (Inside (made size (before ++ named name values ∷ []) []) (none_passed version))) regrouped rest in
    let said : entry_of (codes "value" ∷ fields) ≡ OfValue value = ap (λ lower. OfValue (record { name = value.name; lower = lower; upper = bound_of (decimal value.upper) })) lower_again ∙ ap (λ upper. OfValue (record { name = value.name; lower = value.lower; upper = upper })) upper_again in
    run_entry pool (none_passed version) (codes "value") fields (OfValue value) (map value_line todo) after
    (plain_field (codes "value") refl, (name_field value.name is.0, (decimal_field value.lower (omega arith), (decimal_field value.upper (omega arith), tt))))
    said (value_is_new size before name done value new parts.0 (omega (arith, sizes)))
    (subst (λ categories. Runs (Inside (made size categories []) (none_passed version)) (map value_line todo) after) (sym (with_value-push before (named name done) value)) rest_to)

-- the parts of `is_category`: the name passes `is_name`; there are at most 50 values, of different names; and each passes `is_value`
record IsCategory (category : Category) : Type 0 where
  name : is_name category.name ≡ true
  few : length category.values ≤ 50
  different : all_different (value_names category.values) ≡ true
  values : list_all is_value category.values ≡ true

category_parts : (category : Category) → is_category category ≡ true → IsCategory category
category_parts category h =
    let A = is_name category.name in let B = leb (length category.values) 50 in
    let C = all_different (value_names category.values) in let D = list_all is_value category.values in
    let d = and_parts (A && B && C) D h in let c = and_parts (A && B) C d.0 in let b = and_parts A B c.0 in
    record { name = b.0; few = leb-true (length category.values) 50 b.1; different = c.1; values = d.1 }

category_is_new : (size : ℕ) (before : List Category) (name : List ℕ) →
    includes_list (category_names before) name ≡ false → is_name name ≡ true → length before < 20 → category_kind (made size before []) name ≡ None
category_is_new size before name new is room =
    let limits = (and_parts (keeps_name_limits name) (is_utf8 name) is).0 in
    let few : leb 20 (length before) ≡ false = lt-leb 20 (length before) room in
    rw (new, limits, few) refl

categories_run : (version : Version) (size : ℕ) (done todo : List Category) → list_all is_category todo ≡ true → all_different (category_names (done ++ todo)) ≡ true → length (done ++ todo) ≤ 20 →
    Runs (Inside (made size done []) (none_passed version)) (flat_map category_lines todo) (Inside (made size (done ++ todo) []) (none_passed version))
categories_run version size done [] are different few = ap (λ categories. Inside (made size categories []) (none_passed version)) (sym (append-nil done))
categories_run version size done (category ∷ todo) are different few =
    let parts = and_parts (is_category category) (list_all is_category todo) are in
    let is = category_parts category parts.0 in
    let after = Inside (made size (done ++ category ∷ todo) []) (none_passed version) in
    let regrouped : (done ++ category ∷ []) ++ todo ≡ done ++ category ∷ todo = append_assoc done (category ∷ []) todo in
    let new = new_among (category_names done) category.name (category_names todo) (ap all_different (sym (map-append (λ c. c.name) done (category ∷ todo))) ∙ different) in
    let sizes : length (done ++ category ∷ todo) ≡ length done + suc (length todo) = length-append done (category ∷ todo) in
    let values = values_run version size done category.name [] category.values is.values is.different is.few in
    let rest = categories_run version size (done ++ category ∷ []) todo parts.1 (ap (λ categories. all_different (category_names categories)) regrouped ∙ different) (subst (λ categories. length categories ≤ 20) (sym regrouped) few) in
    let rest_to = subst (λ categories. Runs (Inside (made size (done ++ category ∷ []) []) (none_passed version)) (flat_map category_lines todo) (Inside (made size categories []) (none_passed version))) regrouped rest in
    let all = reading.Runs-append reader (Inside (made size (done ++ named category.name [] ∷ []) []) (none_passed version)) (Inside (made size (done ++ category ∷ []) []) (none_passed version)) after (map value_line category.values) (flat_map category_lines todo) values rest_to in
    run_entry (made size done []) (none_passed version) (codes "category") (category.name ∷ []) (OfCategory category.name) (map value_line category.values ++ flat_map category_lines todo) after
    (plain_field (codes "category") refl, (name_field category.name is.name, tt)) refl (category_is_new size done category.name new is.name (omega (arith, sizes))) all

-- if `name` isn't in `names`, it differs from the name at each place
absent_at : (names : List (List ℕ)) (name : List ℕ) (i : ℕ) → includes_list names name ≡ false → i < length names → bytes_eq name (get_or names i []) ≡ false
absent_at [] name i h l = absurd (omega arith)
absent_at (first ∷ names) name zero h l = (or_parts (bytes_eq name first) (includes_list names name) h).0
absent_at (first ∷ names) name (suc i) h l = absent_at names name i (or_parts (bytes_eq name first) (includes_list names name) h).1 (omega arith)

place_again : (values : List BoundedValue) (place : ℕ) → all_different (value_names values) ≡ true → place < length values →
    (place_of values (get_or (value_names values) place []) ≡ Some place) × (includes_list (value_names values) (get_or (value_names values) place []) ≡ true)
place_again [] place h l = absurd (omega arith)
place_again (value ∷ values) zero h l =
    let same = bytes_same value.name value.name refl in (rw same refl, or_left (bytes_eq value.name value.name) (includes_list (value_names values) value.name) same)
place_again (value ∷ values) (suc place) h l =
    let parts = and_parts (not (includes_list (value_names values) value.name)) (all_different (value_names values)) h in
    let name = get_or (value_names values) place [] in
    let sizes : length (value_names values) ≡ length values = length-map values (λ v. v.name) in
    let other = same_bytes_comm name value.name ∙ absent_at (value_names values) value.name place (not-true (includes_list (value_names values) value.name) parts.0) (omega arith) in
    let rest = place_again values place parts.1 (omega arith) in (
      ap (λ test. cond test (Some 0) (option_map (λ p. p + 1) (place_of values name))) other ∙ (ap (option_map (λ p. p + 1)) rest.0 ∙ ap Some (add-one place)),
      or_right (bytes_eq name value.name) (includes_list (value_names values) name) rest.1,
    )

name_at_is_field : (values : List BoundedValue) (place : ℕ) → list_all is_value values ≡ true → place < length values → IsField (get_or (value_names values) place [])
name_at_is_field [] place h l = absurd (omega arith)
name_at_is_field (value ∷ values) zero h l =
    name_field value.name (and_parts (is_name value.name) (are_bounds value.lower value.upper) (and_parts (is_value value) (list_all is_value values) h).0).0
name_at_is_field (value ∷ values) (suc place) h l = name_at_is_field values place (and_parts (is_value value) (list_all is_value values) h).1 (omega arith)

-- the names at a volunteer's places are known, one for each category; their places are these places; and each is a field
record AreNamesAt (categories : List Category) (places : List ℕ) : Type 0 where
  known : are_known categories (names_at categories places) ≡ true
  each : length (names_at categories places) ≡ length categories
  again : places_of categories (names_at categories places) ≡ places
  fields : AllByRecursion IsField (names_at categories places)

are_names_at : (categories : List Category) (places : List ℕ) → list_all is_category categories ≡ true → has_values categories places ≡ true → AreNamesAt categories places
are_names_at [] [] are have = record { known = refl; each = refl; again = refl; fields = tt }
are_names_at [] (place ∷ places) are have = absurd (false≢true have)
are_names_at (category ∷ categories) [] are have = absurd (false≢true have)
are_names_at (category ∷ categories) (place ∷ places) are have =
    let parts = and_parts (is_category category) (list_all is_category categories) are in
    let is = category_parts category parts.0 in
    let has = and_parts (ltb place (length category.values)) (has_values categories places) have in
    let inside = ltb-true place (length category.values) has.0 in
    let here = place_again category.values place is.different inside in
    let rest = are_names_at categories places parts.1 has.1 in
    record {
      known = and_from (includes_list (value_names category.values) (get_or (value_names category.values) place [])) (are_known categories (names_at categories places)) here.1 rest.known;
      each = let e = rest.each in omega arith;
      again = let e = here.0 in let f = rest.again in ap (λ o. unwrap_or o 0 ∷ places_of categories (names_at categories places)) e ∙ ap (λ ps. place ∷ ps) f;
      fields = (name_at_is_field category.values place is.values inside, rest.fields);
    }

volunteer_is_new : (limits : Limits) (pool : Pool) (id : List ℕ) (names : List (List ℕ)) → are_known pool.categories names ≡ true → length names ≡ length pool.categories →
    includes_list (ids pool.volunteers) id ≡ false → is_name id ≡ true → length pool.volunteers < most_volunteers limits → volunteer_kind limits pool id names ≡ None
volunteer_is_new limits pool id names known each new is room =
    let keeps = (and_parts (keeps_name_limits id) (is_utf8 id) is).0 in
    let same : eqb (length names) (length pool.categories) ≡ true = eq-eqb (length names) (length pool.categories) each in
    let few : leb (most_volunteers limits) (length pool.volunteers) ≡ false = lt-leb (most_volunteers limits) (length pool.volunteers) room in
    rw (known, same, new, keeps, few) refl

-- the volunteer as known after the volunteer's own line: open, without a household
abbrev opened : Volunteer → Volunteer
opened volunteer = record { id = volunteer.id; values = volunteer.values; standing = Open; household = None }

-- the volunteer as known after the volunteer's own line and household line: open, with the household
abbrev lodged : Volunteer → Volunteer
lodged volunteer = record { id = volunteer.id; values = volunteer.values; standing = Open; household = volunteer.household }

volunteers_run : (version : Version) (size : ℕ) (categories : List Category) (done todo : List Volunteer) → list_all is_category categories ≡ true → list_all (λ (v : Volunteer). is_name v.id) todo ≡ true →
    list_all (λ (v : Volunteer). has_values categories v.values) todo ≡ true →
    all_different (ids done ++ ids todo) ≡ true → length done + length todo ≤ most_volunteers (limits_in version) →
    Runs (Inside (made size categories done) (none_passed version)) (map (volunteer_line categories) todo) (Inside (made size categories (done ++ map opened todo)) (none_passed version))
volunteers_run version size categories done [] are names have different few = ap (λ volunteers. Inside (made size categories volunteers) (none_passed version)) (sym (append-nil done))
volunteers_run version size categories done (volunteer ∷ todo) are names have different few =
    let name = and_parts (is_name volunteer.id) (list_all (λ (v : Volunteer). is_name v.id) todo) names in
    let has = and_parts (has_values categories volunteer.values) (list_all (λ (v : Volunteer). has_values categories v.values) todo) have in
    let at = are_names_at categories volunteer.values are has.0 in
    let given = names_at categories volunteer.values in
    let pool = made size categories done in
    let one = opened volunteer in
    let after = Inside (made size categories (done ++ one ∷ map opened todo)) (none_passed version) in
    let regrouped : (done ++ one ∷ []) ++ map opened todo ≡ done ++ one ∷ map opened todo = append_assoc done (one ∷ []) (map opened todo) in
    let new = new_among (ids done) volunteer.id (ids todo) different in
    let same_ids : ids (done ++ one ∷ []) ++ ids todo ≡ ids done ++ volunteer.id ∷ ids todo =
    ap (λ names. names ++ ids todo) (map-append (λ v. v.id) done (one ∷ [])) ∙ append_assoc (ids done) (volunteer.id ∷ []) (ids todo) in
    let sizes : length (done ++ one ∷ []) ≡ length done + 1 = length-append done (one ∷ []) in
    let rest = volunteers_run version size categories (done ++ one ∷ []) todo are name.1 has.1 (ap all_different same_ids ∙ different) (omega (arith, sizes)) in
    let rest_to = subst (λ volunteers. Runs (Inside (made size categories (done ++ one ∷ [])) (none_passed version)) (map (volunteer_line categories) todo) (Inside (made size categories volunteers) (none_passed version))) regrouped rest in
    let again : volunteer_added pool volunteer.id given ≡ made size categories (done ++ one ∷ []) =
    ap (λ values. made size categories (done ++ record { id = volunteer.id; values = values; standing = Open; household = None } ∷ [])) at.again in
    run_entry pool (none_passed version) (codes "volunteer") (volunteer.id ∷ given) (OfVolunteer volunteer.id given) (map (volunteer_line categories) todo) after
    (plain_field (codes "volunteer") refl, (name_field volunteer.id name.0, at.fields)) refl
    (volunteer_is_new (limits_in version) pool volunteer.id given at.known at.each new name.0 (omega arith))
    (subst (λ p. Runs (Inside p (none_passed version)) (map (volunteer_line categories) todo) after) (sym again) rest_to)

-- if a volunteer's id isn't among the ids before, the volunteer is found by the id
found_behind : (done later : List Volunteer) (volunteer : Volunteer) → includes_list (ids done) volunteer.id ≡ false → number_of (done ++ volunteer ∷ later) volunteer.id ≡ Some (length done)
found_behind done later volunteer new =
    let all = done ++ volunteer ∷ later in
    let test : Volunteer → Bool = λ v. bytes_eq volunteer.id v.id in
    let sizes : length all ≡ length done + suc (length later) = length-append done (volunteer ∷ later) in
    let inside : length done < length all = omega (arith, sizes) in
    let place : position_or_len test all ≡ length done =
    position_or_len_is test all (length done) volunteer (omega arith)
    (λ k l. ap test (get_or_append_left done (volunteer ∷ later) volunteer k l) ∙ other done k l new)
    (λ l. ap test (get_or-append_seam done volunteer later volunteer) ∙ bytes_same volunteer.id volunteer.id refl) in
    ap (λ n. cond (ltb n (length all)) (Some n) None) place ∙ ap (λ b. cond b (Some (length done)) None) (lt-ltb (length done) (length all) inside)
  where
    other : (done : List Volunteer) (k : ℕ) → k < length done → includes_list (ids done) volunteer.id ≡ false → bytes_eq volunteer.id (get_or done k volunteer).id ≡ false
    other [] k l h = absurd (omega arith)
    other (first ∷ done) zero l h = (or_parts (bytes_eq volunteer.id first.id) (includes_list (ids done) volunteer.id) h).0
    other (first ∷ done) (suc k) l h = other done k (omega arith) (or_parts (bytes_eq volunteer.id first.id) (includes_list (ids done) volunteer.id) h).1

with_standing_behind : (done : List Volunteer) (volunteer : Volunteer) (todo : List Volunteer) (standing : Standing) →
    with_standing (done ++ volunteer ∷ todo) (length done) standing ≡ done ++ record volunteer { standing = standing } ∷ todo
with_standing_behind [] volunteer todo standing = refl
with_standing_behind (first ∷ done) volunteer todo standing = ap (λ rest. first ∷ rest) (with_standing_behind done volunteer todo standing)

with_household_behind : (done : List Volunteer) (volunteer : Volunteer) (todo : List Volunteer) (name : List ℕ) →
    with_household (done ++ volunteer ∷ todo) (length done) name ≡ done ++ record volunteer { household = Some name } ∷ todo
with_household_behind [] volunteer todo name = refl
with_household_behind (first ∷ done) volunteer todo name = ap (λ rest. first ∷ rest) (with_household_behind done volunteer todo name)

-- the ids stay the same if a volunteer is replaced by one with the same id
ids_behind : (done : List Volunteer) (volunteer same : Volunteer) (todo : List Volunteer) → same.id ≡ volunteer.id → ids (done ++ same ∷ []) ++ ids todo ≡ ids done ++ volunteer.id ∷ ids todo
ids_behind done volunteer same todo e =
    ap (λ names. names ++ ids todo) (map-append (λ v. v.id) done (same ∷ [])) ∙ (append_assoc (ids done) (same.id ∷ []) (ids todo) ∙ ap (λ id. ids done ++ id ∷ ids todo) e)

-- whether a pool of this size and this number of volunteers is within the usual limits
abbrev is_usual_at : ℕ → ℕ → Bool
is_usual_at size count = leb size (most_members Usual) && leb count (most_volunteers Usual)

-- ---- the household lines, after the volunteers' lines, in a text that may have them, and that lacks no volunteer if there are `count`
module _ (size : ℕ) (categories : List Category) (version : Version) (may : may_house version ≡ true) (count : ℕ) (enough : (must_pass version && is_usual_at size count) ≡ false) where
  -- the progress with these volunteers, after household lines that have passed the first `passed` of them
  housing : ℕ → List Volunteer → Progress
  housing passed volunteers = Inside (made size categories volunteers) (record { version = version; households = passed; standings = 0 })

  -- reading the household lines of `todo` leads from a pool in which none of `todo` has a household to one in which each of `todo` has
  -- theirs, if any; each of `done` has theirs already
  Houses : List Volunteer → List Volunteer → ℕ → Type 0
  Houses done todo passed =
      (last : ℕ) × (passed ≤ last) × (list_any (λ (v : Volunteer). is_some v.household) todo ≡ true → 0 < last)
      × Runs (housing passed (done ++ map opened todo)) (household_lines todo) (housing last (done ++ map lodged todo))

  -- if `Houses` holds after a volunteer who has a household, it holds with this volunteer in front of `todo`
  one_houses : (done todo : List Volunteer) (volunteer : Volunteer) (passed : ℕ) (name : List ℕ) → passed ≤ length done → length done + suc (length todo) ≡ count → all_different (ids done ++ volunteer.id ∷ ids todo) ≡ true →
      is_name volunteer.id ≡ true → is_name name ≡ true → Some name ≡ volunteer.household → Houses (done ++ lodged volunteer ∷ []) todo (length done + 1) → Houses done (volunteer ∷ todo) passed
  unfolding Houses housing
  one_houses done todo volunteer passed name few whole different is named same rest =
      let all = done ++ opened volunteer ∷ map opened todo in
      let pool = made size categories all in
      let at : Passed = record { version = version; households = passed; standings = 0 } in
      let next : Passed = record { version = version; households = length done + 1; standings = 0 } in
      let found = found_behind done (map opened todo) (opened volunteer) (new_among (ids done) volunteer.id (ids todo) different) in
      let limits = (and_parts (keeps_name_limits name) (is_utf8 name) named).0 in
      let counted : length all ≡ count = length-append done (opened volunteer ∷ map opened todo) ∙ ap (λ n. length done + suc n) (length-map todo opened) ∙ whole in
      let due : (must_pass version && is_usual_at size (length all)) ≡ false = ap (λ n. must_pass version && is_usual_at size n) counted ∙ enough in
      let kind : entry_kind pool at (OfHousehold volunteer.id name) ≡ None =
      ap (λ b. cond (not b || false || (must_pass version && is_usual_at size (length all))) (Some 1) (cond (not (is_ahead passed (number_of all volunteer.id))) (Some 9) (household_kind name))) may
      ∙ ap (λ b. cond b (Some 1) (cond (not (is_ahead passed (number_of all volunteer.id))) (Some 9) (household_kind name))) due
      ∙ ap (λ o. cond (not (is_ahead passed o)) (Some 9) (household_kind name)) found
      ∙ (ap (λ b. cond (not b) (Some 9) (household_kind name)) (le-leb passed (length done) few) ∙ ap (λ b. cond (not b) (Some 10) None) limits) in
      let set : with_household all (length done) name ≡ (done ++ lodged volunteer ∷ []) ++ map opened todo =
      with_household_behind done (opened volunteer) (map opened todo) name
      ∙ (ap (λ h. done ++ record { id = volunteer.id; values = volunteer.values; standing = Open; household = h } ∷ map opened todo) same
      ∙ sym (append_assoc done (lodged volunteer ∷ []) (map opened todo))) in
      let goes : after_entry pool at (OfHousehold volunteer.id name) ≡ Inside (made size categories ((done ++ lodged volunteer ∷ []) ++ map opened todo)) next =
      ap (λ o. after_household pool at (unwrap_or o 0) name) found ∙ ap (λ volunteers. Inside (made size categories volunteers) next) set in
      let last = rest.0 in
      let after = Inside (made size categories (done ++ lodged volunteer ∷ map lodged todo)) (record { version = version; households = last; standings = 0 }) in
      let rest_to : Runs (Inside (made size categories ((done ++ lodged volunteer ∷ []) ++ map opened todo)) next) (household_lines todo) after =
      subst (λ volunteers. Runs (Inside (made size categories ((done ++ lodged volunteer ∷ []) ++ map opened todo)) next) (household_lines todo) (Inside (made size categories volunteers) (record { version = version; households = last; standings = 0 })))
      (append_assoc done (lodged volunteer ∷ []) (map lodged todo)) rest.3 in
      let runs = run_entry pool at (codes "household") (volunteer.id ∷ name ∷ []) (OfHousehold volunteer.id name) (household_lines todo) after
      (plain_field (codes "household") refl, (name_field volunteer.id is, (name_field name named, tt))) refl kind
      (subst (λ progress. Runs progress (household_lines todo) after) (sym goes) rest_to) in
      let more : length done + 1 ≤ last = rest.1 in
      (last, omega arith, (λ some. omega arith), subst (λ h. Runs (Inside pool at) (household_line h volunteer.id ++ household_lines todo) after) same runs)

  -- if `Houses` holds after a volunteer who has no household, it holds with this volunteer in front of `todo`
  alone_houses : (done todo : List Volunteer) (volunteer : Volunteer) (passed : ℕ) → None ≡ volunteer.household → Houses (done ++ lodged volunteer ∷ []) todo passed → Houses done (volunteer ∷ todo) passed
  unfolding Houses housing
  alone_houses done todo volunteer passed same rest =
      let last = rest.0 in
      let self : lodged volunteer ≡ opened volunteer = ap (λ h. record { id = volunteer.id; values = volunteer.values; standing = Open; household = h }) (sym same) in
      let from : (done ++ lodged volunteer ∷ []) ++ map opened todo ≡ done ++ opened volunteer ∷ map opened todo =
      append_assoc done (lodged volunteer ∷ []) (map opened todo) ∙ ap (λ v. done ++ v ∷ map opened todo) self in
      let begins = subst (λ volunteers. Runs (Inside (made size categories volunteers) (record { version = version; households = passed; standings = 0 })) (household_lines todo)
      (Inside (made size categories ((done ++ lodged volunteer ∷ []) ++ map lodged todo)) (record { version = version; households = last; standings = 0 }))) from rest.3 in
      let ends = subst (λ volunteers. Runs (Inside (made size categories (done ++ opened volunteer ∷ map opened todo)) (record { version = version; households = passed; standings = 0 })) (household_lines todo)
      (Inside (made size categories volunteers) (record { version = version; households = last; standings = 0 }))) (append_assoc done (lodged volunteer ∷ []) (map lodged todo)) begins in (
        last,
        rest.1,
        (λ some. rest.2 (ap (λ h. is_some h || list_any (λ (v : Volunteer). is_some v.household) todo) same ∙ some)),
        subst (λ h. Runs (Inside (made size categories (done ++ opened volunteer ∷ map opened todo)) (record { version = version; households = passed; standings = 0 })) (household_line h volunteer.id ++ household_lines todo)
            (Inside (made size categories (done ++ lodged volunteer ∷ map lodged todo)) (record { version = version; households = last; standings = 0 }))) same ends,
      )

  households_run : (done todo : List Volunteer) (passed : ℕ) → passed ≤ length done → length done + length todo ≡ count → all_different (ids done ++ ids todo) ≡ true → list_all (λ (v : Volunteer). is_name v.id) todo ≡ true →
      list_all (λ (v : Volunteer). is_household v.household) todo ≡ true → Houses done todo passed
  unfolding Houses housing
  households_run done [] passed few whole different names named = (passed, omega arith, (λ some. absurd (false≢true some)), refl)
  households_run done (volunteer ∷ todo) passed few whole different names named =
      let name = and_parts (is_name volunteer.id) (list_all (λ (v : Volunteer). is_name v.id) todo) names in
      let house = and_parts (is_household volunteer.household) (list_all (λ (v : Volunteer). is_household v.household) todo) named in
      let sizes : length (done ++ lodged volunteer ∷ []) ≡ length done + 1 = length-append done (lodged volunteer ∷ []) in
      let apart = ap all_different (ids_behind done volunteer (lodged volunteer) todo refl) ∙ different in
      let behind = households_run (done ++ lodged volunteer ∷ []) todo (length done + 1) (omega (arith, sizes)) (omega (arith, sizes, whole)) apart name.1 house.1 in
      let still = households_run (done ++ lodged volunteer ∷ []) todo passed (omega (arith, sizes)) (omega (arith, sizes, whole)) apart name.1 house.1 in
      (elim volunteer.household as (λ h. h ≡ volunteer.household → is_household h ≡ true → Houses done (volunteer ∷ todo) passed) [
        | None ↦ λ same _. alone_houses done todo volunteer passed same still
        | Some one ↦ λ same is. one_houses done todo volunteer passed one few whole different name.0 is same behind
      ]) refl house.0

-- if nobody has a household, there is no household line
none_housed : (volunteers : List Volunteer) → list_any (λ (v : Volunteer). is_some v.household) volunteers ≡ false → (household_lines volunteers ≡ []) × (map opened volunteers ≡ map lodged volunteers)
none_housed [] h = (refl, refl)
none_housed (volunteer ∷ volunteers) h =
    let parts = or_parts (is_some volunteer.household) (list_any (λ (v : Volunteer). is_some v.household) volunteers) h in
    let rest = none_housed volunteers parts.1 in
    let none = no_household volunteer.household parts.0 in (
      ap (λ household. household_line household volunteer.id ++ household_lines volunteers) (sym none) ∙ rest.0,
      ap (λ household. record { id = volunteer.id; values = volunteer.values; standing = Open; household = household } ∷ map opened volunteers) none ∙ ap (λ vs. lodged volunteer ∷ vs) rest.1,
    )
  where
    no_household : (household : Option (List ℕ)) → is_some household ≡ false → None ≡ household
    no_household None k = refl
    no_household (Some name) k = cc

-- a pool of version 3 is beyond the usual limits
third_passes : (usual housed : Bool) → cond usual (cond housed Second First) Third ≡ Third → usual ≡ false
third_passes true true e = cc
third_passes true false e = cc
third_passes false housed e = refl

-- in the pool's own version, its household lines lead to a progress at which nothing is missing
pool_houses : (pool : Pool) → IsPool pool → (version : Version) → version_of pool ≡ version →
    (households : ℕ) × ((must_house version && eqb households 0) ≡ false)
    × Runs (Inside (made pool.size pool.categories (map opened pool.volunteers)) (none_passed version)) (household_lines pool.volunteers)
    (Inside (made pool.size pool.categories (map lodged pool.volunteers)) (record { version = version; households = households; standings = 0 }))
unfolding Houses housing
pool_houses pool is First own =
    let alone = none_housed pool.volunteers (first_alone (is_usual pool) (has_households pool) own) in (
      0,
      refl,
      subst (λ lines. Runs (Inside (made pool.size pool.categories (map opened pool.volunteers)) (none_passed First)) lines (Inside (made pool.size pool.categories (map lodged pool.volunteers)) (none_passed First)))
          (sym alone.0) (ap (λ volunteers. Inside (made pool.size pool.categories volunteers) (none_passed First)) alone.1),
    )
  where
    first_alone : (usual housed : Bool) → cond usual (cond housed Second First) Third ≡ First → housed ≡ false
    first_alone true true e = cc
    first_alone true false e = refl
    first_alone false housed e = cc
pool_houses pool is Second own =
    let runs = households_run pool.size pool.categories Second refl (length pool.volunteers) refl [] pool.volunteers 0 (omega arith) (omega arith) is.different_ids is.ids is.households in
    (runs.0, ne_eqb runs.0 0 (λ e. let more = runs.2 (second_housed (is_usual pool) (has_households pool) own) in omega arith), runs.3)
  where
    second_housed : (usual housed : Bool) → cond usual (cond housed Second First) Third ≡ Second → housed ≡ true
    second_housed true true e = refl
    second_housed true false e = cc
    second_housed false housed e = cc
pool_houses pool is Third own =
    let runs = households_run pool.size pool.categories Third refl (length pool.volunteers) (third_passes (is_usual pool) (has_households pool) own) [] pool.volunteers 0 (omega arith) (omega arith) is.different_ids is.ids is.households in
    (runs.0, refl, runs.3)

-- ---- the standing lines, after the household lines, at a progress at which no household line is missing, in a text that lacks no volunteer
-- if there are `count`
module _ (size : ℕ) (categories : List Category) (version : Version) (households : ℕ) (due : (must_house version && eqb households 0) ≡ false) (count : ℕ)
    (enough : (must_pass version && is_usual_at size count) ≡ false) where
  -- how far the lines have come if standing lines have passed the first `passed` volunteers
  standing_at : ℕ → Passed
  standing_at passed = record { version = version; households = households; standings = passed }

  -- reading the standing lines of `todo` leads from a pool in which all of `todo` are open to one in which each of `todo` has their
  -- standing; each of `done` has theirs already
  Leads : List Volunteer → List Volunteer → ℕ → Type 0
  Leads done todo passed = (last : ℕ) × Runs (Inside (made size categories (done ++ map lodged todo)) (standing_at passed)) (standing_lines todo) (Inside (made size categories (done ++ todo)) (standing_at last))

  -- if `Leads` holds after a volunteer who isn't open, it holds with this volunteer in front of `todo`
  one_leads : (done todo : List Volunteer) (volunteer : Volunteer) (passed : ℕ) (word : List ℕ) (standing : Standing) → passed ≤ length done → length done + suc (length todo) ≡ count → all_different (ids done ++ volunteer.id ∷ ids todo) ≡ true →
      IsField word → is_name volunteer.id ≡ true → entry_of (word ∷ volunteer.id ∷ []) ≡ OfStanding standing volunteer.id → standing ≡ volunteer.standing →
      standing_line volunteer.standing volunteer.id ≡ line_of (word ∷ volunteer.id ∷ []) ∷ [] →
      Leads (done ++ volunteer ∷ []) todo (length done + 1) → Leads done (volunteer ∷ todo) passed
  unfolding Leads standing_at
  one_leads done todo volunteer passed word standing few whole different is name e same line rest =
      let all = done ++ lodged volunteer ∷ map lodged todo in
      let pool = made size categories all in
      let at : Passed = record { version = version; households = households; standings = passed } in
      let next : Passed = record { version = version; households = households; standings = length done + 1 } in
      let found = found_behind done (map lodged todo) (lodged volunteer) (new_among (ids done) volunteer.id (ids todo) different) in
      let counted : length all ≡ count = length-append done (lodged volunteer ∷ map lodged todo) ∙ ap (λ n. length done + suc n) (length-map todo lodged) ∙ whole in
      let passes : (must_pass version && is_usual_at size (length all)) ≡ false = ap (λ n. must_pass version && is_usual_at size n) counted ∙ enough in
      let kind : entry_kind pool at (OfStanding standing volunteer.id) ≡ None =
      ap (λ b. cond b (Some 1) (cond (not (is_ahead passed (number_of all volunteer.id))) (Some 9) None)) (or_from (must_house version && eqb households 0) (must_pass version && is_usual_at size (length all)) due passes)
      ∙ (ap (λ o. cond (not (is_ahead passed o)) (Some 9) None) found ∙ ap (λ b. cond (not b) (Some 9) None) (le-leb passed (length done) few)) in
      let set : with_standing all (length done) standing ≡ (done ++ volunteer ∷ []) ++ map lodged todo =
      with_standing_behind done (lodged volunteer) (map lodged todo) standing
      ∙ (ap (λ s. done ++ record { id = volunteer.id; values = volunteer.values; standing = s; household = volunteer.household } ∷ map lodged todo) same
      ∙ sym (append_assoc done (volunteer ∷ []) (map lodged todo))) in
      let goes : after_entry pool at (OfStanding standing volunteer.id) ≡ Inside (made size categories ((done ++ volunteer ∷ []) ++ map lodged todo)) next =
      ap (λ o. after_standing pool at (unwrap_or o 0) standing) found ∙ ap (λ volunteers. Inside (made size categories volunteers) next) set in
      let last = rest.0 in
      let ending : Passed = record { version = version; households = households; standings = last } in
      let after = Inside (made size categories (done ++ volunteer ∷ todo)) ending in
      let rest_to : Runs (Inside (made size categories ((done ++ volunteer ∷ []) ++ map lodged todo)) next) (standing_lines todo) after =
      subst (λ volunteers. Runs (Inside (made size categories ((done ++ volunteer ∷ []) ++ map lodged todo)) next) (standing_lines todo) (Inside (made size categories volunteers) ending))
      (append_assoc done (volunteer ∷ []) todo) rest.1 in
      let runs = run_entry pool at word (volunteer.id ∷ []) (OfStanding standing volunteer.id) (standing_lines todo) after (is, (name_field volunteer.id name, tt)) e kind
      (subst (λ progress. Runs progress (standing_lines todo) after) (sym goes) rest_to) in
      (last, subst (λ lines. Runs (Inside pool at) (lines ++ standing_lines todo) after) (sym line) runs)

  -- if `Leads` holds after a volunteer who is open, it holds with this volunteer in front of `todo`
  open_leads : (done todo : List Volunteer) (volunteer : Volunteer) (passed : ℕ) → Open ≡ volunteer.standing → Leads (done ++ volunteer ∷ []) todo passed → Leads done (volunteer ∷ todo) passed
  unfolding Leads standing_at
  open_leads done todo volunteer passed same rest =
      let last = rest.0 in
      let at : Passed = record { version = version; households = households; standings = passed } in
      let ending : Passed = record { version = version; households = households; standings = last } in
      let self : volunteer ≡ lodged volunteer = ap (λ s. record { id = volunteer.id; values = volunteer.values; standing = s; household = volunteer.household }) (sym same) in
      let from : (done ++ volunteer ∷ []) ++ map lodged todo ≡ done ++ lodged volunteer ∷ map lodged todo =
      append_assoc done (volunteer ∷ []) (map lodged todo) ∙ ap (λ v. done ++ v ∷ map lodged todo) self in
      let begins = subst (λ volunteers. Runs (Inside (made size categories volunteers) at) (standing_lines todo) (Inside (made size categories ((done ++ volunteer ∷ []) ++ todo)) ending)) from rest.1 in
      let ends = subst (λ volunteers. Runs (Inside (made size categories (done ++ lodged volunteer ∷ map lodged todo)) at) (standing_lines todo) (Inside (made size categories volunteers) ending))
      (append_assoc done (volunteer ∷ []) todo) begins in
      (last, subst (λ s. Runs (Inside (made size categories (done ++ lodged volunteer ∷ map lodged todo)) at) (standing_line s volunteer.id ++ standing_lines todo) (Inside (made size categories (done ++ volunteer ∷ todo)) ending)) same ends)

  standings_run : (done todo : List Volunteer) (passed : ℕ) → passed ≤ length done → length done + length todo ≡ count → all_different (ids done ++ ids todo) ≡ true → list_all (λ (v : Volunteer). is_name v.id) todo ≡ true →
      (last : ℕ) × Runs (Inside (made size categories (done ++ map lodged todo)) (record { version = version; households = households; standings = passed })) (standing_lines todo)
      (Inside (made size categories (done ++ todo)) (record { version = version; households = households; standings = last }))
  unfolding Leads standing_at
  standings_run done [] passed few whole different names = (passed, refl)
  standings_run done (volunteer ∷ todo) passed few whole different names =
      let name = and_parts (is_name volunteer.id) (list_all (λ (v : Volunteer). is_name v.id) todo) names in
      let sizes : length (done ++ volunteer ∷ []) ≡ length done + 1 = length-append done (volunteer ∷ []) in
      let apart = ap all_different (ids_behind done volunteer volunteer todo refl) ∙ different in
      let behind = standings_run (done ++ volunteer ∷ []) todo (length done + 1) (omega (arith, sizes)) (omega (arith, sizes, whole)) apart name.1 in
      let still = standings_run (done ++ volunteer ∷ []) todo passed (omega (arith, sizes)) (omega (arith, sizes, whole)) apart name.1 in
      (elim volunteer.standing as (λ s. s ≡ volunteer.standing → Leads done (volunteer ∷ todo) passed) [
        | Open ↦ λ same. open_leads done todo volunteer passed same still
        | Seated ↦ λ same. one_leads done todo volunteer passed (codes "seated") Seated few whole different (plain_field (codes "seated") refl) name.0 refl same
            (ap (λ s. standing_line s volunteer.id) (sym same)) behind
        | Gone ↦ λ same. one_leads done todo volunteer passed (codes "gone") Gone few whole different (plain_field (codes "gone") refl) name.0 refl same
            (ap (λ s. standing_line s volunteer.id) (sym same)) behind
      ]) refl

-- the first line of a version, read from the beginning, leads to `Versioned`
version_runs : (version : Version) (lines : List (List ℕ)) (after : Progress) → Runs (Versioned version) lines after → Runs Begun (version_line version ∷ lines) after
version_runs First lines after runs = (line_lacks_feed (codes "pool" ∷ codes "1" ∷ []) (plain_field (codes "pool") refl, (plain_field (codes "1") refl, tt)), refl, runs)
version_runs Second lines after runs = (line_lacks_feed (codes "pool" ∷ codes "2" ∷ []) (plain_field (codes "pool") refl, (plain_field (codes "2") refl, tt)), refl, runs)
version_runs Third lines after runs = (line_lacks_feed (codes "pool" ∷ codes "3" ∷ []) (plain_field (codes "pool") refl, (plain_field (codes "3") refl, tt)), refl, runs)

-- a pool is within these limits
abbrev IsWithinLimits : Pool → Limits → Type 0
IsWithinLimits pool limits = (is_size limits pool.size ≡ true) × (length pool.volunteers ≤ most_volunteers limits)

-- a pool is within the limits of its version
own_limits : (pool : Pool) → IsPool pool → IsWithinLimits pool (limits_in (version_of pool))
own_limits pool is =
    let size = and_parts (leb 1 pool.size) (leb pool.size (most_members Large)) is.size in
    let few = leb-true (length pool.volunteers) (most_volunteers Large) is.few_volunteers in
    (elim (is_usual pool) as (λ usual. is_usual pool ≡ usual → IsWithinLimits pool (limits_in (cond usual (cond (has_households pool) Second First) Third))) [
      | true ↦ λ e.
          let parts = and_parts (leb pool.size (most_members Usual)) (leb (length pool.volunteers) (most_volunteers Usual)) e in
          usual (has_households pool) (and_from (leb 1 pool.size) (leb pool.size (most_members Usual)) size.0 parts.0, leb-true (length pool.volunteers) (most_volunteers Usual) parts.1)
      | false ↦ λ _. (is.size, few)
    ]) refl
  where
    usual : (housed : Bool) → IsWithinLimits pool Usual → IsWithinLimits pool (limits_in (cond housed Second First))
    usual true within = within
    usual false within = within

-- a pool lacks no volunteer in its version
own_passes : (pool : Pool) → (must_pass (version_of pool) && is_usual pool) ≡ false
own_passes pool = none (is_usual pool) (has_households pool)
  where
    none : (usual housed : Bool) → (must_pass (cond usual (cond housed Second First) Third) && usual) ≡ false
    none true true = refl
    none true false = refl
    none false housed = refl

-- the lines of a pool's text, read from the beginning, lead to `Ended` with this pool
pub pool_runs : (pool : Pool) → IsPool pool → Runs Begun (lines_before_end pool ++ end_line ∷ []) (Ended pool)
pool_runs pool is =
    let size = pool.size in
    let version = version_of pool in
    let limits = limits_in version in
    let within = own_limits pool is in
    let passes = own_passes pool in
    let at_most = leb-true size (most_members limits) (and_parts (leb 1 size) (leb size (most_members limits)) within.0).1 in
    let size_most = leb-true size (most_members Large) (and_parts (leb 1 size) (leb size (most_members Large)) is.size).1 in
    let size_field = decimal_field size (omega arith) in
    let size_fields : AllByRecursion IsField (codes "size" ∷ decimal size ∷ []) = (plain_field (codes "size") refl, (size_field, tt)) in
    let size_again : size_of limits (fields_of (size_line size)) ≡ size =
    ap (size_of limits) (fields_of-line_of (codes "size") (decimal size ∷ []) ((plain_field (codes "size") refl).no_tab, (size_field.no_tab, tt)))
    ∙ ap (λ o. unwrap_or o 0) (number_again (most_members limits) size (omega arith) at_most) in
    let categories = categories_run version size [] pool.categories is.categories is.different_categories (leb-true (length pool.categories) 20 is.few_categories) in
    let volunteers = volunteers_run version size pool.categories [] pool.volunteers is.categories is.ids is.values is.different_ids (let few = within.1 in omega arith) in
    let houses = pool_houses pool is version refl in
    let standings = standings_run size pool.categories version houses.0 houses.1 (length pool.volunteers) passes [] pool.volunteers 0 (omega arith) (omega arith) is.different_ids is.ids in
    let empty : Progress = Inside (empty_pool size) (none_passed version) in
    let listed = flat_map category_lines pool.categories ++ map (volunteer_line pool.categories) pool.volunteers in
    let housed = household_lines pool.volunteers in
    let stood = standing_lines pool.volunteers in
    let all_open : Progress = Inside (made size pool.categories (map opened pool.volunteers)) (none_passed version) in
    let all_housed : Progress = Inside (made size pool.categories (map lodged pool.volunteers)) (record { version = version; households = houses.0; standings = 0 }) in
    let ending : Passed = record { version = version; households = houses.0; standings = standings.0 } in
    let two = reading.Runs-append reader empty (Inside (made size pool.categories []) (none_passed version)) all_open (flat_map category_lines pool.categories) (map (volunteer_line pool.categories) pool.volunteers) categories volunteers in
    let three = reading.Runs-append reader empty all_open all_housed listed housed two houses.2 in
    let four = reading.Runs-append reader empty all_housed (Inside pool ending) (listed ++ housed) stood three standings.1 in
    let last = run_entry pool ending (codes "end") [] TheEnd [] (Ended pool) (plain_field (codes "end") refl, tt) refl (ap (λ b. cond b (Some 1) None) (or_from (awaits_household ending) (awaits_volunteers pool ending) houses.1 passes)) refl in
    let all = reading.Runs-append reader empty (Inside pool ending) (Ended pool) ((listed ++ housed) ++ stood) (end_line ∷ []) four last in
    let entries = ((listed ++ housed) ++ stood) ++ end_line ∷ [] in
    version_runs version (size_line size ∷ entries) (Ended pool) (
      line_lacks_feed (codes "size" ∷ decimal size ∷ []) size_fields,
      ap (size_kind limits) size_again ∙ ap (λ test. cond (not test) (Some 2) None) within.0,
      subst (λ n. Runs (Inside (empty_pool n) (none_passed version)) entries (Ended pool)) (sym size_again) all,
    )

-- the spelling of a pool is read as this pool
pub spelled_is_read : (pool : Pool) → IsPool pool → read (spelling pool) ≡ Ok pool
spelled_is_read pool right =
    let lines = lines_before_end pool ++ end_line ∷ [] in
    let runs = pool_runs pool right in
    reading.text_is_read reader (Ended pool) pool (λ number. refl) 1 Begun lines runs
