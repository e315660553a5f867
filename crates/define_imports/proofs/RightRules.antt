-- `AreRules` holds of the categories that are read from records without a fault.
use Rattle.std.proofs.Common.{◌≡◌, ℕ, suc, ◌+◌, ◌<◌, ◌≤◌, Bool, true, false, cond, eqb, leb, not, ◌&&◌, ◌||◌, List, [], ◌∷◌, ◌++◌, map, length, Option, Some, None, Result, Ok, refl, sym, ap, subst, ◌∙◌, arith}
use Rattle.std.specs.List.{list_all}
use Rattle.std.specs.Str.{bytes_eq}
use Rattle.std.proofs.lemmas.Bool.{false≢true, and_parts, and_from, or_parts, not-false, not_from_false, leb-false, le-leb}
use Rattle.std.proofs.lemmas.List.{length_push, map_push}
use Rattle.define_pools.proofs.Each.{list_all-push}
use Rattle.define_pools.specs.Lists.{includes_list, all_different}
use Rattle.define_pools.specs.Pool.{BoundedValue, Category, are_bounds, is_category, is_name, is_value}
use Rattle.define_pools.specs.Building.{category_names, value_names}
use Rattle.define_pools.proofs.BuildingLemmas.{all_different_push, no_kind}
use Rattle.define_offices.specs.Facts.{AreRules, is_reserved}
use Rattle.define_imports.specs.Cells.{Fault, fault_or, read_from}
use Rattle.define_imports.specs.Rules.{Rule, after_rule, is_full, is_misnamed, is_text, rule_kind, rule_of, values_of, with_rule}

-- ---- a rule is added

-- if a test passes for each category, for a new category of the rule, and for the rule's category with the value added, it passes for each
-- category after the rule was added
all_with_rule : (ok : Category → Bool) (categories : List Category) (rule : Rule) → list_all ok categories ≡ true → ok (record { name = rule.category; values = rule.value ∷ [] }) ≡ true →
    ((c : Category) → c.values ≡ values_of categories rule.category → ok c ≡ true → ok (record c { values = c.values ++ rule.value ∷ [] }) ≡ true) →
    list_all ok (with_rule categories rule) ≡ true
all_with_rule ok [] rule h new more = and_from (ok (record { name = rule.category; values = rule.value ∷ [] })) true new refl
all_with_rule ok (c ∷ cs) rule h new more =
    let parts = and_parts (ok c) (list_all ok cs) h in
    (elim (bytes_eq rule.category c.name) as (λ b. ((d : Category) → d.values ≡ cond b c.values (values_of cs rule.category) → ok d ≡ true → ok (record d { values = d.values ++ rule.value ∷ [] }) ≡ true) →
    list_all ok (cond b (record c { values = c.values ++ rule.value ∷ [] } ∷ cs) (c ∷ with_rule cs rule)) ≡ true) [
      | true ↦ λ grown. and_from (ok (record c { values = c.values ++ rule.value ∷ [] })) (list_all ok cs) (grown c refl parts.0) parts.1
      | false ↦ λ grown. and_from (ok c) (list_all ok (with_rule cs rule)) parts.0 (all_with_rule ok cs rule parts.1 new grown)
    ]) more

-- adding a rule leaves the names of the categories as they are, or, if its category is new, appends the category's name
names_with_rule : (categories : List Category) (rule : Rule) →
    category_names (with_rule categories rule) ≡ cond (includes_list (category_names categories) rule.category) (category_names categories) (category_names categories ++ rule.category ∷ [])
names_with_rule [] rule = refl
names_with_rule (c ∷ cs) rule =
    elim (bytes_eq rule.category c.name) as (λ b. category_names (cond b (record c { values = c.values ++ rule.value ∷ [] } ∷ cs) (c ∷ with_rule cs rule))
    ≡ cond (b || includes_list (category_names cs) rule.category) (c.name ∷ category_names cs) (c.name ∷ (category_names cs ++ rule.category ∷ []))) [
      | true ↦ refl
      | false ↦ ap (λ names. c.name ∷ names) (names_with_rule cs rule) ∙ inside (includes_list (category_names cs) rule.category)
    ]
  where
    inside : (b : Bool) → c.name ∷ cond b (category_names cs) (category_names cs ++ rule.category ∷ []) ≡ cond b (c.name ∷ category_names cs) (c.name ∷ (category_names cs ++ rule.category ∷ []))
    inside true = refl
    inside false = refl

-- adding a rule leaves the number of categories as it is, or adds 1 if the rule's category is new
length-with_rule : (categories : List Category) (rule : Rule) → length (with_rule categories rule) ≡ cond (includes_list (category_names categories) rule.category) (length categories) (suc (length categories))
length-with_rule [] rule = refl
length-with_rule (c ∷ cs) rule =
    elim (bytes_eq rule.category c.name) as (λ b. length (cond b (record c { values = c.values ++ rule.value ∷ [] } ∷ cs) (c ∷ with_rule cs rule))
    ≡ cond (b || includes_list (category_names cs) rule.category) (suc (length cs)) (suc (suc (length cs)))) [
      | true ↦ refl
      | false ↦ ap suc (length-with_rule cs rule) ∙ inside (includes_list (category_names cs) rule.category)
    ]
  where
    inside : (b : Bool) → suc (cond b (length cs) (suc (length cs))) ≡ cond b (suc (length cs)) (suc (suc (length cs)))
    inside true = refl
    inside false = refl

-- a category that isn't there has no values
values_none : (categories : List Category) (name : List ℕ) → includes_list (category_names categories) name ≡ false → values_of categories name ≡ []
values_none [] name h = refl
values_none (c ∷ cs) name h =
    let parts = or_parts (bytes_eq name c.name) (includes_list (category_names cs) name) h in
    rw parts.0 (values_none cs name parts.1)

-- ---- room for one more value

-- if there is room for a value of this category, the category has at most 49 values, and if it is new, there are at most 19 categories
room : (categories : List Category) (name : List ℕ) → is_full categories name ≡ false → (length (values_of categories name) < 50) × (includes_list (category_names categories) name ≡ false → length categories < 20)
room categories name h =
    (elim (includes_list (category_names categories) name) as (λ b. includes_list (category_names categories) name ≡ b → cond b (leb 50 (length (values_of categories name))) (leb 20 (length categories)) ≡ false →
    (length (values_of categories name) < 50) × (b ≡ false → length categories < 20)) [
      | true ↦ λ e k. (leb-false 50 (length (values_of categories name)) k, λ f. absurd (false≢true (sym f)))
      | false ↦ λ e k. (let none : length (values_of categories name) ≡ 0 = ap (λ (vs : List BoundedValue). length vs) (values_none categories name e) in omega arith, λ f. leb-false 20 (length categories) k)
    ]) refl h

-- ---- categories after each record

-- what holds of categories while they are read
pub record AreDrafts (categories : List Category) : Type 0 where
  pub few : leb (length categories) 20 ≡ true
  pub each : list_all is_category categories ≡ true
  pub different : all_different (category_names categories) ≡ true
  pub filled : list_all (λ (c : Category). leb 1 (length c.values)) categories ≡ true
  pub free : list_all (λ (c : Category). not (is_reserved c.name)) categories ≡ true

-- what holds of a rule without a fault
record Fits (categories : List Category) (rule : Rule) : Type 0 where
  named : is_name rule.category ≡ true
  value_named : is_name rule.value.name ≡ true
  free : is_reserved rule.category ≡ false
  bounds : are_bounds rule.value.lower rule.value.upper ≡ true
  new : includes_list (value_names (values_of categories rule.category)) rule.value.name ≡ false
  not_full : is_full categories rule.category ≡ false

fits : (header fields : List (List ℕ)) (categories : List Category) → rule_kind header categories fields ≡ None → Fits categories (rule_of header fields)
fits header fields categories h =
    let rule = rule_of header fields in
    let text = no_kind (not (is_text header fields)) 1 _ h in
    let long = no_kind (not (eqb (length fields) (length header))) 3 _ text.1 in
    let misnamed = no_kind (is_misnamed rule) 4 _ long.1 in
    let unbounded = no_kind (not (are_bounds rule.value.lower rule.value.upper)) 6 _ misnamed.1 in
    let repeated = no_kind (includes_list (value_names (values_of categories rule.category)) rule.value.name) 7 _ unbounded.1 in
    let full = no_kind (is_full categories rule.category) 8 _ repeated.1 in
    let names = or_parts (not (is_name rule.category) || not (is_name rule.value.name)) (is_reserved rule.category) misnamed.0 in
    let both = or_parts (not (is_name rule.category)) (not (is_name rule.value.name)) names.0 in
    record {
      named = not-false (is_name rule.category) both.0;
      value_named = not-false (is_name rule.value.name) both.1;
      free = names.1;
      bounds = not-false (are_bounds rule.value.lower rule.value.upper) unbounded.0;
      new = repeated.0;
      not_full = full.0;
    }

-- a category with one more value of a new name is a category again, if there is room
category_grows : (category : Category) (value : BoundedValue) → is_value value ≡ true → includes_list (value_names category.values) value.name ≡ false → length category.values < 50 → is_category category ≡ true →
    is_category (record category { values = category.values ++ value ∷ [] }) ≡ true
category_grows category value good new inside h =
    let A = is_name category.name in let B = leb (length category.values) 50 in let C = all_different (value_names category.values) in let D = list_all is_value category.values in
    let d = and_parts (A && B && C) D h in let c = and_parts (A && B) C d.0 in let b = and_parts A B c.0 in
    let values = category.values ++ value ∷ [] in
    let few = le-leb (length values) 50 (omega (arith, length_push category.values value, inside)) in
    let apart : all_different (value_names values) ≡ true = rw (map_push (λ (v : BoundedValue). v.name) category.values value) (all_different_push (value_names category.values) value.name c.1 new) in
    and_from (A && leb (length values) 50 && all_different (value_names values)) (list_all is_value values)
    (and_from (A && leb (length values) 50) (all_different (value_names values)) (and_from A (leb (length values) 50) b.0 few) apart)
    (list_all-push is_value category.values value d.1 good)

-- if `AreDrafts` holds of categories, it still holds after a rule without a fault is added
kept : (categories : List Category) (rule : Rule) → AreDrafts categories → Fits categories rule → AreDrafts (with_rule categories rule)
kept categories rule drafts fit =
    let name = rule.category in
    let known = includes_list (category_names categories) name in
    let good : is_value rule.value ≡ true = and_from (is_name rule.value.name) (are_bounds rule.value.lower rule.value.upper) fit.value_named fit.bounds in
    let free : not (is_reserved name) ≡ true = not_from_false (is_reserved name) fit.free in
    let inside = room categories name fit.not_full in
    record {
      few = rw (length-with_rule categories rule) (few_after known refl inside.1);
      each = all_with_rule is_category categories rule drafts.each (alone good) (λ c same h. category_grows c rule.value good (rw same fit.new) (rw same inside.0) h);
      different = rw (names_with_rule categories rule) (different_after known refl);
      filled = all_with_rule (λ (c : Category). leb 1 (length c.values)) categories rule drafts.filled refl (λ c same h. le-leb 1 (length (c.values ++ rule.value ∷ [])) (omega (arith, length_push c.values rule.value)));
      free = all_with_rule (λ (c : Category). not (is_reserved c.name)) categories rule drafts.free free (λ c same h. h);
    }
  where
    few_after : (b : Bool) → includes_list (category_names categories) rule.category ≡ b → (includes_list (category_names categories) rule.category ≡ false → length categories < 20) → leb (cond b (length categories) (suc (length categories))) 20 ≡ true
    few_after true e h = drafts.few
    few_after false e h = let below = h e in le-leb (suc (length categories)) 20 (omega arith)

    different_after : (b : Bool) → includes_list (category_names categories) rule.category ≡ b → all_different (cond b (category_names categories) (category_names categories ++ rule.category ∷ [])) ≡ true
    different_after true e = drafts.different
    different_after false e = all_different_push (category_names categories) rule.category drafts.different e

    alone : is_value rule.value ≡ true → is_category (record { name = rule.category; values = rule.value ∷ [] }) ≡ true
    alone good = and_from (is_name rule.category && true && true) (is_value rule.value && true) (and_from (is_name rule.category && true) true (and_from (is_name rule.category) true fit.named refl) refl) (and_from (is_value rule.value) true good refl)

-- ---- reading all records

-- if each record without a fault keeps `P`, reading all records keeps `P`
read_keeps : {V : Type 0} (P : V → Type 0) (kind_of : V → List (List ℕ) → Option ℕ) (after : V → List (List ℕ) → V) → ((v : V) (fields : List (List ℕ)) → P v → kind_of v fields ≡ None → P (after v fields)) →
    (place : ℕ) (before : V) (records : List (List (List ℕ))) (value : V) → P before → read_from kind_of after place before records ≡ Ok value → P value
read_keeps {V} P kind_of after step place before [] value p h = subst P (same before value (Ok before) refl h) p
  where
    same : (x y : V) (r : Result V Fault) → r ≡ Ok x → r ≡ Ok y → x ≡ y
    same x y r e k = cc
read_keeps {V} P kind_of after step place before (fields ∷ later) value p h =
    (elim (kind_of before fields) as (λ k. kind_of before fields ≡ k → fault_or k place (read_from kind_of after (place + 1) (after before fields) later) ≡ Ok value → P value) [
      | None ↦ λ e k. read_keeps P kind_of after step (place + 1) (after before fields) later value (step before fields p e) k
      | Some kind ↦ λ e k. absurd cc
    ]) refl h

-- `AreRules` holds of the categories that are read from at least one record
pub rules_are_right : (header first : List (List ℕ)) (later : List (List (List ℕ))) (categories : List Category) →
    read_from (rule_kind header) (after_rule header) 2 [] (first ∷ later) ≡ Ok categories → AreRules categories
rules_are_right header first later categories h =
    (elim (rule_kind header [] first) as (λ k. rule_kind header [] first ≡ k → fault_or k 2 (read_from (rule_kind header) (after_rule header) (2 + 1) (after_rule header [] first) later) ≡ Ok categories → AreRules categories) [
      | None ↦ λ e k.
          let begun : AreDrafts [] = record { few = refl; each = refl; different = refl; filled = refl; free = refl } in
          let step : (cs : List Category) (fields : List (List ℕ)) → AreDrafts cs × (1 ≤ length cs) → rule_kind header cs fields ≡ None → AreDrafts (after_rule header cs fields) × (1 ≤ length (after_rule header cs fields)) =
          λ cs fields p none. (kept cs (rule_of header fields) p.0 (fits header fields cs none), grown cs (rule_of header fields) p.1) in
          let all = read_keeps (λ cs. AreDrafts cs × (1 ≤ length cs)) (rule_kind header) (after_rule header) step (2 + 1) (after_rule header [] first) later categories (kept [] (rule_of header first) begun (fits header first [] e), omega arith) k in
          right categories all.0 all.1
      | Some kind ↦ λ e k. absurd cc
    ]) refl h
  where
    grown : (cs : List Category) (rule : Rule) → 1 ≤ length cs → 1 ≤ length (with_rule cs rule)
    grown cs rule h =
        (elim (includes_list (category_names cs) rule.category) as (λ b. length (with_rule cs rule) ≡ cond b (length cs) (suc (length cs)) → 1 ≤ length (with_rule cs rule)) [
          | true ↦ λ e. omega arith
          | false ↦ λ e. omega arith
        ]) (length-with_rule cs rule)

    right : (cs : List Category) → AreDrafts cs → 1 ≤ length cs → AreRules cs
    right cs drafts some =
        let filled = list_all (λ (c : Category). leb 1 (length c.values)) cs in let free = list_all (λ (c : Category). not (is_reserved c.name)) cs in
        record {
          few = drafts.few;
          each = drafts.each;
          different = drafts.different;
          are = and_from (leb 1 (length cs) && filled) free (and_from (leb 1 (length cs)) filled (le-leb 1 (length cs) some) drafts.filled) drafts.free;
        }

-- as `rules_are_right`, for records of any type `R`; `fields` gives the fields of a record
pub rows_give_rules : {R : Type 0} (header : List (List ℕ)) (fields : R → List (List ℕ)) (rows : List R) (categories : List Category) → eqb (length rows) 0 ≡ false →
    read_from (rule_kind header) (after_rule header) 2 [] (map fields rows) ≡ Ok categories → AreRules categories
rows_give_rules header fields [] categories some h = absurd (false≢true (sym some))
rows_give_rules header fields (first ∷ later) categories some h = rules_are_right header (fields first) (map fields later) categories h
