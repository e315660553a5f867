-- How a file of CSV is read as rules: columns `category`, `name`, `min` and `max`, and a record for each value. Categories and values are
-- in the order in which they first appear. Builds on Cells, and on Facts of `define_offices`.
use Rattle.std.specs.Prelude.{ℕ, ◌==◌, nat_le, if◌then◌else◌, Bool, not, ◌&&◌, ◌||◌, List, [], ◌∷◌, ◌++◌, length, codes, bytes_eq, Option, Result, Err, ◌≡◌}
use Rattle.std.specs.List.{list_all}
use Rattle.std.specs.Str.{is_utf8}
use Rattle.std.specs.Str.Parse.{digits_value}
use Rattle.define_pools.specs.Building.{category_names, lowest_kind, value_names}
use Rattle.define_pools.specs.Lists.{includes_list}
use Rattle.define_pools.specs.Pool.{BoundedValue, Category, are_bounds, is_name}
use Rattle.define_offices.specs.Facts.{is_reserved}
use Rattle.define_imports.specs.Cells.{AreRecordsOf, Fault, cell_named, has_once, header_fault, read_from}

-- the columns that a file of rules needs
abbrev pub rule_columns : List (List ℕ)
rule_columns = codes "category" ∷ codes "name" ∷ codes "min" ∷ codes "max" ∷ []

abbrev pub is_digit : ℕ → Bool
is_digit byte = nat_le 48 byte && nat_le byte 57

-- the field is a number: 1 to 9 digits, with or without leading zeros
abbrev pub is_number : List ℕ → Bool
is_number field = nat_le 1 (length field) && nat_le (length field) 9 && list_all is_digit field

-- the bound that a field gives, or 1000, which is no bound
abbrev pub bound_of : List ℕ → ℕ
bound_of field = if is_number field then digits_value 10 field else 1000

-- what a record says: a value of a category, with its bounds
pub record Rule : Type 0 where
  pub category : List ℕ
  pub value : BoundedValue

abbrev pub rule_of : List (List ℕ) → List (List ℕ) → Rule
rule_of header fields = record {
  category = cell_named header fields (codes "category");
  value = record {
    name = cell_named header fields (codes "name");
    lower = bound_of (cell_named header fields (codes "min"));
    upper = bound_of (cell_named header fields (codes "max"));
  };
}

-- the values of the category with this name; none if there is no such category
abbrev pub values_of : List Category → List ℕ → List BoundedValue
values_of [] name = []
values_of (category ∷ categories) name = if bytes_eq name category.name then category.values else values_of categories name

-- the categories with the rule's value added to the rule's category, which is appended if it is new
abbrev pub with_rule : List Category → Rule → List Category
with_rule [] rule = record { name = rule.category; values = rule.value ∷ [] } ∷ []
with_rule (category ∷ categories) rule =
    if bytes_eq rule.category category.name then record category { values = category.values ++ rule.value ∷ [] } ∷ categories
    else category ∷ with_rule categories rule

-- there is no room for a value of the category with this name: it would be the category's 51st value, or the category would be the 21st
abbrev pub is_full : List Category → List ℕ → Bool
is_full categories name =
    if includes_list (category_names categories) name then nat_le 50 (length (values_of categories name)) else nat_le 20 (length categories)

-- the fields that are used are UTF-8
abbrev pub is_text : List (List ℕ) → List (List ℕ) → Bool
is_text header fields = list_all (λ name. is_utf8 (cell_named header fields name)) rule_columns

-- the category or the value has a name that isn't allowed, or the category has the name of a column that each register has
abbrev pub is_misnamed : Rule → Bool
is_misnamed rule = not (is_name rule.category) || not (is_name rule.value.name) || is_reserved rule.category

-- the kinds of fault that a record may have, in rising order, each with whether it applies, given the categories of the records before it.
-- 1: a field that is used isn't UTF-8; 3: the record isn't as long as the header; 4: a name isn't allowed; 6: the bounds aren't two numbers
-- up to 999, the lower first; 7: an earlier record has this category and value; 8: there is no room
abbrev pub rule_kinds : List (List ℕ) → List Category → List (List ℕ) → List (ℕ × Bool)
rule_kinds header categories fields =
    let rule = rule_of header fields in
    (1, not (is_text header fields))
    ∷ (3, not (length fields == length header))
    ∷ (4, is_misnamed rule)
    ∷ (6, not (are_bounds rule.value.lower rule.value.upper))
    ∷ (7, includes_list (value_names (values_of categories rule.category)) rule.value.name)
    ∷ (8, is_full categories rule.category)
    ∷ []

abbrev pub rule_kind : List (List ℕ) → List Category → List (List ℕ) → Option ℕ
rule_kind header categories fields = lowest_kind (rule_kinds header categories fields)

abbrev pub after_rule : List (List ℕ) → List Category → List (List ℕ) → List Category
after_rule header categories fields = with_rule categories (rule_of header fields)

-- the categories of a file with these records, or its first fault. The file needs a header with the four columns, and a record after the
-- header
abbrev pub rules_of : List (List (List ℕ)) → Result (List Category) Fault
rules_of [] = Err header_fault
rules_of (header ∷ []) = Err header_fault
rules_of (header ∷ first ∷ later) =
    if list_all (has_once header) rule_columns then read_from (rule_kind header) (after_rule header) 2 [] (first ∷ later) else Err header_fault

-- the bytes are read as `said`: the categories, or the first fault
pub record ReadsRules (bytes : List ℕ) (said : Result (List Category) Fault) : Type 0 where
  pub records : List (List (List ℕ))
  pub are_records : AreRecordsOf bytes records
  pub gives : rules_of records ≡ said
