-- How a file of CSV is read as rows of the register. It has the columns `id` and `key`, and one for each category of the rules. It may have
-- a column `household`, which is for households unless a category has this name. Builds on Cells, and on Facts of `define_offices`.
use Rattle.std.specs.Prelude.{ℕ, ◌==◌, nat_le, if◌then◌else◌, Bool, not, ◌&&◌, ◌||◌, List, [], ◌∷◌, ◌++◌, map, length, codes, Option, Some, None, Result, Err, ◌≡◌}
use Rattle.std.specs.List.{list_all}
use Rattle.std.specs.Str.{is_utf8}
use Rattle.define_pools.specs.Building.{are_known, category_names, lowest_kind}
use Rattle.define_pools.specs.Lists.{includes_list}
use Rattle.define_pools.specs.Pool.{Category}
use Rattle.define_offices.specs.Commands.{Given}
use Rattle.define_offices.specs.Facts.{is_given}
use Rattle.define_imports.specs.Cells.{AreRecordsOf, Fault, cell_named, has_once, header_fault, read_from, times}

-- the columns that a register of these rules needs
abbrev pub row_columns : List Category → List (List ℕ)
row_columns rules = codes "id" ∷ codes "key" ∷ category_names rules

-- a category is called `household`, so a column of this name is for the category
abbrev pub is_household_taken : List Category → Bool
is_household_taken rules = includes_list (category_names rules) (codes "household")

-- each column that is needed is there once, and a column for households is there at most once
abbrev pub is_row_header : List Category → List (List ℕ) → Bool
is_row_header rules header =
    list_all (has_once header) (row_columns rules) && (is_household_taken rules || nat_le (times header (codes "household")) 1)

-- a text, or None if it is empty
abbrev pub filled : List ℕ → Option (List ℕ)
filled [] = None
filled (byte ∷ rest) = Some (byte ∷ rest)

-- the field for the household; empty if there is no column for households
abbrev pub household_cell : List Category → List (List ℕ) → List (List ℕ) → List ℕ
household_cell rules header fields = if is_household_taken rules then [] else cell_named header fields (codes "household")

-- the row that a record gives
abbrev pub row_of : List Category → List (List ℕ) → List (List ℕ) → Given
row_of rules header fields = record {
  id = cell_named header fields (codes "id");
  key = cell_named header fields (codes "key");
  values = map (cell_named header fields) (category_names rules);
  household = filled (household_cell rules header fields);
}

-- the fields that are used are UTF-8
abbrev pub is_text : List Category → List (List ℕ) → List (List ℕ) → Bool
is_text rules header fields =
    list_all (λ name. is_utf8 (cell_named header fields name)) (row_columns rules) && is_utf8 (household_cell rules header fields)

-- the kinds of fault that a record may have, in rising order, each with whether it applies. 1: a field that is used isn't UTF-8; 3: the
-- record isn't as long as the header; 4: the id, the key or the household isn't allowed; 5: a field of a category is none of its values
abbrev pub row_kinds : List Category → List (List ℕ) → List (List ℕ) → List (ℕ × Bool)
row_kinds rules header fields =
    let row = row_of rules header fields in
    (1, not (is_text rules header fields))
    ∷ (3, not (length fields == length header))
    ∷ (4, not (is_given row))
    ∷ (5, not (are_known rules row.values))
    ∷ []

abbrev pub row_kind : List Category → List (List ℕ) → List Given → List (List ℕ) → Option ℕ
row_kind rules header rows fields = lowest_kind (row_kinds rules header fields)

abbrev pub after_row : List Category → List (List ℕ) → List Given → List (List ℕ) → List Given
after_row rules header rows fields = rows ++ row_of rules header fields ∷ []

-- the rows of a file with these records, or its first fault. The file needs a header, and may have no record after the header
abbrev pub rows_of : List Category → List (List (List ℕ)) → Result (List Given) Fault
rows_of rules [] = Err header_fault
rows_of rules (header ∷ records) =
    if is_row_header rules header then read_from (row_kind rules header) (after_row rules header) 2 [] records else Err header_fault

-- the bytes are read as `said`: the rows, or the first fault
pub record ReadsRows (rules : List Category) (bytes : List ℕ) (said : Result (List Given) Fault) : Type 0 where
  pub records : List (List (List ℕ))
  pub are_records : AreRecordsOf bytes records
  pub gives : rows_of rules records ≡ said
