-- Files of CSV: their records, the fields of a record by the names of the columns, and the first fault of a file. Builds on the reading of
-- CSV that the toolchain's `csv` defines. Rules and Registers stand on it, and Charters on its `Fault`. `office_import` reads cells this
-- way; the meanings of imports in `command_stores` and the headline cite it.
use Rattle.std.specs.Prelude.{ℕ, ◌+◌, ◌==◌, ◌||◌, if◌then◌else◌, Bool, List, [], ◌∷◌, reverse, count_by, position, bytes_eq, Option, Some, None, slice_index_or, Result, Ok, Err}
use Rattle.csv.specs.Reading.{AreRecords, default_config, strip_bom}
use Rattle.csv.specs.declared.parser.State.TheVariants as state

-- the fault of a file: the number of a record, counted from 1, or 0 for the whole file, and the kind of fault
pub record Fault : Type 0 where
  pub place : ℕ
  pub kind : ℕ

-- `records` are the records of a file of CSV. A mark of the byte order at its front is passed over. The header is the first record
abbrev pub AreRecordsOf : List ℕ → List (List (List ℕ)) → Type 0
AreRecordsOf bytes records = AreRecords default_config state.StartRecord (strip_bom bytes) records

-- a space or a tab
abbrev pub is_blank : ℕ → Bool
is_blank byte = (byte == 32) || (byte == 9)

unfoldable pub trim_front : List ℕ → List ℕ
trim_front [] = []
trim_front (byte ∷ rest) = if is_blank byte then trim_front rest else byte ∷ rest

abbrev pub trim_back : List ℕ → List ℕ
trim_back field = reverse (trim_front (reverse field))

-- the field without the blanks at both ends
abbrev pub trimmed : List ℕ → List ℕ
trimmed field = trim_back (trim_front field)

-- the field of a header is `name`, without the blanks at both ends
abbrev pub is_named : List ℕ → List ℕ → Bool
is_named name field = bytes_eq (trimmed field) name

-- how many columns have the name
abbrev pub times : List (List ℕ) → List ℕ → ℕ
times header name = count_by (is_named name) header

abbrev pub has_once : List (List ℕ) → List ℕ → Bool
has_once header name = times header name == 1

-- the place of the first column with the name, if there is one
abbrev pub column : List (List ℕ) → List ℕ → Option ℕ
column header name = position (is_named name) header

-- the field of a record in a column, without blanks at both ends; empty if there is no such column, or the record is too short
abbrev pub cell : List (List ℕ) → Option ℕ → List ℕ
cell fields None = []
cell fields (Some place) = trimmed (slice_index_or fields place [])

-- the `cell` of a record in the column that is called `name`
abbrev pub cell_named : List (List ℕ) → List (List ℕ) → List ℕ → List ℕ
cell_named header fields name = cell fields (column header name)

-- the fault of the header: there is none, a column that is needed is missing, or a column that is used is there twice. It is also the fault
-- of a file of rules without a record after the header
abbrev pub header_fault : Fault
header_fault = record { place = 1; kind = 2 }

-- the fault of `kind` in the record at `place`; if there is no kind, `later`, which is the result for the later records
abbrev pub fault_or : {Value : Type 0} → Option ℕ → ℕ → Result Value Fault → Result Value Fault
fault_or None place later = later
fault_or (Some kind) place later = Err (record { place = place; kind = kind })

-- `before` with all records added to it by `after`, or the first fault of a record. The first record is at `place`. `kind_of` gives the
-- lowest kind of fault of a record, if the record has a fault
abbrev pub read_from : {Value : Type 0} → (Value → List (List ℕ) → Option ℕ) → (Value → List (List ℕ) → Value) → ℕ → Value → List (List (List ℕ)) → Result Value Fault
read_from kind_of after place before [] = Ok before
read_from kind_of after place before (fields ∷ later) =
    fault_or (kind_of before fields) place (read_from kind_of after (place + 1) (after before fields) later)
