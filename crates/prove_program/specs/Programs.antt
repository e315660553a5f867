-- The program of a pool's quotas: columns of alike volunteers or of single ones, and a row for each constraint that a point of the columns
-- can break.
use Rattle.std.specs.Prelude.{◌≡◌, ℕ, ◌+◌, ◌<◌, ◌≤◌, nat_lt, if◌then◌else◌, Bool, ◌||◌, List, [], ◌∷◌, map, filter, length, slice_index, ℤ, pos, ◌*ℤ◌, ◌≤ℤ◌, int_lt}
use Rattle.std.specs.List.{All, enumerate_from, flat_map}
use Rattle.define_proofs.specs.Constraints.{Constraint, category_constraints, coefficient, constraints, signed_sum, size_constraint}
use Rattle.define_pools.specs.Pool.{Pool, everybody, volunteer}
use Rattle.prove_limits.specs.Spans.{Ends}
use Rattle.prove_program.specs.declared.columns.Column.{Column}
use Rattle.define_searches.specs.Classes.{Class, class_number, classes_of, least_taken, most_taken}

-- the column of a class of alike volunteers
abbrev pub class_column : Class → Column
class_column class = record { first = slice_index class.members 0; size = length class.members; least = class.least; greatest = class.most }

abbrev pub class_columns : Pool → List Column
class_columns pool = map class_column (classes_of pool).classes

-- the column of a single volunteer
abbrev pub own_column : Pool → ℕ → Column
own_column pool i =
    let standing = (volunteer pool.volunteers i).standing in record { first = i; size = 1; least = least_taken standing 1; greatest = most_taken standing 1 }

abbrev pub own_columns : Pool → List Column
own_columns pool = map (own_column pool) (everybody pool)

-- ---- rows

-- a row: the number of a constraint, its coefficients by column, and the least and the greatest sum that it allows
pub record QuotaRow : Type 0 where
  pub number : ℕ
  pub coefficients : List ℤ
  pub span : Ends

-- the row of a numbered constraint: each column has the coefficient of its first member
abbrev pub row_of : List Column → ℕ × Constraint → QuotaRow
row_of columns (number, constraint) = record {
  number = number;
  coefficients = map (λ column. coefficient constraint column.first) columns;
  span = record { least = constraint.lower; greatest = constraint.upper };
}

-- the constraint's sum if a panel has `count column` members of each column. If no coefficient is below 0, the sum is least at the columns'
-- least counts, and greatest at their greatest counts
abbrev pub sum_over : (Column → ℕ) → List Column → Constraint → ℤ
sum_over count columns constraint = signed_sum (λ column. coefficient constraint column.first *ℤ pos (count column)) columns

-- true if some point of the columns' spans breaks the constraint, whose coefficients are at least 0
abbrev pub can_break : List Column → ℕ × Constraint → Bool
can_break columns (number, constraint) =
    int_lt (sum_over (λ column. column.least) columns constraint) constraint.lower
    || int_lt constraint.upper (sum_over (λ column. column.greatest) columns constraint)

-- the rows of the constraints that can be broken, with their numbers, in the order of the constraints
abbrev pub rows_of : List Column → List Constraint → List QuotaRow
rows_of columns constraints = map (row_of columns) (filter (can_break columns) (enumerate_from 0 constraints))

-- the constraints that come before those of earlier stages: the size and each value of each category
abbrev pub quota_constraints : Pool → List Constraint
quota_constraints pool = size_constraint pool ∷ flat_map (category_constraints pool) (enumerate_from 0 pool.categories)

-- ---- programs

-- the number of each volunteer's column; the columns' first members, sizes and spans; the rows; and how many constraints come before
-- those of earlier stages
pub record Program : Type 0 where
  pub column_numbers : List ℕ
  pub firsts : List ℕ
  pub sizes : List ℤ
  pub spans : List Ends
  pub rows : List QuotaRow
  pub quotas : ℕ

abbrev pub span_of : Column → Ends
span_of column = record { least = pos column.least; greatest = pos column.greatest }

abbrev pub program_over : Pool → List ℕ → List Column → Program
program_over pool column_numbers columns = record {
  column_numbers = column_numbers;
  firsts = map (λ column. column.first) columns;
  sizes = map (λ column. pos column.size) columns;
  spans = map span_of columns;
  rows = rows_of columns (constraints pool []);
  quotas = length (quota_constraints pool);
}

-- the program over classes of alike volunteers
abbrev pub program_by_class : Pool → Program
program_by_class pool = program_over pool (map (class_number (classes_of pool).classes) (everybody pool)) (class_columns pool)

-- the program over single volunteers
abbrev pub program_by_volunteer : Pool → Program
program_by_volunteer pool = program_over pool (everybody pool) (own_columns pool)

-- the number of a row's constraint after `stages` earlier stages; the constraints of households come after those of stages
abbrev pub number_after : Program → QuotaRow → ℕ → ℕ
number_after program row stages = if nat_lt row.number program.quotas then row.number else row.number + stages

-- ---- what holds of every program

-- a row over `columns` columns has a coefficient of 0 or 1 for each
pub record IsRow (columns : ℕ) (row : QuotaRow) : Type 0 where
  pub one_each : length row.coefficients ≡ columns
  pub not_negative : All (λ value. pos 0 ≤ℤ value) row.coefficients
  pub at_most_one : All (λ value. value ≤ℤ pos 1) row.coefficients

pub record IsProgram (program : Program) : Type 0 where
  pub few_volunteers : length program.column_numbers ≤ 4000
  pub few_columns : length program.firsts ≤ 4000
  pub column_numbers : All (λ column. column < length program.firsts) program.column_numbers
  pub firsts : All (λ first. first < length program.column_numbers) program.firsts
  pub as_many_sizes : length program.sizes ≡ length program.firsts
  pub sizes : All (λ size. (pos 1 ≤ℤ size) × (size ≤ℤ pos 4000)) program.sizes
  pub as_many_spans : length program.spans ≡ length program.firsts
  pub spans : All (λ span. (pos 0 ≤ℤ span.least) × (span.least ≤ℤ span.greatest) × (span.greatest ≤ℤ pos 4000)) program.spans
  pub rows : All (IsRow (length program.firsts)) program.rows
