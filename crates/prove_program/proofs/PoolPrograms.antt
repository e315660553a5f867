-- `IsProgram` holds of each program of a pool.
use Rattle.std.proofs.Common.{◌≡◌, ℕ, ◌<◌, List, [], map, filter, length, get_or, ℤ, pos, ◌≤ℤ◌, sym, ap, ◌∙◌, arith, true}
use Rattle.std.specs.List.{All, enumerate_from}
use Rattle.std.proofs.lemmas.Bool.{leb-true}
use Rattle.std.proofs.lemmas.Int.{ints}
use Rattle.std.proofs.lemmas.List.{length-map}
use Rattle.std.proofs.lemmas.List.Elements.{All-from_recursion, All-map, recursion_from_All}
use Rattle.define_pools.proofs.Each.{each_filter, each_map, each_mapped}
use Rattle.define_proofs.specs.Constraints.{Constraint, coefficient, constraints}
use Rattle.define_pools.specs.Pool.{IsPool, Pool}
use Rattle.prove_limits.specs.Spans.{Ends}
use Rattle.prove_program.specs.declared.columns.Column.{Column}
use Rattle.prove_program.specs.Demands.{AreColumns, NumberColumns}
use Rattle.prove_program.specs.Programs.{IsProgram, IsRow, Program, QuotaRow, can_break, program_over, quota_constraints, row_of, rows_of, span_of}
use Rattle.prove_program.proofs.PoolDemands.{Counts, each_counts, numbered}

module _ (pool : Pool) (is : IsPool pool) (numbers : List ℕ) (columns : List Column) (are : AreColumns pool columns) (number : NumberColumns pool numbers columns) where
  abbrev firsts : List ℕ
  firsts = map (λ column. column.first) columns

  count : length firsts ≡ length columns
  count = length-map columns (λ column. column.first)

  is_row : (numbered : ℕ × Constraint) → Counts numbered.1 → IsRow (length firsts) (row_of columns numbered)
  is_row numbered counts = record {
    one_each = length-map columns (λ column. coefficient numbered.1 column.first) ∙ sym count;
    not_negative = All-map (λ value. pos 0 ≤ℤ value) (λ column. coefficient numbered.1 column.first) columns (λ k d l. counts.not_negative (get_or columns k d).first);
    at_most_one = All-map (λ value. value ≤ℤ pos 1) (λ column. coefficient numbered.1 column.first) columns (λ k d l. counts.at_most_one (get_or columns k d).first);
  }

  are_rows : All (IsRow (length firsts)) (rows_of columns (constraints pool []))
  are_rows =
      let all = enumerate_from 0 (constraints pool []) in
      let counts = recursion_from_All (λ numbered. Counts numbered.1) all (numbered Counts (constraints pool []) (each_counts pool is)) in
      All-from_recursion (IsRow (length firsts)) (rows_of columns (constraints pool []))
      (each_mapped (IsRow (length firsts)) (row_of columns) (filter (can_break columns) all)
      (each_filter (λ numbered. IsRow (length firsts) (row_of columns numbered)) (can_break columns) all
      (each_map (λ numbered. Counts numbered.1) (λ numbered. can_break columns numbered ≡ true → IsRow (length firsts) (row_of columns numbered)) (λ numbered counts t. is_row numbered counts) all counts)))

  pub program_is : IsProgram (program_over pool numbers columns)
  program_is =
      let few = leb-true (length pool.volunteers) 4000 is.few_volunteers in
      let same = number.one_each in let columns_few = are.few in let firsts_count = count in
      record {
        few_volunteers = omega (arith, few, same);
        few_columns = omega (arith, columns_few, firsts_count);
        column_numbers = λ k d l. let below = number.within k d l in omega (arith, below, firsts_count);
        firsts = All-map (λ first. first < length numbers) (λ column. column.first) columns (λ k d l. let below = are.firsts k d l in omega (arith, below, same));
        as_many_sizes = length-map columns (λ column. pos column.size) ∙ sym count;
        sizes = All-map (λ size. (pos 1 ≤ℤ size) × (size ≤ℤ pos 4000)) (λ column. pos column.size) columns (λ k d l. let c = are.each k d l in let a = c.has_member in let b = c.few in (omega (arith, ints, a), omega (arith, ints, b)));
        as_many_spans = length-map columns span_of ∙ sym count;
        spans = All-map (λ span. (pos 0 ≤ℤ span.least) × (span.least ≤ℤ span.greatest) × (span.greatest ≤ℤ pos 4000)) span_of columns
            (λ k d l. let c = are.each k d l in let a = c.in_order in let b = c.within in let e = c.few in (omega (arith, ints), omega (arith, ints, a), omega (arith, ints, b, e)));
        rows = are_rows;
      }

-- if a program's parts are those of the columns and of the pool's constraints, it is the program of the pool over the columns
pub same_program : (pool : Pool) (numbers : List ℕ) (columns : List Column) (leaders : List ℕ) (sizes : List ℤ) (spans : List Ends) (rows : List QuotaRow) (quotas : ℕ) →
    leaders ≡ map (λ column. column.first) columns → sizes ≡ map (λ column. pos column.size) columns → spans ≡ map span_of columns → rows ≡ rows_of columns (constraints pool []) →
    quotas ≡ length (quota_constraints pool) →
    (let program : Program = record { column_numbers = numbers; firsts = leaders; sizes = sizes; spans = spans; rows = rows; quotas = quotas } in program) ≡ program_over pool numbers columns
same_program pool numbers columns leaders sizes spans rows quotas a b c d e =
    ap (λ leaders. let program : Program = record { column_numbers = numbers; firsts = leaders; sizes = sizes; spans = spans; rows = rows; quotas = quotas } in program) a
    ∙ ap (λ sizes. let program : Program = record { column_numbers = numbers; firsts = map (λ column. column.first) columns; sizes = sizes; spans = spans; rows = rows; quotas = quotas } in program) b
    ∙ ap (λ spans. let program : Program = record { column_numbers = numbers; firsts = map (λ column. column.first) columns; sizes = map (λ column. pos column.size) columns; spans = spans; rows = rows; quotas = quotas } in program) c
    ∙ ap (λ rows. let program : Program = record { column_numbers = numbers; firsts = map (λ column. column.first) columns; sizes = map (λ column. pos column.size) columns; spans = map span_of columns; rows = rows; quotas = quotas } in program) d
    ∙ ap (λ quotas. let program : Program = record { column_numbers = numbers; firsts = map (λ column. column.first) columns; sizes = map (λ column. pos column.size) columns; spans = map span_of columns; rows = rows_of columns (constraints pool []); quotas = quotas } in program) e
