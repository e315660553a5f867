-- A search's table has a column for each span of columns, and a row for each span of rows. The contracts of src/programs.rt,
-- src/searches.rt and src/answers.rt cite it.
use Rattle.std.specs.Prelude.{◌≡◌, List, length}
use Rattle.prove_limits.specs.Spans.{Ends}
use Rattle.prove_table.specs.Sizes.{TableSizes}
use Rattle.loosening_by_proof.specs.declared.searches.Search.{Search}

-- the table has a column and a row for each of these spans
pub record AreSizes (table : TableSizes) (for_columns for_rows : List Ends) : Type 0 where
  pub columns : table.columns ≡ length for_columns
  pub rows : table.rows ≡ length for_rows

abbrev pub IsSearch : Search → Type 0
IsSearch search = AreSizes search.table search.columns.items search.rows.items
