-- A search's table has the columns and rows of its program. The contracts of src/searches.rt, src/shrinking.rt and src/answers.rt cite it.
use Rattle.std.specs.Prelude.{◌≡◌, length}
use Rattle.quota_conflicts.specs.declared.searches.Search.{Search}

-- the table has the program's columns and rows
pub record IsSearch (search : Search) : Type 0 where
  pub columns : search.table.columns ≡ length search.program.firsts
  pub rows : search.table.rows ≡ length search.program.rows
