-- How many columns the table of a `CapSearch` has, and how many spans of rows it keeps. The contracts of `caps` and `trees` cite it.
use Rattle.std.specs.Prelude.{◌≡◌, length}
use Rattle.prove_run.specs.declared.caps.CapSearch.{CapSearch}

-- the table has the program's columns, and there is a span for each of its rows
pub record IsCapSearch (search : CapSearch) : Type 0 where
  pub columns : search.table.columns ≡ length search.program.now.firsts
  pub rows : length search.rows.items ≡ search.table.rows
