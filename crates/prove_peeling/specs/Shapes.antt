-- How many columns and rows the tables of a `PanelMix` and of a `PeelingRun` have, and how many parts the run's remainders have.
-- The contracts of `tails` and `lotteries` cite it.
use Rattle.std.specs.Prelude.{◌≡◌, ◌+◌, length, IfSome}
use Rattle.prove_peeling.specs.declared.lotteries.PeelingRun.{PeelingRun}
use Rattle.prove_peeling.specs.declared.tails.PanelMix.{PanelMix}

-- a tail has a span for each column and row of its table; the table has a row for each volunteer in `moving`, and one for the total
pub record IsPanelMix (mix : PanelMix) : Type 0 where
  pub columns : length mix.columns.items ≡ mix.table.columns
  pub rows : length mix.rows.items ≡ mix.table.rows
  pub moving : mix.table.rows ≡ length mix.moving.items + 1

-- the remainder and the best remainder have a part for each column
pub record IsPeelingRun (run : PeelingRun) : Type 0 where
  pub remainder : length run.remainder.parts.items ≡ run.columns
  pub best : IfSome run.best (λ best. length best.parts.items ≡ run.columns)

-- the table has the run's columns, and a row for each of the run's rows
pub record HasTable (run : PeelingRun) : Type 0 where
  pub columns : run.table.columns ≡ run.columns
  pub rows : run.table.rows ≡ length run.rows.now.rows.items
