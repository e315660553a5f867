-- The closed rows that a pricer keeps, and a row that is priced over them. The contracts of `Pricer` and `PricedRow` cite it, and so does
-- Outcomes of `pricing_pool`.
use Rattle.std.specs.Prelude.{List, ◌∷◌}
use Rattle.define_rows.specs.Row.{Row}
use Rattle.define_searches.specs.Classes.{Classes}
use Rattle.define_searches.specs.Fronts.{HaveEntries, HaveReach}
use Rattle.define_searches.specs.Weights.{AreNarrow, EachNarrow}
use Rattle.panel_search.specs.Weights.{IsSummed, SumEach}
use Rattle.panel_search.specs.declared.greatest.Sums.{Sums}

-- the rows that a composition of the classes must attain
pub record ClosedRows : Type 0 where
  pub classes : Classes
  pub closed : List Row

-- each row has one entry per class and a reach below 2 ^ 127, and `sums` are the rows' greatest sums
pub record AreClosed (all : Classes) (closed : List Row) (sums : List Sums) : Type 0 where
  pub entries : HaveEntries all closed
  pub reaches : HaveReach all closed
  pub summed : SumEach all closed sums

-- a row, and the rows that a composition of the classes must attain
pub record Priced : Type 0 where
  pub classes : Classes
  pub closed : List Row
  pub row : Row

-- each row has one entry per class, every weight in the rows fits 128 bits, and `closed_sums` and `sums` are the rows' greatest sums
pub record ArePriced (all : Classes) (closed : List Row) (row : Row) (closed_sums : List Sums) (sums : Sums) : Type 0 where
  pub entries : HaveEntries all (row ∷ closed)
  pub narrow : AreNarrow all row.a
  pub closed_narrow : EachNarrow all closed
  pub summed : IsSummed all row sums
  pub closed_summed : SumEach all closed closed_sums
