-- The greatest sums and the weights that the code keeps, as the lists of `define_searches`.
use Rattle.std.specs.Prelude.{ℕ, List, ℤ}
use Rattle.define_rows.specs.Row.{Row}
use Rattle.define_searches.specs.Classes.{Classes}
use Rattle.define_searches.specs.Weights as laws
use Rattle.panel_search.specs.declared.greatest.Sums.{Sums}
use Rattle.panel_search.specs.declared.weighing.Weights.{Weights}

-- the table of the greatest sums
abbrev pub table_of : Sums → List ℤ
table_of sums = sums.cells.items

-- the weights of a front's prefixes: the entry at k is the weight of the first k counts
abbrev pub weights_of : Weights → List ℤ
weights_of weights = weights.by_length.items

-- the table `sums` holds the greatest sums of units in `row`
abbrev pub IsSummed : Classes → Row → Sums → Type 0
IsSummed all row sums = laws.IsSummed all row (table_of sums)

-- each of the rows has its table of greatest sums, in the rows' order
abbrev pub SumEach : Classes → List Row → List Sums → Type 0
SumEach = laws.SumEach table_of

-- `weights` are the weights in `row` of `front` and of each shorter prefix
abbrev pub Weighs : Classes → Row → List ℕ → Weights → Type 0
Weighs all row front weights = laws.Weighs all row front (weights_of weights)

-- each row has its weights, in the rows' order: those of `front` and of each shorter prefix in that row
abbrev pub WeighEach : Classes → List Row → List ℕ → List Weights → Type 0
WeighEach = laws.WeighEach weights_of
