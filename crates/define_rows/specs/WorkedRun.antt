-- A run with two classes of one volunteer each under a width of 2 bits; each step is computed from the definitions. `define_runs`
-- continues it.
use Rattle.std.specs.Prelude.{true, false, List, [], ◌∷◌, ℤ, pos, negsuc}
use Rattle.define_rows.specs.declared.Var.TheVariants.{Slack, Stage, Column}
use Rattle.define_rows.specs.Row.{Row}
use Rattle.define_rows.specs.Table.{Table}
use Rattle.define_rows.specs.Steps.{ColumnValue}

-- a row of two classes
abbrev pub row : ℤ → ℤ → ℤ → Row
row b first second = record { b = b; a = first ∷ second ∷ [] }

-- the first table, with the column (1, 0); nobody is settled
abbrev pub started : Table
started = record {
  sizes = 1 ∷ 1 ∷ [];
  rows = row (pos 1) (pos 0) (pos 0) ∷ row (pos 1) (pos 1) (pos 0) ∷ row (pos 0) (pos 0) (pos 1) ∷ [];
  basic = Column 0 ∷ Slack 0 ∷ Slack 1 ∷ [];
  columns = (1 ∷ 0 ∷ []) ∷ [];
  stages = [];
  closed = [];
  settled = false ∷ false ∷ [];
  in_stage = false;
  bits = 2;
  pivots = 0;
}

-- the table after the first stage was entered, in which both classes are unsettled
abbrev pub entered : Table
entered = record started { stages = (true ∷ true ∷ []) ∷ []; in_stage = true }

-- the table after the variable of stage 0 entered at row 2
abbrev pub once : Table
once = record entered {
  rows = row (pos 1) (pos 0) (pos 0) ∷ row (pos 1) (pos 1) (negsuc 0) ∷ row (pos 0) (pos 0) (pos 1) ∷ [];
  basic = Column 0 ∷ Slack 0 ∷ Stage 0 ∷ [];
  pivots = 1;
}

-- the table after the column (0, 1) was added
abbrev pub widened : Table
widened = record once { columns = (1 ∷ 0 ∷ []) ∷ (0 ∷ 1 ∷ []) ∷ [] }

-- the table after column 1 entered at row 1
abbrev pub twice : Table
twice = record widened {
  rows = row (pos 1) (negsuc 0) (pos 1) ∷ row (pos 1) (pos 1) (negsuc 0) ∷ row (pos 1) (pos 1) (pos 1) ∷ [];
  basic = Column 0 ∷ Column 1 ∷ Stage 0 ∷ [];
  pivots = 2;
}

-- the table after row 2 closed, which settled both classes
abbrev pub ended : Table
ended = record twice { closed = 2 ∷ []; settled = true ∷ true ∷ []; in_stage = false }

-- each column has the value 1/2
abbrev pub halves : List ColumnValue
halves = record { column = 0; side = 1; coefficient = 2 } ∷ record { column = 1; side = 1; coefficient = 2 } ∷ []
