-- The lines of `panel` and `lottery`; `make`, `draw` and `loosen` print some of them too. Builds on the shell's lines and the tables of a
-- run. Panel, Lottery and Draw cite them, and so do the meanings of `loosen` and of the commands over a store.
use Rattle.std.specs.Prelude.{ℕ, List, [], ◌∷◌, ◌++◌, length, codes, Option, Some, None}
use Rattle.std.specs.Fmt.{decimal, signed_decimal}
use Rattle.define_lines.specs.Lines.{text_of}
use Rattle.define_pools.specs.Pool.{Pool}
use Rattle.define_draws.specs.Lines.{panel_line as line_of_panel}
use Rattle.define_rows.specs.declared.Op.{Op}
use Rattle.define_rows.specs.declared.Op.TheVariants.{Mul, Sub, Add}
use Rattle.define_rows.specs.declared.Pass.{Pass}
use Rattle.define_rows.specs.Table.{Table}
use Rattle.define_runs.specs.Spreading.{TotalPass}
use Rattle.command_shell.specs.Lines.{line}

-- the line of a panel, the ids of its members, with its LF
abbrev pub panel_line : Pool → List ℕ → List ℕ
panel_line pool panel = text_of (line_of_panel pool panel ∷ [])

-- how far a run got: how many stages, columns and pivots its table has; three zeros before there is a table
abbrev pub place : Option Table → List (List ℕ)
place None = codes "0" ∷ codes "0" ∷ codes "0" ∷ []
place (Some table) = decimal (length table.stages) ∷ decimal (length table.columns) ∷ decimal table.pivots ∷ []

abbrev pub operation : Op → List ℕ
operation Mul = codes "mul"
operation Sub = codes "sub"
operation Add = codes "add"

-- the line of an operation that passes the width: how far the run got, the row, the operation and its two numbers
abbrev pub wide_line : Option Table → Pass → List ℕ
wide_line stood pass =
    line (codes "wide" ∷ (place stood ++ decimal pass.row ∷ operation pass.op ∷ signed_decimal pass.x ∷ signed_decimal pass.y ∷ []))

-- the line of a total that passes 10 ^ 38: the number of the composition whose fraction makes it pass, the total before this composition,
-- and the denominator of its fraction
abbrev pub total_line : TotalPass → List ℕ
total_line pass = line (codes "wide" ∷ codes "total" ∷ decimal pass.place ∷ decimal pass.total ∷ decimal pass.den ∷ [])

-- the line of a spent budget: its name, its limit, and how far the run got
abbrev pub spent_line : List ℕ → ℕ → Option Table → List ℕ
spent_line budget limit stood = line (codes "spent" ∷ budget ∷ decimal limit ∷ place stood)

abbrev pub pivots_spent_line : ℕ → Option Table → List ℕ
pivots_spent_line pivots stood = spent_line (codes "pivots") pivots stood

abbrev pub nodes_spent_line : ℕ → Option Table → List ℕ
nodes_spent_line nodes stood = spent_line (codes "nodes") nodes stood
