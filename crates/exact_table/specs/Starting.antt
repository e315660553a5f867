-- What making the first table returns, and whether the operations of its rows' reaches stay within the width. Used by the modules
-- `starting` and `table`.
use Rattle.std.specs.Prelude.{◌≡◌, Result, Ok, Err, List, ℤ}
use Rattle.define_rows.specs.declared.Pass.{Pass}
use Rattle.define_rows.specs.Table.{Table}
use Rattle.exact_table.specs.declared.TableStop.{TableStop}
use Rattle.exact_table.specs.declared.TableStop.TheVariants.{OutOfMemory}

-- all steps stay within the width, or `pass` is the first operation that passes it
abbrev pub PassesWith : Result (Unit {0}) Pass → Result (List ℤ) Pass → Type 0
PassesWith (Ok x) steps = (reaches : List ℤ) × (steps ≡ Ok reaches)
PassesWith (Err pass) steps = steps ≡ Err pass

-- the table is the definition's, or `pass` is the first operation that passes the width by the definition, or memory ran out
abbrev pub IsStarted : Result Table TableStop → Result Table Pass → Type 0
IsStarted (Ok table) started = started ≡ Ok table
IsStarted (Err (TableStop.Pass pass)) started = started ≡ Err pass
IsStarted (Err OutOfMemory) started = Unit {0}
