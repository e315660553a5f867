-- The result of passing a line of a tree. Builds on Causes and FrontOrder of `define_covers`. Contracts of `cover_cert` cite it.
use Rattle.std.specs.Prelude.{ℕ, if◌then◌else◌, List, Option, Some, None, Result, Ok, Err}
use Rattle.define_rows.specs.Row.{Row}
use Rattle.define_searches.specs.Classes.{Classes}
use Rattle.define_covers.specs.Causes.{applies}
use Rattle.define_covers.specs.Covers.{FrontLine}
use Rattle.define_covers.specs.FrontOrder.{continues, turned}

-- how the line after `line` begins, or None if the tree ends with `line`, or the reason why `line` is refused
abbrev pub next : Classes → List Row → Row → Option (List ℕ) → FrontLine → Result (Option (List ℕ)) ℕ
next all closed row None line = Err 11
next all closed row (Some beginning) line =
    (if continues all.classes beginning line.front
    then (if applies all closed row line.front line.cause then Ok (turned all.classes line.front) else Err 12)
    else Err 11)
