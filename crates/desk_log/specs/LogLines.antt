-- The lines of a desk's log. The contracts of `desk_log` cite them.
use Rattle.std.specs.Prelude.{ℕ, List, ◌++◌, codes, eqb, Option, Some, None, if◌then◌else◌}
use Rattle.std.specs.Fmt.{decimal}
use Rattle.std.specs.Str.{bytes_eq}
use Rattle.std.specs.List.{starts_with}

-- the port at which the desk listens
abbrev pub listening_line : ℕ → List ℕ
listening_line port = codes "listening\t" ++ decimal port ++ codes "\n"

-- a visit: its route, and the status of the reply if it was written whole
abbrev pub visit_line : List ℕ → Option (List ℕ) → List ℕ
visit_line route (Some status) = codes "visit\t" ++ route ++ codes "\t" ++ status ++ codes "\n"
visit_line route None = codes "visit\t" ++ route ++ codes "\t" ++ codes "broken" ++ codes "\n"

-- the name of a path's route; `-` for any other path, so that the log has no word of a client
abbrev pub route_of : List ℕ → List ℕ
route_of path =
    if bytes_eq path (codes "/me") then codes "/me"
    else if bytes_eq path (codes "/me/seat") then codes "/me/seat"
    else if bytes_eq path (codes "/me/withdraw") then codes "/me/withdraw"
    else if starts_with eqb path (codes "/public/bundle/") then codes "/public/bundle"
    else if starts_with eqb path (codes "/public/draw/") then codes "/public/draw"
    else codes "-"
