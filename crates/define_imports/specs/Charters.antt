-- How a file is read as a charter: a document of TOML with a string `title` and a whole number `size`, and, if the register takes another
-- number of rows than 400, a whole number `volunteers`. Further keys are passed over. Builds on the reading of TOML that the toolchain's
-- `toml` defines, and on Cells for faults.
use Rattle.std.specs.Prelude.{ℕ, ℤ, pos, negsuc, if◌then◌else◌, not, ◌&&◌, List, codes, Option, Some, None, Result, Ok, Err, option_and_then, option_map, unwrap_or}
use Rattle.std.specs.Str.{is_utf8}
use Rattle.toml.specs.Data.{Data, Members, as_integer, as_str, get_member}
use Rattle.toml.specs.Parse.{parse_document}
use Rattle.define_pools.specs.Pool.{is_name, is_size, limits_for}
use Rattle.define_offices.specs.Facts.{is_most}
use Rattle.define_offices.specs.Tables.{Charter}
use Rattle.define_imports.specs.Cells.{Fault}

-- a fault of a charter: its place is always 0
abbrev pub fault : ℕ → Result Charter Fault
fault kind = Err (record { place = 0; kind = kind })

-- the whole number as a size or a number of rows; for a negative number 0, which is neither
abbrev pub size_of : ℤ → ℕ
size_of (pos number) = number
size_of (negsuc number) = 0

-- how many rows the register takes: the whole number at the key `volunteers`, 400 without the key, and 0, which is no number of rows, if the
-- value is no whole number
abbrev pub volunteers_of : Option Data → ℕ
volunteers_of None = 400
volunteers_of (Some value) = unwrap_or (option_map size_of (as_integer value)) 0

-- the charter of a title, a size and a number of rows, or its fault. 4: the title isn't allowed as a name; 6: the number of rows isn't from
-- 1 to 4,000, or the size isn't from 1 to 200, or to 1,000 if there are more than 400 rows
abbrev pub judged : List ℕ → ℕ → ℕ → Result Charter Fault
judged title size volunteers =
    if not (is_name title) then fault 4
    else if not (is_most volunteers && is_size (limits_for volunteers) size) then fault 6
    else Ok (record { title = title; size = size; volunteers = volunteers })

-- the charter of the title, the size and the number of rows that were found, or its fault. 2: there is no title, or it isn't a string; 3:
-- there is no size, or it isn't a whole number
abbrev pub charter_of_parts : Option (List ℕ) → Option ℤ → ℕ → Result Charter Fault
charter_of_parts None size volunteers = fault 2
charter_of_parts (Some title) None volunteers = fault 3
charter_of_parts (Some title) (Some size) volunteers = judged title (size_of size) volunteers

-- the charter of a document of TOML, or its fault. 1: the text is no document of TOML
abbrev pub charter_of : Option Members → Result Charter Fault
charter_of None = fault 1
charter_of (Some table) =
    charter_of_parts (option_and_then as_str (get_member (codes "title") table)) (option_and_then as_integer (get_member (codes "size") table))
    (volunteers_of (get_member (codes "volunteers") table))

-- the charter of the bytes, or the lowest kind of fault that they have. 1: they aren't UTF-8. `parse_document` passes over a mark of the
-- byte order at the front
abbrev pub read_charter : List ℕ → Result Charter Fault
read_charter bytes = if is_utf8 bytes then charter_of (parse_document bytes) else fault 1
