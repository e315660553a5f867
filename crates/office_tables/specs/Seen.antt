-- The tables that are made of given parts, and what `tables_of` may return for them.
use Rattle.std.specs.Prelude.{◌≡◌, ℕ, nat_le, Bool, ◌&&◌, List, length, Option, Some, None, Result, Ok, Err, ⊤}
use Rattle.std.specs.List.{list_all}
use Rattle.std.specs.declared.alloc.AllocError.{AllocError}
use Rattle.define_pools.specs.Lists.{all_different}
use Rattle.define_pools.specs.Pool.{Category}
use Rattle.define_offices.specs.Facts.{IsTables, entry_hashes, entry_ids, is_entry, rows_fit}
use Rattle.define_offices.specs.Tables.{Entry, Tables}
use Rattle.office_tables.specs.declared.tables.Parts.{Parts}

-- the facts of a register of at most `most` rows under `rules`, as one test
abbrev pub register_test : ℕ → Option (List Category) → List Entry → Bool
register_test most rules register =
    nat_le (length register) most && list_all is_entry register && rows_fit rules register && all_different (entry_ids register) && all_different (entry_hashes register)

-- the tables of these parts
abbrev pub seen_parts : Parts → Tables
seen_parts parts = record { charter = parts.charter; rules = parts.rules; register = parts.register.items; rounds = parts.rounds.items; bounds = parts.bounds }

-- what `tables_of` may return: the tables of these parts if `IsTables` holds of them, else None; running out of memory is allowed at any
-- time
abbrev pub TellsTables : Tables → Result (Option Tables) AllocError → Type 0
TellsTables parts (Ok (Some tables)) = (tables ≡ parts) × IsTables parts
TellsTables parts (Ok None) = ¬ IsTables parts
TellsTables parts (Err error) = ⊤
