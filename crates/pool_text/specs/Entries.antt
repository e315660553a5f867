-- The code's entries in the form of the definitions.
use Rattle.std.specs.Prelude.{map}
use Rattle.std.specs.Str.{IsUtf8}
use Rattle.define_bundles.specs.PoolReading as words
use Rattle.pool_text.specs.declared.entries.Entry.{Entry}
use Rattle.pool_text.specs.declared.entries.Entry.TheVariants.{Category, Value, Volunteer, Household, Standing, End, Unknown}

abbrev pub said : Entry → words.Entry
said (Category name) = words.OfCategory name.now
said (Value name lower upper) = words.OfValue (record { name = name.now; lower = lower; upper = upper })
said (Volunteer id values) = words.OfVolunteer id.now (map (λ name. name.now) values.now)
said (Household id name) = words.OfHousehold id.now name.now
said (Standing standing id) = words.OfStanding standing id.now
said End = words.TheEnd
said Unknown = words.Unknown

-- the new name or id of an entry is UTF-8 text
abbrev pub IsText : words.Entry → Type 0
IsText (words.OfCategory name) = IsUtf8 name
IsText (words.OfValue value) = IsUtf8 value.name
IsText (words.OfVolunteer id names) = IsUtf8 id
IsText (words.OfHousehold id name) = IsUtf8 name
IsText (words.OfStanding standing id) = Unit {0}
IsText words.TheEnd = Unit {0}
IsText words.Unknown = Unit {0}
