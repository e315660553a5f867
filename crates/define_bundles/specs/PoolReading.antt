-- How bytes are read as the text of a pool: as the pool, or as the first faulty line and its lowest kind of fault. Builds on PoolText, on
-- Building of `define_pools`, and on Reading and Numbers of `define_lines`. `pool_text` reads this way, and the readings of bundles and
-- proofs include this one.
use Rattle.std.specs.Prelude.{ℕ, ◌+◌, ◌==◌, nat_lt, nat_le, if◌then◌else◌, Bool, true, false, not, ◌&&◌, ◌||◌, List, [], ◌∷◌, ◌++◌, bytes_eq, codes, Option, Some, None, Result, Ok, Err, unwrap_or, position}
use Rattle.std.specs.Str.{is_utf8}
use Rattle.define_pools.specs.declared.Limits.{Limits}
use Rattle.define_pools.specs.declared.Limits.TheVariants.{Usual, Large}
use Rattle.define_pools.specs.declared.Standing.{Standing}
use Rattle.define_pools.specs.declared.Standing.TheVariants.{Seated, Gone}
use Rattle.define_pools.specs.Pool.{Pool, BoundedValue, Volunteer, is_usual, most_members}
use Rattle.define_pools.specs.Building.{lowest_kind, size_kinds, empty_pool, category_kinds, category_added, value_kinds, value_added, volunteer_kinds, volunteer_added, standing_set, household_set, household_kinds}
use Rattle.define_lines.specs.Lines.{Fault, fields_of, pieces_of}
use Rattle.define_lines.specs.Numbers.{number_up_to}
use Rattle.define_lines.specs.Reading.{Reader, read_lines}
use Rattle.define_bundles.specs.declared.Passed.{Passed}
use Rattle.define_bundles.specs.declared.Version.{Version}
use Rattle.define_bundles.specs.declared.Version.TheVariants.{First, Second, Third}
use Rattle.define_bundles.specs.PoolText.{version_line}

-- the progress of a text after lines without a fault
pub data Progress : Type 0 where
  -- before the first line
  Begun : Progress
  -- after the first line, which says the version
  Versioned : (version : Version) → Progress
  -- after the size: the lines up to now make this pool
  Inside : (pool : Pool) (passed : Passed) → Progress
  -- after the end
  Ended : (pool : Pool) → Progress

-- a line after the size line, read by its first field and its number of fields
pub data Entry : Type 0 where
  OfCategory : (name : List ℕ) → Entry
  OfValue : (value : BoundedValue) → Entry
  OfVolunteer : (id : List ℕ) (names : List (List ℕ)) → Entry
  OfHousehold : (id : List ℕ) (name : List ℕ) → Entry
  OfStanding : (standing : Standing) (id : List ℕ) → Entry
  TheEnd : Entry
  Unknown : Entry

-- the words that a line after the size line may begin with
pub data Word : Type 0 where
  CategoryWord : Word
  ValueWord : Word
  VolunteerWord : Word
  HouseholdWord : Word
  StandingWord : (standing : Standing) → Word
  EndWord : Word

abbrev pub words : List (List ℕ × Word)
words =
    (codes "category", CategoryWord) ∷ (codes "value", ValueWord) ∷ (codes "volunteer", VolunteerWord)
    ∷ (codes "household", HouseholdWord) ∷ (codes "seated", StandingWord Seated) ∷ (codes "gone", StandingWord Gone) ∷ (codes "end", EndWord) ∷ []

-- the word of the list that `field` spells, if there is one
abbrev pub word_among : List (List ℕ × Word) → List ℕ → Option Word
word_among [] field = None
word_among ((spelled, word) ∷ later) field = if bytes_eq field spelled then Some word else word_among later field

-- the bound that a field spells, or 1000, which is no bound
abbrev pub bound_of : List ℕ → ℕ
bound_of field = unwrap_or (number_up_to 999 field) 1000

-- the entry of a word and the fields after it
abbrev pub entry_of_word : Word → List (List ℕ) → Entry
entry_of_word CategoryWord (name ∷ []) = OfCategory name
entry_of_word ValueWord (name ∷ lower ∷ upper ∷ []) = OfValue (record { name = name; lower = bound_of lower; upper = bound_of upper })
entry_of_word VolunteerWord (id ∷ names) = OfVolunteer id names
entry_of_word HouseholdWord (id ∷ name ∷ []) = OfHousehold id name
entry_of_word (StandingWord standing) (id ∷ []) = OfStanding standing id
entry_of_word EndWord [] = TheEnd
entry_of_word _ _ = Unknown

-- the entry of a line that begins with this word and has `fields` after it; unknown if it begins with none of the words
abbrev pub entry_behind : Option Word → List (List ℕ) → Entry
entry_behind None fields = Unknown
entry_behind (Some word) fields = entry_of_word word fields

-- the entry of a line with these fields
abbrev pub entry_of : List (List ℕ) → Entry
entry_of [] = Unknown
entry_of (first ∷ fields) = entry_behind (word_among words first) fields

-- the number of the volunteer who has this id
abbrev pub number_of : List Volunteer → List ℕ → Option ℕ
number_of volunteers id = position (λ volunteer. bytes_eq id volunteer.id) volunteers

-- true if there is a number, and it is at least `passed`: the volunteers 0 to `passed` - 1 have been passed
abbrev pub is_ahead : ℕ → Option ℕ → Bool
is_ahead passed None = false
is_ahead passed (Some number) = nat_le passed number

-- the limits of a pool whose text has this version
abbrev pub limits_in : Version → Limits
limits_in First = Usual
limits_in Second = Usual
limits_in Third = Large

-- a text of this version may have household lines
abbrev pub may_house : Version → Bool
may_house First = false
may_house Second = true
may_house Third = true

-- a text of this version has household lines
abbrev pub must_house : Version → Bool
must_house First = false
must_house Second = true
must_house Third = false

-- a text of this version has a pool beyond the usual limits
abbrev pub must_pass : Version → Bool
must_pass First = false
must_pass Second = false
must_pass Third = true

-- true in version 2 until the first household line: it must come before any standing line and before the end
abbrev pub awaits_household : Passed → Bool
awaits_household passed = must_house passed.version && passed.households == 0

-- true in version 3 while the pool is within the usual limits: volunteers must pass them before any other line
abbrev pub awaits_volunteers : Pool → Passed → Bool
awaits_volunteers pool passed = must_pass passed.version && is_usual pool

-- the kinds of fault that an entry may have, in rising order, each with whether it applies, given the pool so far and `passed`. They are
-- those of building a pool (`category_kinds` and so on), and two more. Kind 1: the entry is unknown, or it isn't allowed here: a volunteer
-- after a household or standing line, a household in version 1 or after a standing line, in version 2 a standing or the end before the
-- first household line, or in version 3 a household, a standing or the end while the pool is within the usual limits. Kind 9: a household line has an unknown id, or its volunteer doesn't come after that of the household line before;
-- or a standing line has an unknown id, or its volunteer doesn't come after that of the standing line before
abbrev pub entry_kinds : Pool → Passed → Entry → List (ℕ × Bool)
entry_kinds pool passed (OfCategory name) = category_kinds pool name
entry_kinds pool passed (OfValue value) = value_kinds pool value
entry_kinds pool passed (OfVolunteer id names) = (1, nat_lt 0 passed.households || nat_lt 0 passed.standings) ∷ volunteer_kinds (limits_in passed.version) pool id names
entry_kinds pool passed (OfHousehold id name) =
    (1, not (may_house passed.version) || nat_lt 0 passed.standings || awaits_volunteers pool passed)
    ∷ (9, not (is_ahead passed.households (number_of pool.volunteers id)))
    ∷ household_kinds name
entry_kinds pool passed (OfStanding standing id) =
    (1, awaits_household passed || awaits_volunteers pool passed) ∷ (9, not (is_ahead passed.standings (number_of pool.volunteers id))) ∷ []
entry_kinds pool passed TheEnd = (1, awaits_household passed || awaits_volunteers pool passed) ∷ []
entry_kinds pool passed Unknown = (1, true) ∷ []

abbrev pub entry_kind : Pool → Passed → Entry → Option ℕ
entry_kind pool passed entry = lowest_kind (entry_kinds pool passed entry)

-- the size within these limits that the fields of the second line give, or 0, which is no size
abbrev pub size_of : Limits → List (List ℕ) → ℕ
size_of limits (first ∷ field ∷ []) = if bytes_eq first (codes "size") then unwrap_or (number_up_to (most_members limits) field) 0 else 0
size_of limits _ = 0

-- the line is the first one of a text of some version
abbrev pub is_version_line : List ℕ → Bool
is_version_line line = bytes_eq line (version_line First) || bytes_eq line (version_line Second) || bytes_eq line (version_line Third)

-- the version that the first line says
abbrev pub version_said : List ℕ → Version
version_said line =
    if bytes_eq line (version_line Second) then Second else if bytes_eq line (version_line Third) then Third else First

-- the kinds of fault that a line may have, in rising order, each with whether it applies, given the progress before it. Kind 1: the first
-- line isn't a version line, or a line follows the end. Kind 2: the line after the version has no size. Each later line up to the end may
-- have the kinds of its entry, and kind 11: the line isn't UTF-8
abbrev pub line_kinds : Progress → List ℕ → List (ℕ × Bool)
line_kinds Begun line = (1, not (is_version_line line)) ∷ []
line_kinds (Versioned version) line = size_kinds (limits_in version) (size_of (limits_in version) (fields_of line))
line_kinds (Inside pool passed) line = entry_kinds pool passed (entry_of (fields_of line)) ++ (11, not (is_utf8 line)) ∷ []
line_kinds (Ended pool) line = (1, true) ∷ []

-- the lowest kind of fault of a line
abbrev pub line_kind : Progress → List ℕ → Option ℕ
line_kind progress line = lowest_kind (line_kinds progress line)

-- the progress after the household line of volunteer `number`
abbrev pub after_household : Pool → Passed → ℕ → List ℕ → Progress
after_household pool passed number name = Inside (household_set pool number name) (record passed { households = number + 1 })

-- the progress after the standing line of volunteer `number`
abbrev pub after_standing : Pool → Passed → ℕ → Standing → Progress
after_standing pool passed number standing = Inside (standing_set pool number standing) (record passed { standings = number + 1 })

-- the progress after an entry without a fault
abbrev pub after_entry : Pool → Passed → Entry → Progress
after_entry pool passed (OfCategory name) = Inside (category_added pool name) passed
after_entry pool passed (OfValue value) = Inside (value_added pool value) passed
after_entry pool passed (OfVolunteer id names) = Inside (volunteer_added pool id names) passed
after_entry pool passed (OfHousehold id name) = after_household pool passed (unwrap_or (number_of pool.volunteers id) 0) name
after_entry pool passed (OfStanding standing id) = after_standing pool passed (unwrap_or (number_of pool.volunteers id) 0) standing
after_entry pool passed TheEnd = Ended pool
after_entry pool passed Unknown = Inside pool passed

-- how far a text of this version has come before any household or standing line
abbrev pub none_passed : Version → Passed
none_passed version = record { version = version; households = 0; standings = 0 }

-- the progress after a line without a fault
abbrev pub after_line : Progress → List ℕ → Progress
after_line Begun line = Versioned (version_said line)
after_line (Versioned version) line = Inside (empty_pool (size_of (limits_in version) (fields_of line))) (none_passed version)
after_line (Inside pool passed) line = after_entry pool passed (entry_of (fields_of line))
after_line (Ended pool) line = Ended pool

-- the result at the end of the text, given the bytes after the last LF: the pool, or a fault. Kind 12: the end line is missing. Kind 1:
-- there are bytes after the end line
abbrev pub at_last : ℕ → Progress → List ℕ → Result Pool Fault
at_last number (Ended pool) [] = Ok pool
at_last number (Ended pool) (byte ∷ bytes) = Err (record { line = number; kind = 1 })
at_last number _ bytes = Err (record { line = number; kind = 12 })

-- how the lines of a pool's text are read
abbrev pub reader : Reader Progress Pool
reader = record { line_kind = line_kind; after_line = after_line; at_last = at_last }

-- the pool that the bytes spell, or their first fault
abbrev pub read : List ℕ → Result Pool Fault
read bytes = read_lines reader 1 Begun (pieces_of bytes)
