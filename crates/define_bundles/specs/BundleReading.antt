-- How bytes are read as the text of a bundle: the bundle, or the first faulty line and its lowest kind of fault. Builds on BundleText and
-- the reading of pools. `bundle_text` reads this way, and the reading of proofs uses it.
use Rattle.std.specs.Prelude.{ℕ, ◌-◌, ◌^◌, nat_lt, if◌then◌else◌, Bool, true, false, not, ◌||◌, List, [], ◌∷◌, ◌++◌, length, bytes_eq, codes, ℤ, Option, Some, None, Result, Ok, Err, unwrap_or, is_some}
use Rattle.define_pools.specs.Pool.{Pool}
use Rattle.define_pools.specs.Lottery.{Lottery, LotteryRow}
use Rattle.define_pools.specs.Certificate.{Answer, Stage}
use Rattle.define_pools.specs.Building.{lowest_kind}
use Rattle.define_lines.specs.Lines.{Fault, fields_of, pieces_of}
use Rattle.define_lines.specs.Numbers.{number_up_to, signed_up_to}
use Rattle.define_lines.specs.Reading.{Reader, read_lines}
use Rattle.define_bundles.specs.declared.Version.{Version}
use Rattle.define_bundles.specs.declared.Version.TheVariants.{First, Second, Third}
use Rattle.define_bundles.specs.PoolText.{version_line}
use Rattle.define_bundles.specs.PoolReading as pools
use Rattle.define_bundles.specs.Ranges.{is_weight, is_row, is_stage}
use Rattle.define_bundles.specs.BundleText.{Bundle, bundle_line}

-- how far a bundle's text was read, if all its lines so far are right
pub data Progress : Type 0 where
  -- before the first line
  Begun : Progress
  -- after the first line, of this version: the progress of the pool's lines
  InPool : (version : Version) (progress : pools.Progress) → Progress
  -- after the line of the total: the pool, the total, and the rows of the panel lines so far
  InRows : (pool : Pool) (lottery : Lottery) → Progress
  -- after at least one stage line: the pool, its lottery, and the stages so far
  InStages : (pool : Pool) (answer : Answer) → Progress
  -- after the last line
  Done : (bundle : Bundle) → Progress

-- what a line after the total says
pub data AnswerLine : Type 0 where
  OfRow : (row : LotteryRow) → AnswerLine
  OfStage : (stage : Stage) → AnswerLine
  -- the line begins with `stage`, and isn't a right stage line
  FaultyStage : AnswerLine
  TheDone : AnswerLine
  Unknown : AnswerLine

-- the weight, if it is in range
abbrev pub weight_in_range : Option ℕ → Option ℕ
weight_in_range None = None
weight_in_range (Some weight) = if is_weight weight then Some weight else None

-- the number from 1 to 10^38 that a field spells
abbrev pub weight_of : List ℕ → Option ℕ
weight_of field = weight_in_range (number_up_to (10 ^ 38) field)

-- the number, then the numbers, as one list; None if the number or the numbers are missing
abbrev pub with_number : {A : Type 0} → Option A → Option (List A) → Option (List A)
with_number (Some number) (Some numbers) = Some (number ∷ numbers)
with_number _ _ = None

-- the numbers up to a limit that fields spell, if each spells one
abbrev pub numbers_up_to : ℕ → List (List ℕ) → Option (List ℕ)
numbers_up_to limit [] = Some []
numbers_up_to limit (field ∷ fields) = with_number (number_up_to limit field) (numbers_up_to limit fields)

-- the greatest absolute value of a number of a stage
abbrev pub stage_limit : ℕ
stage_limit = 2 ^ 127 - 1

-- the numbers with a sign that fields spell, if each spells one
abbrev pub signed_of : List (List ℕ) → Option (List ℤ)
signed_of [] = Some []
signed_of (field ∷ fields) = with_number (signed_up_to stage_limit field) (signed_of fields)

-- `OfRow` of the weight and the members, if both are there and in range for a pool of `volunteers` volunteers; else `Unknown`
abbrev pub row_of : ℕ → Option ℕ → Option (List ℕ) → AnswerLine
row_of volunteers (Some weight) (Some panel) =
    let row : LotteryRow = record { panel = panel; weight = weight } in if is_row volunteers row then OfRow row else Unknown
row_of volunteers _ _ = Unknown

-- `OfStage` of the cap and the weights, if both are there and in range for a pool of `volunteers` volunteers; else `FaultyStage`
abbrev pub stage_of : ℕ → Option ℤ → Option (List ℤ) → AnswerLine
stage_of volunteers (Some most) (Some weights) =
    let stage : Stage = record { weights = weights; cap = most } in if is_stage volunteers stage then OfStage stage else FaultyStage
stage_of volunteers _ _ = FaultyStage

-- what a line that begins with `panel` says, by its later fields, for a pool of `volunteers` volunteers
abbrev pub panel_said : ℕ → List (List ℕ) → AnswerLine
panel_said volunteers [] = Unknown
panel_said volunteers (weight ∷ members) = row_of volunteers (number_up_to (10 ^ 38) weight) (numbers_up_to volunteers members)

-- what a line that begins with `stage` says, by its later fields, for a pool of `volunteers` volunteers
abbrev pub stage_said : ℕ → List (List ℕ) → AnswerLine
stage_said volunteers [] = FaultyStage
stage_said volunteers (cap ∷ weights) = stage_of volunteers (signed_up_to stage_limit cap) (signed_of weights)

-- what a line that begins with `done` says, by its later fields
abbrev pub done_said : List (List ℕ) → AnswerLine
done_said [] = TheDone
done_said (field ∷ fields) = Unknown

-- what a line after the total says, by its fields, for a pool of `volunteers` volunteers
abbrev pub answer_line : ℕ → List (List ℕ) → AnswerLine
answer_line volunteers [] = Unknown
answer_line volunteers (first ∷ fields) =
    (if bytes_eq first (codes "panel") then panel_said volunteers fields
    else if bytes_eq first (codes "stage") then stage_said volunteers fields
    else if bytes_eq first (codes "done") then done_said fields
    else Unknown)

-- the total that the fields of its line spell
abbrev pub total_of : List (List ℕ) → Option ℕ
total_of (first ∷ field ∷ []) = if bytes_eq first (codes "total") then weight_of field else None
total_of _ = None

-- the kinds of fault of a line up to the total, given the progress of the pool's lines. 1: the pool's version isn't the bundle's; 14: the
-- line after the pool's end isn't that of a total
abbrev pub pool_kinds : Version → pools.Progress → List ℕ → List (ℕ × Bool)
pool_kinds version pools.Begun line = (1, not (bytes_eq line (version_line version))) ∷ []
pool_kinds version (pools.Versioned said) line = pools.line_kinds (pools.Versioned said) line
pool_kinds version (pools.Inside pool passed) line = pools.line_kinds (pools.Inside pool passed) line
pool_kinds version (pools.Ended pool) line = (14, not (is_some (total_of (fields_of line)))) ∷ []

-- the kind of fault of a line that follows the total or, if `behind` holds, a panel line. 15: neither a right panel line nor, after a
-- panel line, a line that begins with `stage`; 16: after a panel line, a faulty stage line
abbrev pub row_kinds : Bool → AnswerLine → List (ℕ × Bool)
row_kinds behind (OfRow row) = []
row_kinds behind (OfStage stage) = (15, not behind) ∷ []
row_kinds behind FaultyStage = (15, not behind) ∷ (16, behind) ∷ []
row_kinds behind TheDone = (15, true) ∷ []
row_kinds behind Unknown = (15, true) ∷ []

-- the kind of fault of a line after a stage line. 16: neither a right stage line nor the last line
abbrev pub stage_kinds : AnswerLine → List (ℕ × Bool)
stage_kinds (OfRow row) = (16, true) ∷ []
stage_kinds (OfStage stage) = []
stage_kinds FaultyStage = (16, true) ∷ []
stage_kinds TheDone = []
stage_kinds Unknown = (16, true) ∷ []

-- what a line after the total says, in a bundle of this pool
abbrev pub said_of : Pool → List ℕ → AnswerLine
said_of pool line = answer_line (length pool.volunteers) (fields_of line)

-- the line is the first one of a bundle's text of some version
abbrev pub is_bundle_line : List ℕ → Bool
is_bundle_line line = bytes_eq line (bundle_line First) || bytes_eq line (bundle_line Second) || bytes_eq line (bundle_line Third)

-- the version that the first line says
abbrev pub version_said : List ℕ → Version
version_said line =
    if bytes_eq line (bundle_line Second) then Second else if bytes_eq line (bundle_line Third) then Third else First

-- the kinds of fault that a line may have, in rising order, each with whether it applies, given the progress before it. 13: the first line
-- isn't a bundle's; 17: a line after the last
abbrev pub line_kinds : Progress → List ℕ → List (ℕ × Bool)
line_kinds Begun line = (13, not (is_bundle_line line)) ∷ []
line_kinds (InPool version progress) line = pool_kinds version progress line
line_kinds (InRows pool lottery) line = row_kinds (nat_lt 0 (length lottery.rows)) (said_of pool line)
line_kinds (InStages pool answer) line = stage_kinds (said_of pool line)
line_kinds (Done bundle) line = (17, true) ∷ []

-- the lowest kind of fault of a line
abbrev pub line_kind : Progress → List ℕ → Option ℕ
line_kind progress line = lowest_kind (line_kinds progress line)

-- the progress after a right line of the pool, or of the total
abbrev pub after_pool : Version → pools.Progress → List ℕ → Progress
after_pool version pools.Begun line = InPool version (pools.after_line pools.Begun line)
after_pool version (pools.Versioned said) line = InPool version (pools.after_line (pools.Versioned said) line)
after_pool version (pools.Inside pool passed) line = InPool version (pools.after_line (pools.Inside pool passed) line)
after_pool version (pools.Ended pool) line = InRows pool (record { total = unwrap_or (total_of (fields_of line)) 0; rows = [] })

-- the progress after a right line that follows the total or a panel line
abbrev pub after_row : Pool → Lottery → AnswerLine → Progress
after_row pool lottery (OfRow row) = InRows pool (record lottery { rows = lottery.rows ++ row ∷ [] })
after_row pool lottery (OfStage stage) = InStages pool (record { lottery = lottery; stages = stage ∷ [] })
after_row pool lottery FaultyStage = InRows pool lottery
after_row pool lottery TheDone = InRows pool lottery
after_row pool lottery Unknown = InRows pool lottery

-- the progress after a right line that follows a stage line
abbrev pub after_stage : Pool → Answer → AnswerLine → Progress
after_stage pool answer (OfRow row) = InStages pool answer
after_stage pool answer (OfStage stage) = InStages pool (record answer { stages = answer.stages ++ stage ∷ [] })
after_stage pool answer FaultyStage = InStages pool answer
after_stage pool answer TheDone = Done (record { pool = pool; answer = answer })
after_stage pool answer Unknown = InStages pool answer

-- the progress after a right line
abbrev pub after_line : Progress → List ℕ → Progress
after_line Begun line = InPool (version_said line) pools.Begun
after_line (InPool version progress) line = after_pool version progress line
after_line (InRows pool lottery) line = after_row pool lottery (said_of pool line)
after_line (InStages pool answer) line = after_stage pool answer (said_of pool line)
after_line (Done bundle) line = Done bundle

-- the kind of fault if the lines run out: 12 inside the pool's lines, else 17, also before the first line
abbrev pub missing_kind : Progress → ℕ
missing_kind Begun = 17
missing_kind (InPool version pools.Begun) = 12
missing_kind (InPool version (pools.Versioned said)) = 12
missing_kind (InPool version (pools.Inside pool passed)) = 12
missing_kind (InPool version (pools.Ended pool)) = 17
missing_kind (InRows pool lottery) = 17
missing_kind (InStages pool answer) = 17
missing_kind (Done bundle) = 17

-- the bundle, or the fault at the end of the text, given the bytes after the last LF. 17 also if there are bytes after the line `done`
abbrev pub at_last : ℕ → Progress → List ℕ → Result Bundle Fault
at_last number (Done bundle) [] = Ok bundle
at_last number progress bytes = Err (record { line = number; kind = missing_kind progress })

-- how the lines of a bundle's text are read
abbrev pub reader : Reader Progress Bundle
reader = record { line_kind = line_kind; after_line = after_line; at_last = at_last }

-- the bundle that the bytes spell, or their first fault
abbrev pub read_bundle : List ℕ → Result Bundle Fault
read_bundle bytes = read_lines reader 1 Begun (pieces_of bytes)
