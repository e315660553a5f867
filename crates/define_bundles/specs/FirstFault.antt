-- What the laws of this crate say about the first fault of a text: which lines begin the text of some pool, and which kind of fault is the
-- lowest. Builds on PoolText and PoolReading. Only these laws use it.
use Rattle.std.specs.Prelude.{◌≡◌, ℕ, ◌-◌, ◌==◌, ◌≤◌, ◌⊎◌, Bool, true, false, ◌&&◌, IsTrue, List, [], ◌++◌, take, slice_index_or}
use Rattle.std.specs.List.{fold, list_any}
use Rattle.define_pools.specs.Pool.{Pool, IsPool, is_usual, has_households}
use Rattle.define_lines.specs.Lines.{Fault, pieces_of, text_of}
use Rattle.define_bundles.specs.declared.Version.TheVariants.{Second, Third}
use Rattle.define_bundles.specs.PoolText.{spelling, lines_in}
use Rattle.define_bundles.specs.PoolReading.{Progress, Begun, after_line, line_kinds}

-- the bytes are the text of some pool
abbrev pub IsPoolText : List ℕ → Type 0
IsPoolText bytes = (pool : Pool) × IsPool pool × (bytes ≡ spelling pool)

-- the text of some pool begins with these lines
abbrev pub BeginsPoolText : List (List ℕ) → Type 0
BeginsPoolText lines = (pool : Pool) × (rest : List ℕ) × IsPool pool × (spelling pool ≡ text_of lines ++ rest)

-- `lines` are the lines, before the end line, of a pool without households, in version 2. They are right so far, but a household line must
-- come before the end
abbrev pub AwaitsHousehold : List (List ℕ) → Type 0
AwaitsHousehold lines = (pool : Pool) × IsPool pool × (has_households pool ≡ false) × (lines ≡ lines_in Second pool)

-- `lines` are the lines, before the end line, of a pool within the usual limits, in version 3. They are right so far, but more volunteers
-- must come before the end
abbrev pub AwaitsVolunteers : List (List ℕ) → Type 0
AwaitsVolunteers lines = (pool : Pool) × IsPool pool × (is_usual pool ≡ true) × (lines ≡ lines_in Third pool)

-- `lines` are right so far, but lack a household line of version 2, or volunteers of version 3
abbrev pub LacksLines : List (List ℕ) → Type 0
LacksLines lines = AwaitsHousehold lines ⊎ AwaitsVolunteers lines

-- the lines before the faulty one
abbrev pub lines_before : Fault → List ℕ → List (List ℕ)
lines_before fault bytes = take (fault.line - 1) (pieces_of bytes)

-- the lines before the faulty one, followed by the faulty one
abbrev pub lines_up_to : Fault → List ℕ → List (List ℕ)
lines_up_to fault bytes = take fault.line (pieces_of bytes)

-- `kind` is in the list and applies
abbrev pub applies_among : List (ℕ × Bool) → ℕ → Bool
applies_among kinds kind = list_any (λ one. (one.0 == kind) && one.1) kinds

-- `kind` is the lowest of the kinds in the list that apply
abbrev pub IsLowest : List (ℕ × Bool) → ℕ → Type 0
IsLowest kinds kind = IsTrue (applies_among kinds kind) × ((other : ℕ) → IsTrue (applies_among kinds other) → kind ≤ other)

-- the progress of a text after these lines
abbrev pub after_lines : Progress → List (List ℕ) → Progress
after_lines progress lines = fold after_line progress lines

-- the kinds that the faulty line may have, each with whether it applies
abbrev pub kinds_at : Fault → List ℕ → List (ℕ × Bool)
kinds_at fault bytes = line_kinds (after_lines Begun (lines_before fault bytes)) (slice_index_or (pieces_of bytes) (fault.line - 1) [])
