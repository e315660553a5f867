-- Reading a text one line at a time has the definition's result for the whole text.
use Rattle.std.proofs.Common.{◌≡◌, ℕ, ◌+◌, ◌≤◌, arith, List, [], ◌∷◌, Result, Ok, Err, refl, sym, subst, Some, None}
use Rattle.define_lines.specs.Lines.{Fault, fields_of, pieces_of}
use Rattle.define_lines.specs.Reading.{fault_or, read_lines}
use Rattle.define_lines.proofs.LineByLine as reading
use Rattle.pool_model.specs.declared.building.BuildStop.{BuildStop}
use Rattle.pool_model.specs.declared.building.BuildStop.TheVariants.{Kind, OutOfMemory}
use Rattle.pool_text.specs.Answers.{Reads, Tells, IsRightBefore, stopped}
use Rattle.define_bundles.specs.declared.Passed.{Passed}
use Rattle.define_bundles.specs.PoolReading.{Progress, Begun, Versioned, Inside, Ended, Entry, OfCategory, OfValue, OfVolunteer, OfHousehold, OfStanding, TheEnd, Unknown, entry_of, after_entry, line_kind, after_line, at_last, reader}
use Rattle.define_pools.specs.Pool.{Pool}
use Rattle.pool_text.specs.declared.faults.ReadPool.{ReadPool}
use Rattle.pool_text.specs.declared.faults.ReadPool.TheVariants.{OutOfMemory as Unread}
use Rattle.pool_text.specs.Progress.{line_due}

-- if the reading stops at a line, the stop is right for the whole text
pub stops_at : (T : Type 0) (number : ℕ) (progress : Progress) (rest line later : List ℕ) → pieces_of rest ≡ line ∷ pieces_of later → (wanted : Result Pool Fault) →
    read_lines reader number progress (pieces_of rest) ≡ wanted → (stop : BuildStop) → Tells {T = T} (line_kind progress line) (Err stop) → (told : ReadPool) → told ≡ stopped number stop → Reads wanted (Err told)
stops_at T number progress rest line later parted wanted same stop tells told e = subst (λ said. Reads wanted (Err said)) (sym e) (by stop tells)
  where
    by : (stop : BuildStop) → Tells {T = T} (line_kind progress line) (Err stop) → Reads wanted (Err (stopped number stop))
    by OutOfMemory h = tt
    by (Kind kind) h = reading.stops_at reader number progress rest line later parted wanted same kind h

-- if line `number` is an entry, and `number` is at least 3, line `number + 1` isn't too early for the progress after the entry
entry_due : (pool : Pool) (passed : Passed) (entry : Entry) (number : ℕ) → 3 ≤ number → line_due (after_entry pool passed entry) ≤ number + 1
entry_due pool passed (OfCategory name) number h = omega arith
entry_due pool passed (OfValue value) number h = omega arith
entry_due pool passed (OfVolunteer id names) number h = omega arith
entry_due pool passed (OfHousehold id name) number h = omega arith
entry_due pool passed (OfStanding standing id) number h = omega arith
entry_due pool passed TheEnd number h = omega arith
entry_due pool passed Unknown number h = omega arith

-- if the next line after `progress` can have the number `number`, the one after that line can have the number `number + 1`
pub next_due : (progress : Progress) (line : List ℕ) (number : ℕ) → line_due progress ≤ number → line_due (after_line progress line) ≤ number + 1
next_due Begun line number h = omega arith
next_due (Versioned version) line number h = omega arith
next_due (Inside pool passed) line number h = entry_due pool passed (entry_of (fields_of line)) number h
next_due (Ended pool) line number h = omega arith

-- if the text ends in line `number`, and the end is a fault, the fault's line is at least `number`
last_from : (number : ℕ) (progress : Progress) (bytes : List ℕ) → IsRightBefore number (at_last number progress bytes)
last_from number Begun bytes = omega arith
last_from number (Versioned version) bytes = omega arith
last_from number (Inside pool passed) bytes = omega arith
last_from number (Ended pool) [] = tt
last_from number (Ended pool) (byte ∷ bytes) = omega arith

pub earlier : (number other : ℕ) (r : Result Pool Fault) → number ≤ other → IsRightBefore other r → IsRightBefore number r
earlier number other (Ok pool) l h = tt
earlier number other (Err fault) l h = omega arith

pub reads_from : (number : ℕ) (progress : Progress) (pieces : List (List ℕ)) → IsRightBefore number (read_lines reader number progress pieces)
reads_from number progress [] = last_from number progress []
reads_from number progress (bytes ∷ []) = last_from number progress bytes
reads_from number progress (line ∷ next ∷ later) =
    elim (line_kind progress line) as (λ k. IsRightBefore number (fault_or k number (read_lines reader (number + 1) (after_line progress line) (next ∷ later)))) [
      | None ↦ earlier number (number + 1) (read_lines reader (number + 1) (after_line progress line) (next ∷ later)) (omega arith) (reads_from (number + 1) (after_line progress line) (next ∷ later))
      | Some kind ↦ omega arith
    ]

-- if the reader stops at a line because memory ran out, the builder stopped because memory ran out
pub memory_wanted : (stop : BuildStop) (number : ℕ) → stopped number stop ≡ Unread → stop ≡ OutOfMemory
memory_wanted OutOfMemory number h = refl
memory_wanted (Kind kind) number h = cc
