-- Reading a text line by line: a stop in a line, and the end.
use Rattle.std.proofs.Common.{◌≡◌, ℕ, List, ◌∷◌, Result, Err, sym, subst}
use Rattle.define_lines.specs.Lines.{Fault, pieces_of}
use Rattle.define_lines.specs.Reading.{read_lines}
use Rattle.define_lines.proofs.LineByLine as reading
use Rattle.pool_model.specs.declared.building.BuildStop.{BuildStop}
use Rattle.pool_model.specs.declared.building.BuildStop.TheVariants.{Kind, OutOfMemory}
use Rattle.pool_text.specs.Answers.{Tells}
use Rattle.define_covers.specs.Covers.{Cover}
use Rattle.define_covers.specs.CoverReading.{Progress, Begun, InBundle, InTrees, Closed, line_kind, reader}
use Rattle.define_covers.proofs.Spelled.{IsRight}
use Rattle.text_lines.specs.declared.faults.TextStop.{TextStop}
use Rattle.cover_text.specs.Stopped.{stopped}
use Rattle.cover_text.specs.Answers.{Reads}
use Rattle.cover_text.specs.Progress.{IsClosedRight}

-- if reading stops in a line, the stop is a right result for the whole text
pub stops_at : (T : Type 0) (number : ℕ) (progress : Progress) (rest line later : List ℕ) → pieces_of rest ≡ line ∷ pieces_of later → (wanted : Result Cover Fault) →
    read_lines reader number progress (pieces_of rest) ≡ wanted → (stop : BuildStop) → Tells {T = T} (line_kind progress line) (Err stop) → (told : TextStop) → told ≡ stopped number stop → Reads wanted (Err told)
stops_at T number progress rest line later parted wanted same stop tells told e = subst (λ said. Reads wanted (Err said)) (sym e) (by stop tells)
  where
    by : (stop : BuildStop) → Tells {T = T} (line_kind progress line) (Err stop) → Reads wanted (Err (stopped number stop))
    by OutOfMemory h = tt
    by (Kind kind) h = reading.stops_at reader number progress rest line later parted wanted same kind h

-- if a progress is right and closed, it holds a cover
pub closed_right : (progress : Progress) → IsRight progress → IsClosedRight progress
closed_right Begun right = tt
closed_right (InBundle progress) right = tt
closed_right (InTrees bundle whole lines) right = tt
closed_right (Closed cover) right = right
