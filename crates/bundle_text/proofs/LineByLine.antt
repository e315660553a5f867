-- Reading a bundle's text one line at a time: a stop at a line is the stop of the whole reading. Also what `IsRight` says of the last
-- progress.
use Rattle.std.proofs.Common.{◌≡◌, ℕ, List, ◌∷◌, Result, Err, sym, subst}
use Rattle.define_lines.specs.Lines.{Fault, pieces_of}
use Rattle.define_lines.specs.Reading.{read_lines}
use Rattle.define_lines.proofs.LineByLine as reading
use Rattle.pool_model.specs.declared.building.BuildStop.{BuildStop}
use Rattle.pool_model.specs.declared.building.BuildStop.TheVariants.{Kind, OutOfMemory}
use Rattle.pool_text.specs.Answers.{Tells}
use Rattle.define_bundles.specs.BundleReading.{Progress, Begun, InPool, InRows, InStages, Done, line_kind, reader}
use Rattle.define_bundles.proofs.Spelled.{IsRight}
use Rattle.bundle_text.specs.declared.faults.ReadBundle.{ReadBundle}
use Rattle.bundle_text.specs.Answers.{Reads, stopped}
use Rattle.bundle_text.specs.Progress.{IsDoneRight}
use Rattle.define_bundles.specs.BundleText.{Bundle}

-- if the reading stops at a line, this stop is the answer for the whole text
pub stops_at : (T : Type 0) (number : ℕ) (progress : Progress) (rest line later : List ℕ) → pieces_of rest ≡ line ∷ pieces_of later → (wanted : Result Bundle Fault) →
    read_lines reader number progress (pieces_of rest) ≡ wanted → (stop : BuildStop) → Tells {T = T} (line_kind progress line) (Err stop) → (told : ReadBundle) → told ≡ stopped number stop → Reads wanted (Err told)
stops_at T number progress rest line later parted wanted same stop tells told e = subst (λ said. Reads wanted (Err said)) (sym e) (by stop tells)
  where
    by : (stop : BuildStop) → Tells {T = T} (line_kind progress line) (Err stop) → Reads wanted (Err (stopped number stop))
    by OutOfMemory h = tt
    by (Kind kind) h = reading.stops_at reader number progress rest line later parted wanted same kind h

-- if `IsRight` holds of a progress, so does `IsDoneRight`
pub done_right : (progress : Progress) → IsRight progress → IsDoneRight progress
done_right Begun right = tt
done_right (InPool version progress) right = tt
done_right (InRows pool lottery) right = tt
done_right (InStages pool answer) right = tt
done_right (Done bundle) right = right.in_ranges
