use Rattle.std.proofs.Common.{◌≡◌, ◌+◌, ◌≤◌, length}
use Rattle.define_lines.specs.Lines.{pieces_of}
use Rattle.define_lines.specs.Reading.{read_lines}
use Rattle.define_bundles.specs.BundleReading.{read_bundle, reader}
use Rattle.define_bundles.proofs.Spelled.{IsRight}
use Rattle.bundle_text.specs.Progress.{seen}
use Rattle.bundle_text.proofs.reading.read_lines.Given as goal

-- reading the rest from this progress gives what reading the whole text gives, the line's number is at most one more than the number of
-- bytes read so far, and `IsRight` holds of the progress
abbrev pub invariant-loop-line : goal.invariant-loop-line
invariant-loop-line l = record {
  same : read_lines reader l.number (seen l.progress) (pieces_of l.rest) ≡ read_bundle l.fn.bytes;
  few : l.number + length l.rest ≤ length l.fn.bytes + 1;
  right : IsRight (seen l.progress);
}

abbrev pub decreases-loop-line : goal.decreases-loop-line
decreases-loop-line l = length l.rest
