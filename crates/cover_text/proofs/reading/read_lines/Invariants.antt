use Rattle.std.proofs.Common.{◌≡◌, ◌+◌, ◌≤◌, length}
use Rattle.define_lines.specs.Lines.{pieces_of}
use Rattle.define_lines.specs.Reading.{read_lines}
use Rattle.define_covers.specs.CoverReading.{read_cover, reader}
use Rattle.define_covers.proofs.Spelled.{IsRight}
use Rattle.cover_text.specs.Progress.{seen}
use Rattle.cover_text.proofs.reading.read_lines.Given as goal

-- reading the unread bytes from this progress returns what reading all bytes returns, and the progress is right
abbrev pub invariant-loop-line : goal.invariant-loop-line
invariant-loop-line l = record {
  same : read_lines reader l.number (seen l.progress) (pieces_of l.unread) ≡ read_cover l.fn.bytes;
  few : l.number + length l.unread ≤ length l.fn.bytes + 1;
  right : IsRight (seen l.progress);
}

abbrev pub decreases-loop-line : goal.decreases-loop-line
decreases-loop-line l = length l.unread
