use Rattle.std.proofs.Common.{◌≡◌, ◌+◌, ◌≤◌, length}
use Rattle.define_lines.specs.Lines.{pieces_of}
use Rattle.define_lines.specs.Reading.{read_lines}
use Rattle.define_bundles.specs.PoolReading.{read, reader}
use Rattle.pool_text.specs.Progress.{seen, line_due}
use Rattle.pool_text.proofs.reading.read_lines.Given as goal

-- reading `rest` from `progress` has the result of reading the whole text. Line `number` is the first line of `rest`
abbrev pub invariant-loop-line : goal.invariant-loop-line
invariant-loop-line l = record {
  same : read_lines reader l.number (seen l.progress) (pieces_of l.rest) ≡ read l.fn.bytes;
  few : l.number + length l.rest ≤ length l.fn.bytes + 1;
  due : line_due (seen l.progress) ≤ l.number;
  count : length (pieces_of l.fn.bytes) + 1 ≡ l.number + length (pieces_of l.rest);
}

abbrev pub decreases-loop-line : goal.decreases-loop-line
decreases-loop-line l = length l.rest
