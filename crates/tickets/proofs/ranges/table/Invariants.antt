use Rattle.std.proofs.Common.{◌≡◌, take}
use Rattle.std.specs.Prelude.{sum}
use Rattle.define_draws.specs.Tickets.{weights_of}
use Rattle.tickets.proofs.Ends.{ends_of}
use Rattle.tickets.proofs.ranges.table.Given as goal

-- `ends` are the ends of the ranges of the rows read so far, and `end` is the last end, or 0 before the first row
abbrev pub invariant-loop-row : goal.invariant-loop-row
invariant-loop-row l = record {
  ends : l.ends.items ≡ ends_of 0 (take l.row-index (weights_of l.lottery));
  last : l.end ≡ sum (take l.row-index (weights_of l.lottery));
}
