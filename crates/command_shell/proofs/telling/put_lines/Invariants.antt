use Rattle.std.proofs.Common.{◌≡◌, length, take, ◌-◌, ◌≤◌}
use Rattle.std.specs.Io.KnownBytes.{Appends}
use Rattle.command_shell.proofs.telling.put_lines.Given as goal

-- the text before `start` went to out, which counted no fault
abbrev pub invariant-loop-start : goal.invariant-loop-start
invariant-loop-start g l = record {
  inside : l.start ≤ length l.text;
  none : g.O.Sink.faults l.out ≡ g.O.Sink.faults l.fn.out;
  written : Appends (g.O.Sink.written l.fn.out) (g.O.Sink.written l.out) (take l.start l.text);
}

abbrev pub decreases-loop-start : goal.decreases-loop-start
decreases-loop-start g l = length l.text - l.start
