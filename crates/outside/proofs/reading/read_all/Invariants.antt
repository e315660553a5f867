use Rattle.std.proofs.Common.{◌≡◌, ◌≤◌, ◌+◌, vec_len}
use Rattle.std.specs.Io.KnownBytes.{Consumes}
use Rattle.outside.proofs.reading.read_all.Given as goal

-- each turn so far made one read, which took at least one byte and counted no fault, and the bytes so far are what the source lost from its
-- front
abbrev pub invariant-loop-turn : goal.invariant-loop-turn
invariant-loop-turn g l = record {
  turns : l._turn ≤ vec_len l.bytes;
  within : vec_len l.bytes ≤ l.limit;
  reads : g.S.Source.reads l.source ≤ g.S.Source.reads l.fn.source + l._turn;
  none : g.S.Source.faults l.source ≡ g.S.Source.faults l.fn.source;
  taken : Consumes (g.S.Source.left l.fn.source) (g.S.Source.left l.source) l.bytes.items;
}
