use Rattle.std.proofs.Common.{◌≡◌, ◌-◌, ◌+◌, ◌≤◌, None, vec_len}
use Rattle.std.specs.Io.KnownBytes.{Consumes}
use Rattle.define_desk.specs.Requests.{head_size, most_of_head}
use Rattle.office_requests.specs.Needs.{LacksHead}
use Rattle.office_requests.proofs.Chains.{ComeFull}
use Rattle.office_requests.proofs.fronts.read_front.Given as goal

-- the bytes so far have no head, and each read so far took at least one of them
abbrev pub invariant-loop-room : goal.invariant-loop-room
invariant-loop-room g l = record {
  read : Consumes (g.L.Link.left l.fn.link) (g.L.Link.left l.link) l.bytes.items;
  headless : head_size l.bytes.items ≡ None;
  within : vec_len l.bytes ≤ most_of_head;
  reads : g.L.Link.reads l.link ≤ g.L.Link.reads l.fn.link + vec_len l.bytes;
  came : ComeFull g.L.Link.left g.L.Link.reads LacksHead l.fn.link l.link l.bytes.items;
  written : g.L.Link.written l.link ≡ g.L.Link.written l.fn.link;
  none : g.L.Link.faults l.link ≡ g.L.Link.faults l.fn.link;
}

abbrev pub decreases-loop-room : goal.decreases-loop-room
decreases-loop-room g l = most_of_head - vec_len l.bytes
