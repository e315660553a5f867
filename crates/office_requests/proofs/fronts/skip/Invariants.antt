use Rattle.std.proofs.Common.{◌≡◌, ◌+◌, ◌≤◌, ℕ, List, length}
use Rattle.std.specs.Io.KnownBytes.{Consumes}
use Rattle.office_requests.specs.Needs.{LacksBytes}
use Rattle.office_requests.proofs.Chains.{ComeFull}
use Rattle.office_requests.proofs.fronts.skip.Given as goal

-- the bytes that were read and those still to be read are `count` in all; each read so far took at least one byte, while some were missing
abbrev pub invariant-loop-left : goal.invariant-loop-left
invariant-loop-left g l = record {
  read : (bytes : List ℕ) × Consumes (g.L.Link.left l.fn.link) (g.L.Link.left l.link) bytes × (length bytes + l.left ≡ l.count)
      × ComeFull g.L.Link.left g.L.Link.reads (LacksBytes l.count) l.fn.link l.link bytes;
  reads : g.L.Link.reads l.link + l.left ≤ g.L.Link.reads l.fn.link + l.count;
  written : g.L.Link.written l.link ≡ g.L.Link.written l.fn.link;
  none : g.L.Link.faults l.link ≡ g.L.Link.faults l.fn.link;
}

abbrev pub decreases-loop-left : goal.decreases-loop-left
decreases-loop-left g l = l.left
