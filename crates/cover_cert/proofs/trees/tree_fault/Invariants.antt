use Rattle.std.proofs.Common.{◌≡◌, ◌+◌, ◌≤◌, [], Some, drop}
use Rattle.check_search.specs.Front.{Tracks}
use Rattle.define_covers.specs.CoverVerdict.{fault_from}
use Rattle.define_covers.specs.Counts.{BeginningFits}
use Rattle.cover_cert.proofs.trees.tree_fault.Given as goal

-- the first fault of all lines is the first fault of the lines that are left, from the place so far
abbrev pub invariant-loop-k : goal.invariant-loop-k
invariant-loop-k g l = record {
  begins : Tracks l.terms.classes [] l.terms.classes.classes l.tally;
  within : BeginningFits l.terms.classes l.place;
  same : fault_from l.terms.classes l.terms.closed.items l.terms.row l.number (Some []) l.lines
      ≡ fault_from l.terms.classes l.terms.closed.items l.terms.row (l.number + l.k) l.place (drop l.k l.lines);
  few : l.steps ≤ l.initial.steps + l.k;
}
