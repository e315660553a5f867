use Rattle.std.proofs.Common.{◌≡◌, take, length}
use Rattle.define_runs.specs.Spreading.{partly_taken}
use Rattle.alike.proofs.dials.partly_taken.Given as goal

abbrev pub invariant-loop-class : goal.invariant-loop-class
invariant-loop-class l = l.sizes.items ≡ partly_taken (take (length l.yielded) l.groups) (take (length l.yielded) l.counts)
