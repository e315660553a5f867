use Rattle.std.proofs.Common.{take, length}
use Rattle.define_runs.specs.Spreading.{is_given}
use Rattle.alike.specs.Steps.{AreMarked}
use Rattle.alike.proofs.arcs.mark_given.Given as goal

abbrev pub invariant-loop-class : goal.invariant-loop-class
invariant-loop-class l = AreMarked l.fn.given l.given (is_given l.places l.at (take (length l.yielded) l.classes.classes) (take (length l.yielded) l.counts))
