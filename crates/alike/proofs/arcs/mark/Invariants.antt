use Rattle.std.proofs.Common.{take}
use Rattle.define_pools.specs.Lists.{includes}
use Rattle.alike.specs.Steps.{AreMarked}
use Rattle.alike.proofs.arcs.mark.Given as goal

abbrev pub invariant-loop-member : goal.invariant-loop-member
invariant-loop-member l = AreMarked l.fn.given l.given (includes (take l.member-index l.members))
