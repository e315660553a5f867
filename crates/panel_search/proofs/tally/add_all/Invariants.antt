use Rattle.std.proofs.Common.{take}
use Rattle.define_searches.specs.Front.{Gives}
use Rattle.panel_search.proofs.tally.add_all.Given as goal

abbrev pub invariant-loop-class : goal.invariant-loop-class
invariant-loop-class l = Gives l.fn.classes (take l.class-index l.fn.classes.classes) l.later_taken l.later
