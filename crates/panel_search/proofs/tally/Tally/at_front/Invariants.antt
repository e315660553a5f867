use Rattle.std.proofs.Common.{take, drop}
use Rattle.panel_search.specs.Front.{Tracks}
use Rattle.panel_search.proofs.tally.Tally.at_front.Given as goal

abbrev pub invariant-loop-depth : goal.invariant-loop-depth
invariant-loop-depth l = Tracks l.classes (take l.depth l.front) (drop l.depth l.classes.classes) l.tally
