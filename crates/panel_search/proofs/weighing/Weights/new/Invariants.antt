use Rattle.std.proofs.Common.{take}
use Rattle.panel_search.specs.Weights.{Weighs}
use Rattle.panel_search.proofs.weighing.Weights.new.Given as goal

abbrev pub invariant-loop-depth : goal.invariant-loop-depth
invariant-loop-depth l = Weighs l.classes l.row (take l.depth l.front) l.weights
