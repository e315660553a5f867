use Rattle.define_searches.proofs.ClosedRows.{WeighedTo}
use Rattle.panel_search.specs.Weights.{weights_of}
use Rattle.panel_search.proofs.weighing.child_attains.Given as goal

abbrev pub invariant-loop-r : goal.invariant-loop-r
invariant-loop-r l = WeighedTo weights_of l.classes l.closed l.front l.count l.r l.weights
