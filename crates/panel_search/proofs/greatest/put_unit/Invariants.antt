use Rattle.define_searches.proofs.UnitSums.{PutFrom}
use Rattle.panel_search.proofs.greatest.put_unit.Given as goal

abbrev pub invariant-loop-done : goal.invariant-loop-done
invariant-loop-done l = PutFrom l.units l.weight l.fn.sums l.done l.sums
