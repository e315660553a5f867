use Rattle.define_searches.proofs.Adding.{SharesUpTo}
use Rattle.panel_search.proofs.tallies.take_from.Given as goal

abbrev pub invariant-loop-category : goal.invariant-loop-category
invariant-loop-category l = SharesUpTo l.category l.fn.values l.fn.count l.cells l.fn.cells
