use Rattle.define_searches.specs.Weights.{units_from}
use Rattle.panel_search.proofs.UnitsBeside.{IsBesideSome}
use Rattle.panel_search.proofs.units.units_beside.Given as goal

abbrev pub invariant-loop-i : goal.invariant-loop-i
invariant-loop-i l = IsBesideSome (units_from l.classes l.entries l.place) l.weight (units_from l.classes l.entries l.i) l.heavier l.sum l.no_lighter
