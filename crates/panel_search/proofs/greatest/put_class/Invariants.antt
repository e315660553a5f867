use Rattle.std.proofs.Common.{◌≡◌, ◌+◌, ◌++◌, length, replicate}
use Rattle.define_searches.specs.Weights.{at, AreGreatest, units_from}
use Rattle.panel_search.proofs.greatest.put_class.Given as goal

abbrev pub invariant-loop-done : goal.invariant-loop-done
invariant-loop-done l = record {
  same : length l.sums ≡ length l.fn.sums;
  greatest : AreGreatest (replicate l.done (at l.entries l.place) ++ units_from l.classes l.entries (l.place + 1)) l.sums;
}
