use Rattle.std.proofs.Common.{◌≡◌, ◌++◌, map, take}
use Rattle.define_runs.specs.Spreading.{arcs}
use Rattle.alike.specs.Steps.{arc_row}
use Rattle.alike.proofs.spreading.push_arcs.Given as goal

abbrev pub invariant-loop-number : goal.invariant-loop-number
invariant-loop-number l = l.rows.items ≡ l.fn.rows.items ++ map (arc_row l.classes l.counts l.place_weight) (take l.number (arcs l.classes l.counts))
