use Rattle.std.proofs.Common.{◌≤◌}
use Rattle.panel_search.proofs.Division.{GoesOn}
use Rattle.panel_search.proofs.dividing.pieces.Given as goal

-- `fronts` are the live fronts of the first `depth` classes, and `visits` are the visits to the shorter fronts
abbrev pub invariant-loop-depth : goal.invariant-loop-depth
invariant-loop-depth l = (l.visits ≤ l.nodes) × GoesOn l.terms.classes.now l.terms.closed.now l.terms.row.now l.depth l.visits l.fronts.items
