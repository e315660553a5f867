use Rattle.std.proofs.Common.{◌≡◌, take}
use Rattle.panel_search.proofs.pricer.pricer_of.Given as goal

-- the pricer has the rows so far
abbrev pub invariant-loop-row : goal.invariant-loop-row
invariant-loop-row l = l.pricer ≡ record { classes = l.fn.classes; closed = take l.row-index l.closed }
