use Rattle.std.proofs.Common.{◌≡◌, length}
use Rattle.prove_limits.specs.Budgets.{SpendsOn}
use Rattle.prove_stages.proofs.relaxed.settled.Given as goal

abbrev pub invariant-loop-earlier : goal.invariant-loop-earlier
invariant-loop-earlier l = (l.table.rows ≡ length l.program.rows) × (l.table.columns ≡ length l.program.firsts) × (length l.chances.chances ≡ length l.program.firsts) × SpendsOn l.fn.budget l.budget
