use Rattle.prove_limits.specs.Budgets.{SpendsOn}
use Rattle.prove_run.specs.Shapes.{IsCapSearch}
use Rattle.prove_run.proofs.caps.CapSearch.lend_needed.Given as goal

abbrev pub invariant-stages : goal.invariant-stages
invariant-stages l = IsCapSearch l.few × SpendsOn l.fn.budget l.budget
