use Rattle.prove_run.specs.Shapes.{IsCapSearch}
use Rattle.prove_run.proofs.caps.CapSearch.begin_anew.Given as goal

abbrev pub invariant-stages : goal.invariant-stages
invariant-stages l = IsCapSearch l.anew
