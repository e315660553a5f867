use Rattle.prove_peeling.specs.Shapes.{HasTable, IsPeelingRun}
use Rattle.prove_limits.specs.Budgets.{SpendsOn}
use Rattle.prove_peeling.proofs.lotteries.PeelingRun.tails.Given as goal

abbrev pub invariant-doublings : goal.invariant-doublings
invariant-doublings l = IsPeelingRun l.self × HasTable l.self × SpendsOn l.fn.budget l.budget
