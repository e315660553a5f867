use Rattle.prove_peeling.specs.Shapes.{HasTable, IsPeelingRun}
use Rattle.prove_limits.specs.Budgets.{SpendsOn}
use Rattle.prove_peeling.proofs.lotteries.PeelingRun.lottery.Given as goal

abbrev pub invariant-loop-round : goal.invariant-loop-round
invariant-loop-round l = IsPeelingRun l.self × HasTable l.self × SpendsOn l.fn.budget l.budget
