use Rattle.prove_peeling.specs.Shapes.{HasTable, IsPeelingRun}
use Rattle.prove_limits.specs.Budgets.{SpendsOn}
use Rattle.prove_peeling.proofs.lotteries.PeelingRun.turns.Given as goal

abbrev pub invariant-loop-turn : goal.invariant-loop-turn
invariant-loop-turn l = IsPeelingRun l.self × HasTable l.self × SpendsOn l.fn.budget l.budget
