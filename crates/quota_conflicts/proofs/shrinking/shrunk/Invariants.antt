use Rattle.prove_limits.specs.Budgets.{SpendsOn}
use Rattle.quota_conflicts.specs.Searches.{IsSearch}
use Rattle.quota_conflicts.proofs.shrinking.shrunk.Given as goal

abbrev pub invariant-loop : goal.invariant-loop
invariant-loop l = record { search : IsSearch l.search; spends : SpendsOn l.fn.budget l.budget }
