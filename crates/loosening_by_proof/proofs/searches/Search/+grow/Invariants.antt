use Rattle.loosening_by_proof.proofs.searches.Search.+grow.Given as goal

-- how many nodes the budget has left
abbrev pub decreases-grow : goal.decreases-grow
decreases-grow l = l.budget.now.nodes
