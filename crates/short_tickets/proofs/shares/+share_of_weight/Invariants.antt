use Rattle.short_tickets.proofs.shares.+share_of_weight.Given as goal

abbrev pub decreases-share_of_weight : goal.decreases-share_of_weight
decreases-share_of_weight l = l.tickets
