use Rattle.panel_search.proofs.pricing.BestSearch.+push_children.Given as goal

abbrev pub decreases-push_children : goal.decreases-push_children
decreases-push_children l = l.end
