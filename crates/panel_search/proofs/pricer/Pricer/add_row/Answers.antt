use Rattle.std.proofs.Common.{◌∷◌, [], sym, ap, subst}
use Rattle.define_searches.specs.Fronts.{HaveEntries, HaveReach}
use Rattle.panel_search.proofs.Kept.{closed_more}
use Rattle.panel_search.proofs.pricer.Pricer.add_row.Goals as goal

pub invariant_of-self-in-Ok : goal.invariant_of-self-in-Ok
invariant_of-self-in-Ok c =
    let same = sym (ap (λ p. p.classes) c.self.view_is) in
    let entries = subst (λ all. HaveEntries all (c.args.row ∷ [])) same c.requires.entries in
    let reach = subst (λ all. HaveReach all (c.args.row ∷ [])) same c.requires.reach in
    rw (c.in-Ok.ensures.items, c.in_ok-push.ensures.items)
    (closed_more c.self.inside.classes.now c.self.inside.closed.items c.self.inside.sums.items c.args.row c.in_ok-sums.sums c.self.invariant entries reach c.in_ok-sums.ensures)
