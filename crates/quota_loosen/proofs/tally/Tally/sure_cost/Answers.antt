use Rattle.std.proofs.Common.{length, refl, sym, ap, ◌∙◌, arith}
use Rattle.define_searches.proofs.Tracking.{few_later, fit_cells, fit_same, small_same}
use Rattle.quota_loosen.proofs.Liveness.{missed_is_cost, small_held}
use Rattle.quota_loosen.specs.Sums.{missed_in_all}
use Rattle.quota_loosen.proofs.tally.Tally.sure_cost.Goals as goal

pub missed_by_all-requires-clause-held : goal.missed_by_all-requires-clause-held
missed_by_all-requires-clause-held c =
    fit_same _ c.args.classes.now.bounds _ c.args.self.now.held.items c.bounds.ensures c.deref.ensures.value (fit_cells c.args.classes.now _ c.facts.ensures c.requires.stands.held_cells)

pub missed_by_all-requires-clause-later : goal.missed_by_all-requires-clause-later
missed_by_all-requires-clause-later c =
    fit_same _ c.args.classes.now.bounds _ c.args.self.now.later.items c.bounds.ensures c.deref-2.ensures.value (fit_cells c.args.classes.now _ c.facts.ensures c.requires.stands.later_cells)

pub missed_by_all-requires-clause-small : goal.missed_by_all-requires-clause-small
missed_by_all-requires-clause-small c =
    let all = c.args.classes.now in
    small_same _ (length all.bounds) _ c.args.self.now.held.items (ap length c.bounds.ensures) c.deref.ensures.value (small_held all c.args.front.now _ _ c.requires.small c.requires.stands)

pub missed_by_all-requires-clause-small_later : goal.missed_by_all-requires-clause-small_later
missed_by_all-requires-clause-small_later c =
    let all = c.args.classes.now in
    small_same _ (length all.bounds) _ c.args.self.now.later.items (ap length c.bounds.ensures) c.deref-2.ensures.value (few_later all c.args.front.now (length c.args.front.now) (length all.bounds) _ c.facts.ensures refl c.requires.stands)

pub returns : goal.returns
returns c =
    c.missed_by_all.ensures
    ∙ ap (λ bounds. missed_in_all bounds c.deref.result.now c.deref-2.result.now) c.bounds.ensures
    ∙ ap (λ held. missed_in_all c.args.classes.now.bounds held c.deref-2.result.now) c.deref.ensures.value
    ∙ ap (missed_in_all c.args.classes.now.bounds c.args.self.now.held.items) c.deref-2.ensures.value
    ∙ missed_is_cost c.args.classes.now c.args.front.now _ c.facts.ensures c.requires.stands
