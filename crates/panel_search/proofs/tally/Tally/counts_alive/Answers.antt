use Rattle.std.proofs.Common.{◌+◌, ◌&&◌, leb, length, refl, sym, ap, ◌∙◌, arith, true}
use Rattle.define_searches.proofs.Tracking.{fit_same, fit_cells, small_same, few_later, small_held, most_small, each_same, some_same}
use Rattle.define_searches.proofs.Liveness.{front_live, front_dead}
use Rattle.panel_search.proofs.tally.Tally.counts_alive.Goals as goal

pub size_allows-requires : goal.size_allows-requires
size_allows-requires c =
    let all = c.args.classes.now in
    omega (arith, c.requires.stands.taken, c.requires.small, c.requires.stands.later_taken, most_small all (length c.args.front.now) (λ class. true) c.facts.ensures)

pub all_within_reach-requires-clause-held : goal.all_within_reach-requires-clause-held
all_within_reach-requires-clause-held c =
    fit_same _ c.args.classes.now.bounds _ c.args.self.now.held.items c.bounds.ensures c.deref.ensures.value (fit_cells c.args.classes.now _ c.facts.ensures c.requires.stands.held_cells)

pub all_within_reach-requires-clause-later : goal.all_within_reach-requires-clause-later
all_within_reach-requires-clause-later c =
    fit_same _ c.args.classes.now.bounds _ c.args.self.now.later.items c.bounds.ensures c.deref-then-size_allows.ensures.value (fit_cells c.args.classes.now _ c.facts.ensures c.requires.stands.later_cells)

pub all_within_reach-requires-clause-small : goal.all_within_reach-requires-clause-small
all_within_reach-requires-clause-small c =
    let all = c.args.classes.now in
    small_same _ (length all.bounds) _ c.args.self.now.held.items (ap length c.bounds.ensures) c.deref.ensures.value (small_held all c.args.front.now _ (length all.bounds) _ refl c.requires.small c.requires.stands)

pub all_within_reach-requires-clause-small_later : goal.all_within_reach-requires-clause-small_later
all_within_reach-requires-clause-small_later c =
    let all = c.args.classes.now in
    small_same _ (length all.bounds) _ c.args.self.now.later.items (ap length c.bounds.ensures) c.deref-then-size_allows.ensures.value (few_later all c.args.front.now (length c.args.front.now) (length all.bounds) _ c.facts.ensures refl c.requires.stands)

pub returns-then-size_allows : goal.returns-then-size_allows
returns-then-size_allows c =
    let all = c.args.classes.now in let self = c.args.self.now in
    front_live all c.args.front.now _ c.facts.ensures c.requires.stands
    (ap (λ n. leb self.taken n && leb n (self.taken + self.later_taken)) (sym c.size.ensures) ∙ (sym c.size_allows.ensures ∙ c.if-size_allows.true))
    c.all_within_reach.result
    (λ yes. each_same _ _ _ _ _ _ c.bounds.ensures c.deref.ensures.value c.deref-then-size_allows.ensures.value (c.all_within_reach.ensures.all yes))
    (λ no. some_same _ _ _ _ _ _ c.bounds.ensures c.deref.ensures.value c.deref-then-size_allows.ensures.value (c.all_within_reach.ensures.some no))

pub returns-else-size_allows : goal.returns-else-size_allows
returns-else-size_allows c =
    let self = c.args.self.now in
    c.if-size_allows.false ∙ sym (front_dead c.args.classes.now c.args.front.now _ c.requires.stands
    (ap (λ n. leb self.taken n && leb n (self.taken + self.later_taken)) (sym c.size.ensures) ∙ (sym c.size_allows.ensures ∙ c.if-size_allows.false)))
