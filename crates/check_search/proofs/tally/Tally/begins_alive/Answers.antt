use Rattle.std.proofs.Common.{◌≡◌, ℕ, ◌+◌, ◌&&◌, leb, length, [], refl, sym, ap, ◌∙◌, arith, true}
use Rattle.check_search.proofs.Liveness.{begins_reachable}
use Rattle.define_searches.proofs.Tracking.{fit_same, fit_cells, small_same, few_later, small_held, most_small, each_same, some_same}
use Rattle.define_searches.proofs.Liveness.{front_live, front_dead}
use Rattle.check_search.proofs.tally.Tally.begins_alive.Goals as goal
use Rattle.define_searches.proofs.FirstSearch.{taken_none}

pub size_allows-requires : goal.size_allows-requires
size_allows-requires c =
    let all = c.args.classes.now in
    omega (arith, c.requires.taken, taken_none (λ class. true) all.classes, c.requires.later_taken, most_small all 0 (λ class. true) c.facts.ensures)

pub all_within_reach-requires-clause-held : goal.all_within_reach-requires-clause-held
all_within_reach-requires-clause-held c =
    fit_same _ c.args.classes.now.bounds _ c.args.self.now.held.items c.bounds.ensures c.deref.ensures.value (fit_cells c.args.classes.now _ c.facts.ensures c.requires.held_cells)

pub all_within_reach-requires-clause-later : goal.all_within_reach-requires-clause-later
all_within_reach-requires-clause-later c =
    fit_same _ c.args.classes.now.bounds _ c.args.self.now.later.items c.bounds.ensures c.deref-then-size_allows.ensures.value (fit_cells c.args.classes.now _ c.facts.ensures c.requires.later_cells)

pub all_within_reach-requires-clause-small : goal.all_within_reach-requires-clause-small
all_within_reach-requires-clause-small c =
    let all = c.args.classes.now in
    small_same _ (length all.bounds) _ c.args.self.now.held.items (ap length c.bounds.ensures) c.deref.ensures.value
    (small_held all [] _ (length all.bounds) _ refl (omega (arith, taken_none (λ class. true) all.classes)) c.requires)

pub all_within_reach-requires-clause-small_later : goal.all_within_reach-requires-clause-small_later
all_within_reach-requires-clause-small_later c =
    let all = c.args.classes.now in
    small_same _ (length all.bounds) _ c.args.self.now.later.items (ap length c.bounds.ensures) c.deref-then-size_allows.ensures.value (few_later all [] 0 (length all.bounds) _ c.facts.ensures refl c.requires)

-- Taking 0 more members doesn't change the test of the size.
no_more : (taken later size size' : ℕ) → size' ≡ size → (leb taken size && leb size (taken + later)) ≡ (leb (taken + 0) size' && leb size' (taken + 0 + later))
no_more taken later size size' e =
    let same : taken + 0 ≡ taken = omega arith in
    ap (λ n. leb n size && leb size (n + later)) (sym same) ∙ ap (λ n. leb (taken + 0) n && leb n (taken + 0 + later)) (sym e)

pub returns-then-size_allows : goal.returns-then-size_allows
returns-then-size_allows c =
    let all = c.args.classes.now in
    front_live all [] _ c.facts.ensures c.requires
    (no_more c.args.self.now.taken _ _ _ c.size.ensures ∙ (sym c.size_allows.ensures ∙ c.if-size_allows.true))
    c.all_within_reach.result
    (λ yes. each_same _ _ _ _ _ _ c.bounds.ensures c.deref.ensures.value c.deref-then-size_allows.ensures.value (c.all_within_reach.ensures.all yes))
    (λ no. some_same _ _ _ _ _ _ c.bounds.ensures c.deref.ensures.value c.deref-then-size_allows.ensures.value (c.all_within_reach.ensures.some no))
    ∙ sym (begins_reachable all)

pub returns-else-size_allows : goal.returns-else-size_allows
returns-else-size_allows c =
    c.if-size_allows.false ∙ sym (begins_reachable c.args.classes.now ∙ front_dead c.args.classes.now [] _ c.requires
    (no_more c.args.self.now.taken _ _ _ c.size.ensures ∙ (sym c.size_allows.ensures ∙ c.if-size_allows.false)))
