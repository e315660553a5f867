use Rattle.std.proofs.Common.{rules, ◌≡◌, length, ap, ◌∙◌}
use Rattle.panel_search.proofs.BestStepping.{begins_at}
use Rattle.panel_search.proofs.pricing.BestSearch.new.Goals as goal

pub returns-clause-begins : goal.returns-clause-begins
returns-clause-begins c =
    let all = c.args.terms.now.classes.now in
    let kept : length c.in_ok-vec.field-0.items ≡ length all.classes = search rules in
    begins_at all c.args.terms.now.closed.now c.args.terms.now.row.now c.args.front.now _ (c.in_ok-places_after.ensures.places ∙ ap length c.classes.ensures) kept
    c.requires.within c.in_ok-places_after.ensures.front c.requires.counts c.in_ok-at_front.ensures c.in_ok-new.ensures c.in_ok-all_weights.ensures
