use Rattle.std.proofs.Common.{rules, [], pos, drop, length, ◌∙◌, refl, arith, subst, FitsSigned}
use Rattle.std.specs.Int.{int_max, w128}
use Rattle.std.proofs.lemmas.Int.{ints, clamps, to_z-of_z}
use Rattle.define_searches.specs.Compositions.{weight_in}
use Rattle.define_searches.specs.Below.{child_best}
use Rattle.panel_search.specs.Pricing.{pricing_of}
use Rattle.panel_search.specs.Sharing.{Shares, begun_at, priced_of}
use Rattle.panel_search.proofs.SharedAnswers.{begins_higher, begun_same, from_front_on, is_shared}
use Rattle.panel_search.proofs.SharedFronts.{below_front, front_part}
use Rattle.panel_search.proofs.SharedSearches.{no_part, then}
use Rattle.panel_search.proofs.sharing.search_sharing.Goals as goal

pub returns-clause-answers : goal.returns-clause-answers
returns-clause-answers g c =
    let all = c.args.terms.now.classes.now in let closed = c.args.terms.now.closed.now in let row = c.args.terms.now.row.now in
    let front = c.args.front.now in let floor = c.args.floor in let seen = c.args.seen.now in
    let new = c.in_ok-new.field-0 in
    let ended = c.below.new.self in
    let fits : FitsSigned w128 c.max-raised.result = search rules in
    let value = c.max-raised.ensures.value in
    let from = c.from.ensures in
    let begun = begun_same (pricing_of new) _ (int_max floor (pos seen)) c.in_ok-new.ensures.pricing (to_z-of_z w128 c.max-raised.result fits ∙ omega (arith, ints, clamps)) in
    let due = from_front_on (priced_of c.args.terms.now) front in
    let shares : Shares g.S.Scope.priced due (begun_at (int_max floor (pos seen))) seen (pricing_of ended.search) ended.seen =
    subst (λ now. Shares g.S.Scope.priced due now seen (pricing_of ended.search) ended.seen) begun
    (subst (λ f. Shares g.S.Scope.priced (child_best all closed row (drop (length front) all.classes) f) (pricing_of new) seen (pricing_of ended.search) ended.seen) c.in_ok-new.ensures.front c.in_ok-below.ensures.0) in
    let whole = then (weight_in row.a) (λ now. now) due [] (below_front all closed row c.requires.searchable c.requires.entries (length front) front) (no_part (weight_in row.a))
    (front_part all closed row c.requires.searchable c.requires.entries (length front) front refl c.requires.front.few) g.S.Scope.priced (begun_at floor) (begun_at (int_max floor (pos seen))) (pricing_of ended.search) 0 seen ended.seen
    (begins_higher g.S.Scope.priced floor seen c.requires.bounded.no_less c.requires.stands) shares in (
      is_shared g.S.Scope.priced (priced_of c.args.terms.now) front floor (pricing_of ended.search) ended.seen c.weighed_answer.result.0 c.weighed_answer.result.1 whole c.weighed_answer.ensures.found c.weighed_answer.ensures.visits,
      omega (arith, c.in_ok-below.ensures.1, c.in_ok-new.ensures.nodes, c.weighed_answer.ensures.visits),
    )
