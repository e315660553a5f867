use Rattle.std.proofs.Common.{rules, sym, ap, ◌∙◌, subst, FitsSigned, of_z, to_z}
use Rattle.std.specs.Int.{w128}
use Rattle.std.proofs.lemmas.Int.{to_z-of_z}
use Rattle.define_searches.specs.Below.{IsFront, best_below, search_from}
use Rattle.define_searches.proofs.Below.{finds_best}
use Rattle.panel_search.proofs.Kept.{answers_kept}
use Rattle.panel_search.proofs.priced.PricedRow.best_from.Goals as goal

pub returns-clause-best : goal.returns-clause-best
returns-clause-best c =
    let all = c.self.inside.classes.now in let closed = c.self.inside.closed.now in let row = c.self.inside.row.now in let front = c.args.front.now in
    let terms = c.terms.result in
    let same = c.self.view_is in
    let fits : FitsSigned w128 c.args.floor = search rules in
    let floor = to_z-of_z w128 c.args.floor fits in
    answers_kept (search_from terms.classes.now terms.closed.now terms.row.now c.counts.result.now (to_z w128 (of_z w128 c.args.floor))) c.args.nodes _ c.search_from.result
    (ap (λ all. (search_from all terms.closed.now terms.row.now c.counts.result.now (to_z w128 (of_z w128 c.args.floor))).kept) (c.terms.ensures.classes ∙ sym (ap (λ p. p.classes) same))
    ∙ ap (λ closed. (search_from all closed terms.row.now c.counts.result.now (to_z w128 (of_z w128 c.args.floor))).kept) (c.terms.ensures.closed ∙ sym (ap (λ p. p.closed) same))
    ∙ ap (λ row. (search_from all closed row c.counts.result.now (to_z w128 (of_z w128 c.args.floor))).kept) (c.terms.ensures.row ∙ sym (ap (λ p. p.row) same))
    ∙ ap (λ front. (search_from all closed row front (to_z w128 (of_z w128 c.args.floor))).kept) c.counts.ensures
    ∙ ap (λ floor. (search_from all closed row front floor).kept) floor
    ∙ finds_best all closed row front c.args.floor c.facts.ensures.searchable c.self.invariant.entries (subst (λ all. IsFront all front) (sym (ap (λ p. p.classes) same)) c.requires)
    ∙ ap (λ p. best_below p.classes p.closed p.row front c.args.floor) same) c.search_from.ensures
