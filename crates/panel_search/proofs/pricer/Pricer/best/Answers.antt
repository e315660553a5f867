use Rattle.std.proofs.Common.{◌≡◌, length, sym, ap, ◌∙◌, subst}
use Rattle.define_searches.specs.Compositions.{price}
use Rattle.define_searches.specs.Visits.{best_search}
use Rattle.define_searches.proofs.BestSearch.{search_keeps_price}
use Rattle.panel_search.proofs.Kept.{answers_kept}
use Rattle.panel_search.proofs.pricer.Pricer.best.Goals as goal

pub returns-clause-best : goal.returns-clause-best
returns-clause-best c =
    let all = c.self.inside.classes.now in let closed = c.self.inside.closed.items in let row = c.args.row.now in
    let terms = c.terms.result in
    let entries = subst (λ all. length row.a ≡ length all.classes) (sym (ap (λ p. p.classes) c.self.view_is)) c.requires.entries.0 in
    let priced = c.in_ok-priced.ensures in
    answers_kept (best_search terms.classes.now terms.closed.now terms.row.now) c.args.nodes _ c.search_best.result
    (ap (λ all. (best_search all terms.closed.now terms.row.now).kept) (c.terms.ensures.classes ∙ ap (λ p. p.classes) priced ∙ sym (ap (λ p. p.classes) c.self.view_is))
    ∙ ap (λ closed. (best_search all closed terms.row.now).kept) (c.terms.ensures.closed ∙ ap (λ p. p.closed) priced ∙ sym (ap (λ p. p.closed) c.self.view_is))
    ∙ ap (λ row. (best_search all closed row).kept) (c.terms.ensures.row ∙ ap (λ p. p.row) priced)
    ∙ search_keeps_price all closed row c.facts.ensures.searchable (entries, c.self.invariant.entries)
    ∙ ap (λ p. price p.classes p.closed row) c.self.view_is) c.search_best.ensures
