use Rattle.std.proofs.Common.{ap, subst}
use Rattle.define_searches.specs.Classes.{KeepsLimits}
use Rattle.panel_search.proofs.Kept.{fronts_kept}
use Rattle.panel_search.proofs.priced.PricedRow.pieces.Goals as goal

pub returns-clause-fronts : goal.returns-clause-fronts
returns-clause-fronts c =
    fronts_kept c.args.self.now.classes c.terms.result.classes.now c.terms.result.closed.now c.terms.result.row.now c.args.nodes c.pieces.result
    (subst KeepsLimits (ap (λ p. p.classes) c.self.view_is) c.facts.ensures) c.terms.ensures.classes c.pieces.ensures
