use Rattle.std.proofs.Common.{reverse, refl, sym, ◌∙◌}
use Rattle.check_search.proofs.AboveCap.{none_above, panel_is, visits_within}
use Rattle.check_search.proofs.above_cap.panel_above_cap.Goals as goal

pub returns-in-Some : goal.returns-in-Some
returns-in-Some c =
    let pool = c.args.pool.now in let earlier = reverse c.args.earlier.now in let stage = c.args.stage.now in
    record {
      answers = (
        visits_within pool earlier earlier stage c.in_ok-terms.terms refl c.in_ok-terms.ensures.stage c.args.nodes c.in_ok-composition.ensures.0,
        panel_is pool earlier earlier stage c.in_ok-terms.terms refl c.in_ok-terms.ensures.stage _ _ (sym c.in-Some.is ∙ c.in_ok-composition.ensures.1) c.in_ok-first_panel-in-Some.ensures,
      );
    }

pub returns : goal.returns
returns c =
    let pool = c.args.pool.now in let earlier = reverse c.args.earlier.now in let stage = c.args.stage.now in
    record {
      answers = (
        visits_within pool earlier earlier stage c.in_ok-terms.terms refl c.in_ok-terms.ensures.stage c.args.nodes c.in_ok-composition.ensures.0,
        none_above pool earlier earlier stage c.in_ok-terms.terms refl c.in_ok-terms.ensures.stage (sym c.in-None.is ∙ c.in_ok-composition.ensures.1),
      );
    }
