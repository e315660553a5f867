use Rattle.std.proofs.Common.{◌≡◌, ℕ, List, Ok, ap, subst, ◌∙◌, rules}
use Rattle.bundle_page.specs.Drawn.{seen_draw}
use Rattle.bundle_page.specs.Page.{drawn_page_text}
use Rattle.define_draws.specs.Draw.{draw}
use Rattle.define_offices.specs.Pools.{lottery_in}
use Rattle.command_questions.proofs.Refusing.{refused_so}
use Rattle.command_questions.proofs.drawn_pages.drawn.Goals as goal

pub returns-in-Ok : goal.returns-in-Ok
returns-in-Ok c =
    let bundle = c.args.bundle.now in
    let digits = c.args.digits.now in
    let lottery = lottery_in c.args.tickets bundle.answer.lottery in
    let drawn = seen_draw c.in-Ok.drawn in
    record {
      drawn = drawn;
      total = c.requires.agrees;
      draws = subst (λ (k : List ℕ). draw lottery k k digits ≡ Ok drawn) c.requires.seal c.in-Ok.ensures.0;
      page = c.in_ok-page_of-in-Ok.ensures ∙ ap (λ s. drawn_page_text bundle s digits lottery.total drawn) c.requires.seal;
    }

pub returns : goal.returns
returns c =
    refused_so c.args.tickets c.args.digits.now c.args.seal.now c.args.bundle.now c.in-Err.field-0 c.refused.result c.requires.seal c.in-Err.ensures
    (λ wants. search rules) c.refused.ensures
