use Rattle.std.proofs.Common.{◌≡◌, ◌++◌, ◌∙◌, IsTrue, ap, subst, unsigned_abs, rules, Ok}
use Rattle.std.specs.Prelude.{Err}
use Rattle.sealed_draw.specs.Answers.{DrawSays}
use Rattle.std.proofs.lemmas.Result.{IfOk-weaker}
use Rattle.define_pools.specs.Pool.{Pool}
use Rattle.command_shell.specs.Answers.{saying}
use Rattle.define_draws.specs.Draw.{Drawn, draw}
use Rattle.define_draws.specs.Seal.{seal_of}
use Rattle.command_meanings.specs.Lines.{panel_line}
use Rattle.command_meanings.specs.Draw.{ticket_line}
use Rattle.define_draws.specs.Lines.{bundle_seal}
use Rattle.command_bundles.proofs.Members.{drawn_in_range}
use Rattle.command_bundles.proofs.Stopped.{refusal_is_told}
use Rattle.command_bundles.proofs.draw.drawn.Goals as goal

pub drawn_lines-requires-clause-panel : goal.drawn_lines-requires-clause-panel
drawn_lines-requires-clause-panel c =
    drawn_in_range c.args.bundle.now c.pool.result.now (unsigned_abs c.in-Ok.drawn.ticket) c.in-Ok.drawn.panel c.facts.ensures c.pool.ensures c.in-Ok.ensures.row

pub returns-in-Ok : goal.returns-in-Ok
returns-in-Ok c =
    let bundle = c.args.bundle.now in
    let given = c.args.given.now in
    let digits = c.args.digits.now in
    let yes : IsTrue c.total_agrees.result = search rules in
    let kept : c.deref.result.now ≡ bundle_seal bundle = c.deref.ensures ∙ (c.in_ok-kept.ensures.text ∙ ap seal_of c.requires) in
    let drawn : Drawn = record { ticket = unsigned_abs c.in-Ok.drawn.ticket; used = c.in-Ok.drawn.used; panel = c.in-Ok.drawn.panel } in
    let says = rw c.as_bytes.ensures.value at c.in-Ok.ensures.says.0 in
    record {
      drawn = drawn;
      total = c.total_agrees.ensures.0 yes;
      draws = subst (λ k. draw bundle.answer.lottery k given digits ≡ Ok drawn) kept says;
      lines = c.in_ok-drawn_lines-in-Ok.ensures ∙ ap (λ (pool : Pool). ticket_line drawn ++ panel_line pool drawn.panel) c.pool.ensures;
    }

pub returns : goal.returns
returns c =
    let bundle = c.args.bundle.now in
    let yes : IsTrue c.total_agrees.result = search rules in
    let kept : c.deref.result.now ≡ bundle_seal bundle = c.deref.ensures ∙ (c.in_ok-kept.ensures.text ∙ ap seal_of c.requires) in
    let says = subst (λ d. DrawSays bundle.answer.lottery c.deref.result.now c.args.given.now d (Err c.in-Err.stop)) c.as_bytes.ensures.value c.in-Err.ensures.says in
    IfOk-weaker c.stopped.result _ _
    (λ answer tells. refusal_is_told bundle c.deref.result.now c.args.given.now c.args.digits.now c.in-Err.stop (saying answer)
    (c.total_agrees.ensures.0 yes) kept says tells)
    c.stopped.ensures
