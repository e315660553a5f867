use Rattle.std.proofs.Common.{◌≡◌, ℤ, ◌++◌, ◌∙◌, IsTrue, ap, subst, unsigned_abs, arith, rules, Ok}
use Rattle.std.specs.Prelude.{Err, FitsSigned}
use Rattle.std.specs.Int.{w128}
use Rattle.sealed_draw.specs.Answers.{DrawSays, IsOfRow}
use Rattle.std.proofs.lemmas.Int.{ints, to_z-of_z}
use mir.Val.{of_z, to_z}
use Rattle.std.proofs.lemmas.Result.{IfOk-weaker}
use Rattle.define_pools.specs.Pool.{Pool}
use Rattle.command_shell.specs.Answers.{saying}
use Rattle.define_draws.specs.Draw.{Drawn, draw}
use Rattle.define_draws.specs.Seal.{seal_of}
use Rattle.define_draws.specs.Short.{shortened}
use Rattle.command_meanings.specs.Lines.{panel_line}
use Rattle.command_meanings.specs.Draw.{ticket_line}
use Rattle.define_draws.specs.Lines.{bundle_seal}
use Rattle.command_bundles.proofs.ShortDrawn.{short_drawn_in_range, short_refusal_is_told}
use Rattle.command_bundles.proofs.short_draw.drawn.Goals as goal

pub drawn_lines-requires-clause-panel : goal.drawn_lines-requires-clause-panel
drawn_lines-requires-clause-panel c =
    let bundle = c.args.bundle.now in
    let yes : IsTrue c.total_agrees.result = search rules in
    let fits : FitsSigned w128 c.number.result = search rules in
    let number : ℤ = to_z w128 (of_z w128 c.number.result) in
    let tickets : unsigned_abs number ≡ c.args.tickets = ap unsigned_abs (to_z-of_z w128 c.number.result fits ∙ c.number.ensures.value) in
    let row = subst (λ n. IsOfRow (shortened bundle.answer.lottery n) (unsigned_abs c.in-Ok.drawn.ticket) c.in-Ok.drawn.panel) tickets c.in-Ok.ensures.row in
    short_drawn_in_range bundle c.pool.result.now c.args.tickets (unsigned_abs c.in-Ok.drawn.ticket) c.in-Ok.drawn.panel c.facts.ensures c.pool.ensures
    (c.total_agrees.ensures.0 yes) (omega (arith, ints, c.number.ensures.from, c.number.ensures.value)) (omega (arith, ints, c.number.ensures.to, c.number.ensures.value)) row

pub returns-in-Ok : goal.returns-in-Ok
returns-in-Ok c =
    let bundle = c.args.bundle.now in
    let given = c.args.given.now in
    let digits = c.args.digits.now in
    let yes : IsTrue c.total_agrees.result = search rules in
    let kept : c.deref.result.now ≡ bundle_seal bundle = c.deref.ensures ∙ (c.in_ok-kept.ensures.text ∙ ap seal_of c.requires) in
    let fits : FitsSigned w128 c.number.result = search rules in
    let number : ℤ = to_z w128 (of_z w128 c.number.result) in
    let tickets : unsigned_abs number ≡ c.args.tickets = ap unsigned_abs (to_z-of_z w128 c.number.result fits ∙ c.number.ensures.value) in
    let drawn : Drawn = record { ticket = unsigned_abs c.in-Ok.drawn.ticket; used = c.in-Ok.drawn.used; panel = c.in-Ok.drawn.panel } in
    let says = rw c.as_bytes.ensures.value at c.in-Ok.ensures.says.0 in
    record {
      drawn = drawn;
      total = c.total_agrees.ensures.0 yes;
      draws = subst (λ n. draw (shortened bundle.answer.lottery n) (bundle_seal bundle) given digits ≡ Ok drawn) tickets
          (subst (λ k. draw (shortened bundle.answer.lottery (unsigned_abs number)) k given digits ≡ Ok drawn) kept says);
      lines = c.in_ok-drawn_lines-in-Ok.ensures ∙ ap (λ (pool : Pool). ticket_line drawn ++ panel_line pool drawn.panel) c.pool.ensures;
    }

pub returns : goal.returns
returns c =
    let bundle = c.args.bundle.now in
    let yes : IsTrue c.total_agrees.result = search rules in
    let kept : c.deref.result.now ≡ bundle_seal bundle = c.deref.ensures ∙ (c.in_ok-kept.ensures.text ∙ ap seal_of c.requires) in
    let fits : FitsSigned w128 c.number.result = search rules in
    let number : ℤ = to_z w128 (of_z w128 c.number.result) in
    let tickets : unsigned_abs number ≡ c.args.tickets = ap unsigned_abs (to_z-of_z w128 c.number.result fits ∙ c.number.ensures.value) in
    let says = subst (λ d. DrawSays (shortened bundle.answer.lottery (unsigned_abs number)) c.deref.result.now c.args.given.now d (Err c.in-Err.stop)) c.as_bytes.ensures.value c.in-Err.ensures.says in
    let short = subst (λ n. DrawSays (shortened bundle.answer.lottery n) c.deref.result.now c.args.given.now c.args.digits.now (Err c.in-Err.stop)) tickets says in
    IfOk-weaker c.stopped.result _ _
    (λ answer tells. short_refusal_is_told c.args.tickets bundle c.deref.result.now c.args.given.now c.args.digits.now c.in-Err.stop (saying answer)
    (c.total_agrees.ensures.0 yes) kept short tells)
    c.stopped.ensures
