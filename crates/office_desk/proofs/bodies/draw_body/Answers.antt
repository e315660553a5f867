use Rattle.std.proofs.Common.{ap, ◌∙◌, option_map, string_bytes, String, Global}
use Rattle.std.proofs.lemmas.Result.{IfOk-weaker}
use Rattle.serde_json.specs.Data.{Data, array}
use Rattle.serde_json.specs.View.{items_view}
use Rattle.serde_json.specs.Written.{compact_text, has_float}
use Rattle.office_desk.specs.Bodies.{draw_data}
use Rattle.office_desk.proofs.BodyTexts.{draw_data-float, draw_data-text}
use Rattle.office_desk.proofs.bodies.draw_body.Goals as goal

pub returns : goal.returns
returns c =
    let digits = c.args.digits.now in
    let panel : Data = array (items_view c.args.panel.items) in
    let seal = c.args.seal.now in
    let ticket = c.args.ticket.now in
    let tickets = option_map (λ (text : String Global). string_bytes text) c.args.tickets in
    let is = c.in_ok-value.ensures ∙ ap (λ (p : Data). draw_data digits p seal ticket tickets) c.array_of-panel.ensures in
    IfOk-weaker c.to_string.result _ _
    (λ body printed. printed (ap has_float is ∙ draw_data-float digits panel seal ticket tickets c.requires) ∙ (ap compact_text is ∙ draw_data-text digits panel seal ticket tickets))
    c.to_string.ensures.text
