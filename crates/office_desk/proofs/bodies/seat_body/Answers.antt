use Rattle.std.proofs.Common.{ap, ◌∙◌}
use Rattle.std.proofs.lemmas.Result.{IfOk-weaker}
use Rattle.serde_json.specs.Data.{Data, array}
use Rattle.serde_json.specs.View.{items_view}
use Rattle.serde_json.specs.Written.{compact_text, has_float}
use Rattle.office_desk.specs.Bodies.{seat_data}
use Rattle.office_desk.proofs.BodyTexts.{seat_data-float, seat_data-text}
use Rattle.office_desk.proofs.bodies.seat_body.Goals as goal

pub returns : goal.returns
returns c =
    let dropped : Data = array (items_view c.args.dropped.items) in
    let id = c.args.id.now in
    let seated = c.args.seated in
    let is = c.in_ok-value.ensures ∙ ap (λ (d : Data). seat_data d id seated) c.array_of-dropped.ensures in
    IfOk-weaker c.to_string.result _ _
    (λ body printed. printed (ap has_float is ∙ seat_data-float dropped id seated c.requires) ∙ (ap compact_text is ∙ seat_data-text dropped id seated))
    c.to_string.ensures.text
