use Rattle.std.proofs.Common.{ap, ◌∙◌, option_map, string_bytes, String, Global}
use Rattle.std.proofs.lemmas.Result.{IfOk-weaker}
use Rattle.serde_json.specs.Written.{compact_text, has_float}
use Rattle.office_desk.proofs.BodyTexts.{own_data-float, own_data-text}
use Rattle.office_desk.proofs.bodies.own_body.Goals as goal

pub returns : goal.returns
returns c =
    let chance = option_map (λ (text : String Global). string_bytes text) c.args.chance in
    let a = c.args in
    let is = c.in_ok-value.ensures in
    IfOk-weaker c.to_string.result _ _
    (λ body printed. printed (ap has_float is ∙ own_data-float chance a.drawn a.id.now a.phase.now a.round a.withdrawn)
    ∙ (ap compact_text is ∙ own_data-text chance a.drawn a.id.now a.phase.now a.round a.withdrawn))
    c.to_string.ensures.text
