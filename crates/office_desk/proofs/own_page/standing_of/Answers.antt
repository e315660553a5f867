use Rattle.std.proofs.Common.{List, length, map, ap, sym, ◌∙◌}
use Rattle.std.proofs.lemmas.List.{length-map}
use Rattle.std.proofs.lemmas.Result.{IfOk-weaker}
use Rattle.define_offices.specs.Lines.{phase_name}
use Rattle.define_offices.specs.Tables.{Round}
use Rattle.define_desk.specs.Desk.{chance_of, is_drawn}
use Rattle.define_desk.specs.Views.{Published, last_published, published}
use Rattle.office_desk.proofs.BodyTexts.{own_text_same}
use Rattle.office_desk.proofs.own_page.standing_of.Goals as goal

pub returns : goal.returns
returns c =
    let rounds = c.args.tables.now.rounds in
    let shown = last_published (map published rounds) in
    let seen = c.last_published-published.ensures.is in
    let chance = c.in_ok-chance_of.ensures ∙ (ap (λ (s : Published). chance_of s c.id.result.now) seen ∙ ap (chance_of shown) c.id.ensures) in
    let drawn = c.in_ok-is_drawn.ensures ∙ (ap (λ (s : Published). is_drawn s c.id-2.result.now) seen ∙ ap (is_drawn shown) c.id-2.ensures) in
    let id = c.as_str.ensures ∙ c.id-3.ensures in
    let phase = c.phase_name.ensures ∙ ap phase_name c.last_phase.ensures in
    let many = ap (λ (all : List Round). length all) c.rounds.ensures ∙ sym (length-map rounds published) in
    IfOk-weaker c.own_body.result _ _ (λ body is. is ∙ own_text_same _ _ _ _ _ _ _ _ _ _ _ _ chance drawn id phase many c.withdrawn.ensures) c.own_body.ensures
