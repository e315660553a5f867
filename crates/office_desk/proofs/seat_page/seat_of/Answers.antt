use Rattle.std.proofs.Common.{◌≡◌, ◌-◌, ℕ, List, length, map, ap, sym, ◌∙◌}
use Rattle.std.proofs.lemmas.List.{length-map}
use Rattle.std.proofs.lemmas.Result.{IfOk-weaker}
use Rattle.serde_json.specs.Data.{Data, array}
use Rattle.serde_json.specs.View.{items_of}
use Rattle.serde_json.specs.Written.{compact_text, items_have_float}
use Rattle.define_offices.specs.Tables.{Round}
use Rattle.define_desk.specs.Desk.{keeps_seat}
use Rattle.define_desk.specs.Replies.{numbers}
use Rattle.define_desk.specs.Views.{dropped_from, published}
use Rattle.office_desk.specs.Shown.{own_in}
use Rattle.office_desk.proofs.BodyTexts.{numbers_as_text, numbers_have_no_float, seat_text_same}
use Rattle.office_desk.proofs.seat_page.seat_of.Goals as goal

pub seat_body-requires : goal.seat_body-requires
seat_body-requires c = ap (λ (all : List Data). items_have_float (items_of all)) c.in_ok-dropped.ensures ∙ numbers_have_no_float (dropped_from c.id.result.now c.rounds-2.result.now 1)

pub returns : goal.returns
returns c =
    let tables = c.args.tables.now in
    let entry = c.args.entry.now in
    let told = ap (λ (all : List Data). compact_text (array (items_of all))) c.in_ok-dropped.ensures ∙ numbers_as_text (dropped_from c.id.result.now c.rounds-2.result.now 1) in
    let dropped = told ∙ (ap (λ (name : List ℕ). numbers (dropped_from name c.rounds-2.result.now 1)) c.id.ensures ∙ ap (λ (all : List Round). numbers (dropped_from entry.id all 1)) c.rounds-2.ensures) in
    let id = c.as_str.ensures ∙ c.id-2.ensures in
    let many : length c.rounds.result.now ≡ length (map published tables.rounds) = ap (λ (all : List Round). length all) c.rounds.ensures ∙ sym (length-map tables.rounds published) in
    let before = c.saturating_sub-before.ensures ∙ ap (λ (n : ℕ). n - 1) many in
    let seated = c.in_ok-seated.ensures ∙ ap (keeps_seat (map published tables.rounds) (own_in tables entry)) before in
    IfOk-weaker c.seat_body.result _ _ (λ body is. is ∙ seat_text_same _ _ _ _ _ _ dropped id seated) c.seat_body.ensures
