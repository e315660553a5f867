use Rattle.std.proofs.Common.{◌≡◌, [], ◌∷◌, ◌++◌, ap, ◌∙◌}
use Rattle.std.specs.Prelude.{codes}
use Rattle.std.proofs.lemmas.Result.{on_ok_weaker}
use Rattle.define_bundles.specs.PoolText.{names_at}
use Rattle.define_lines.specs.Lines.{tabbed}
use Rattle.define_lines.proofs.LineLemmas.{line_added}
use Rattle.pool_text.proofs.writing.push_volunteer.Goals as goal

pub returns : goal.returns
returns c =
    let text = c.args.text.now.items in
    let word = codes "volunteer" in
    let id = c.args.volunteer.now.id in
    let names = names_at c.args.categories.now c.args.volunteer.now.values in
    let named : c.push_field.new.text.items ≡ (text ++ word) ++ (9 ∷ id) =
    c.in_ok-push_field.ensures.whole ∙ (ap (λ before. before ++ (9 ∷ c.as_bytes.result.now)) c.in_ok-extend_from_slice.ensures.items ∙ ap (λ i. (text ++ word) ++ (9 ∷ i)) (c.as_bytes.ensures ∙ c.id.ensures)) in
    let stood : c.push_names.new.text.items ≡ ((text ++ word) ++ (9 ∷ id)) ++ tabbed names =
    c.in_ok-push_names.ensures ∙ (ap (λ before. before ++ tabbed (names_at c.args.categories.now c.values.result.now)) named
    ∙ ap (λ places. ((text ++ word) ++ (9 ∷ id)) ++ tabbed (names_at c.args.categories.now places)) c.values.ensures) in
    on_ok_weaker c.end_line.result
    (λ e. e ∙ (ap (λ before. before ++ 10 ∷ []) stood ∙ line_added text word id names))
    c.end_line.ensures.whole
