use Rattle.std.proofs.Common.{◌≡◌, [], ◌∷◌, ◌++◌, map, ap, ◌∙◌, arith}
use Rattle.std.specs.Prelude.{codes}
use Rattle.std.specs.Fmt.{signed_decimal}
use Rattle.std.proofs.lemmas.Grind.{common_steps}
use Rattle.std.proofs.lemmas.Result.{on_ok_weaker}
use Rattle.define_lines.specs.Lines.{tabbed}
use Rattle.define_lines.proofs.LineLemmas.{line_added}
use Rattle.bundle_text.proofs.writing.push_stage.Goals as goal

pub returns : goal.returns
returns c =
    let start = c.args.text.now.items ++ codes "stage" in
    let cap = signed_decimal c.args.stage.now.cap in
    let weights = map signed_decimal c.args.stage.now.weights in
    let capped : c.push_signed.new.text.items ≡ start ++ (9 ∷ cap) = grind (arith, common_steps) in
    let stood : c.push_signed_numbers.new.text.items ≡ (start ++ (9 ∷ cap)) ++ tabbed weights =
    c.in_ok-push_signed_numbers.ensures.whole ∙ (ap (λ before. before ++ tabbed (map signed_decimal c.weights.result.now)) capped
    ∙ ap (λ numbers. (start ++ (9 ∷ cap)) ++ tabbed (map signed_decimal numbers)) c.weights.ensures) in
    on_ok_weaker c.end_line.result
    (λ e. e ∙ (ap (λ before. before ++ 10 ∷ []) stood ∙ line_added c.args.text.now.items (codes "stage") cap weights))
    c.end_line.ensures.whole
