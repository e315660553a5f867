use Rattle.std.proofs.Common.{◌≡◌, [], ◌∷◌, ◌++◌, map, ap, ◌∙◌, arith}
use Rattle.std.specs.Prelude.{codes}
use Rattle.std.specs.Fmt.{decimal}
use Rattle.std.proofs.lemmas.Grind.{common_steps}
use Rattle.std.proofs.lemmas.Result.{on_ok_weaker}
use Rattle.define_lines.specs.Lines.{tabbed}
use Rattle.define_lines.proofs.LineLemmas.{line_added}
use Rattle.command_questions.proofs.short.push_panel.Goals as goal

pub returns : goal.returns
returns c =
    let start = c.args.text.now.items ++ codes "panel" in
    let weight = decimal c.args.row.now.weight in
    let members = map decimal c.args.row.now.panel in
    let weighed : c.push_signed.new.text.items ≡ start ++ (9 ∷ weight) = grind (arith, common_steps) in
    let stood : c.push_numbers.new.text.items ≡ (start ++ (9 ∷ weight)) ++ tabbed members =
    c.in_ok-push_numbers.ensures.whole ∙ (ap (λ before. before ++ tabbed (map decimal c.members.result.now)) weighed
    ∙ ap (λ numbers. (start ++ (9 ∷ weight)) ++ tabbed (map decimal numbers)) (c.members.ensures.value ∙ c.panel.ensures)) in
    on_ok_weaker c.end_line.result
    (λ e. e ∙ (ap (λ before. before ++ 10 ∷ []) stood ∙ line_added c.args.text.now.items (codes "panel") weight members))
    c.end_line.ensures.whole
