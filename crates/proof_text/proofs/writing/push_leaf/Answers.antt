use Rattle.std.proofs.Common.{◌≡◌, [], ◌∷◌, ◌++◌, ap, ◌∙◌, arith}
use Rattle.std.specs.Prelude.{codes}
use Rattle.std.specs.Fmt.{decimal}
use Rattle.std.specs.List.{flat_map}
use Rattle.std.proofs.lemmas.Grind.{common_steps}
use Rattle.std.proofs.lemmas.Result.{on_ok_weaker}
use Rattle.define_lines.specs.Lines.{tabbed}
use Rattle.define_lines.proofs.LineLemmas.{line_added}
use Rattle.define_proofs.specs.ProofText.{multiplier_fields}
use Rattle.proof_text.proofs.writing.push_leaf.Goals as goal

pub returns : goal.returns
returns c =
    let start = c.args.text.now.items ++ codes "bound" in
    let scale = decimal c.args.leaf.now.scale in
    let fields = flat_map multiplier_fields c.args.leaf.now.multipliers in
    let scaled : c.push_number.new.text.items ≡ start ++ (9 ∷ scale) = grind (arith, common_steps) in
    let stood : c.push_multipliers.new.text.items ≡ (start ++ (9 ∷ scale)) ++ tabbed fields =
    c.in_ok-push_multipliers.ensures ∙ (ap (λ before. before ++ tabbed (flat_map multiplier_fields c.multipliers.result.now)) scaled
    ∙ ap (λ multipliers. (start ++ (9 ∷ scale)) ++ tabbed (flat_map multiplier_fields multipliers)) c.multipliers.ensures) in
    on_ok_weaker c.end_line.result
    (λ e. e ∙ (ap (λ before. before ++ 10 ∷ []) stood ∙ line_added c.args.text.now.items (codes "bound") scale fields))
    c.end_line.ensures.whole
