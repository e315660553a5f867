use Rattle.std.proofs.Common.{◌≡◌, [], ◌∷◌, ◌++◌, map, ap, ◌∙◌, arith}
use Rattle.std.specs.Prelude.{codes}
use Rattle.std.specs.Fmt.{decimal}
use Rattle.std.proofs.lemmas.Grind.{common_steps}
use Rattle.std.proofs.lemmas.Result.{on_ok_weaker}
use Rattle.define_lines.specs.Lines.{tabbed}
use Rattle.define_covers.specs.CoverText.{cause_fields}
use Rattle.cover_text.specs.Causes.{seen_cause}
use Rattle.cover_text.proofs.Texts.{front_text}
use Rattle.cover_text.proofs.writing.push_front.Goals as goal

pub returns : goal.returns
returns c =
    let line = c.args.line.now in
    let start = c.args.text.now.items ++ codes "front" in
    let caused : c.push_cause.new.text.items ≡ start ++ tabbed (cause_fields (seen_cause c.cause.result)) = grind (arith, common_steps) in
    let same : c.push_cause.new.text.items ≡ start ++ tabbed (cause_fields line.cause) = caused ∙ ap (λ cause. start ++ tabbed (cause_fields cause)) c.cause.ensures in
    let counted : c.push_numbers.new.text.items ≡ (start ++ tabbed (cause_fields line.cause)) ++ tabbed (map decimal line.front) =
    c.in_ok-push_numbers.ensures.whole ∙ (ap (λ before. before ++ tabbed (map decimal c.front.result.now)) same
    ∙ ap (λ counts. (start ++ tabbed (cause_fields line.cause)) ++ tabbed (map decimal counts)) c.front.ensures) in
    on_ok_weaker c.end_line.result (λ e. e ∙ (ap (λ before. before ++ 10 ∷ []) counted ∙ front_text c.args.text.now.items line)) c.end_line.ensures.whole
