use Rattle.std.proofs.Common.{◌≡◌, ℕ, List, [], ◌∷◌, ◌++◌, map, ap, ◌∙◌, append_assoc}
use Rattle.std.specs.Prelude.{codes}
use Rattle.std.specs.Fmt.{decimal}
use Rattle.std.proofs.lemmas.Result.{on_ok_weaker}
use Rattle.define_lines.specs.Lines.{tabbed}
use Rattle.define_lines.proofs.LineLemmas.{line_added}
use Rattle.office_reports.proofs.report_quotas.push_quota.Goals as goal

regrouped : (a b c d e : List ℕ) → (((a ++ b) ++ c) ++ d) ++ e ≡ a ++ (b ++ (c ++ (d ++ e)))
regrouped a b c d e = append_assoc ((a ++ b) ++ c) d e ∙ append_assoc (a ++ b) c (d ++ e) ∙ append_assoc a b (c ++ (d ++ e))

pub returns : goal.returns
returns c =
    let text = c.args.text.now.items in
    let word = codes "quota" in
    let category = c.args.category.now in
    let value = c.args.value.now in
    let numbers = map decimal c.args.numbers.now in
    let start = (text ++ word) ++ (9 ∷ category) in
    let categorised : c.push_field.new.text.items ≡ start =
    c.in_ok-push_field.ensures.whole ∙ (ap (λ before. before ++ (9 ∷ c.as_bytes.result.now)) c.in_ok-extend_from_slice.ensures.items ∙ ap (λ bytes. (text ++ word) ++ (9 ∷ bytes)) c.as_bytes.ensures) in
    let named : c.push_field-2.new.text.items ≡ start ++ (9 ∷ value.name) =
    c.in_ok-push_field-2.ensures.whole ∙ (ap (λ before. before ++ (9 ∷ c.as_bytes-2.result.now)) categorised ∙ ap (λ bytes. start ++ (9 ∷ bytes)) (c.as_bytes-2.ensures ∙ c.name.ensures)) in
    let from_lower : c.push_number.new.text.items ≡ (start ++ (9 ∷ value.name)) ++ (9 ∷ decimal value.lower) =
    c.in_ok-push_number.ensures.whole ∙ (ap (λ before. before ++ (9 ∷ decimal c.lower.result)) named ∙ ap (λ n. (start ++ (9 ∷ value.name)) ++ (9 ∷ decimal n)) c.lower.ensures) in
    let bounded = (start ++ (9 ∷ value.name)) ++ (9 ∷ decimal value.lower) in
    let to_upper : c.push_number-2.new.text.items ≡ bounded ++ (9 ∷ decimal value.upper) =
    c.in_ok-push_number-2.ensures.whole ∙ (ap (λ before. before ++ (9 ∷ decimal c.upper.result)) from_lower ∙ ap (λ n. bounded ++ (9 ∷ decimal n)) c.upper.ensures) in
    let stood : c.push_numbers.new.text.items ≡ start ++ tabbed (value.name ∷ decimal value.lower ∷ decimal value.upper ∷ numbers) =
    c.in_ok-push_numbers.ensures.whole ∙ (ap (λ before. before ++ tabbed numbers) to_upper
    ∙ regrouped start (9 ∷ value.name) (9 ∷ decimal value.lower) (9 ∷ decimal value.upper) (tabbed numbers)) in
    on_ok_weaker c.end_line.result
    (λ e. e ∙ (ap (λ before. before ++ 10 ∷ []) stood ∙ line_added text word category (value.name ∷ decimal value.lower ∷ decimal value.upper ∷ numbers)))
    c.end_line.ensures.whole
