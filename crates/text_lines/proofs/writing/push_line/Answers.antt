use Rattle.std.proofs.Common.{◌≡◌, [], ◌∷◌, ◌++◌, map, take, ap, ◌∙◌, append_assoc, arith}
use Rattle.std.proofs.lemmas.List.{take_all}
use Rattle.std.proofs.lemmas.Result.{on_err_weaker, on_ok_weaker}
use Rattle.define_lines.specs.Lines.{tabbed}
use Rattle.define_lines.proofs.LineLemmas.{line_written}
use Rattle.text_lines.proofs.KeptText.{kept_at_err, kept_before}
use Rattle.text_lines.proofs.writing.push_line.Goals as goal

pub returns-clause-whole : goal.returns-clause-whole
returns-clause-whole c =
    let text = c.args.text.now.items in
    let word = c.args.word.now in
    let fields = map (λ f. f.now) c.args.fields.now in
    let whole : take c.loop-field.field-index c.args.fields.now ≡ c.args.fields.now = take_all c.loop-field.field-index c.args.fields.now (omega arith) in
    let stood : c.loop-field.text.items ≡ text ++ word ++ tabbed fields = c.loop-field.invariant ∙ ap (λ fs. text ++ word ++ tabbed (map (λ f. f.now) fs)) whole in
    on_ok_weaker c.end_line.result
    (λ e. e ∙ (ap (λ before. before ++ 10 ∷ []) (stood ∙ append_assoc text word (tabbed fields)) ∙ (append_assoc text (word ++ tabbed fields) (10 ∷ []) ∙ ap (λ line. text ++ line) (line_written word fields))))
    c.end_line.ensures.whole

pub returns-in_err-push_field-clause-kept : goal.returns-in_err-push_field-clause-kept
returns-in_err-push_field-clause-kept c =
    let text = c.args.text.now.items in
    let word = c.args.word.now in
    let so_far = tabbed (map (λ f. f.now) (take c.loop-field.field-index c.args.fields.now)) in
    kept_at_err text (word ++ so_far) c.loop-field.text.items c.push_field.new.text.items c.from_residual-in_err-push_field.result
    (c.loop-field.invariant ∙ append_assoc text word so_far) c.in_err-push_field.ensures.kept

pub returns-clause-kept : goal.returns-clause-kept
returns-clause-kept c =
    let text = c.args.text.now.items in
    let word = c.args.word.now in
    let so_far = tabbed (map (λ f. f.now) (take c.loop-field.field-index c.args.fields.now)) in
    on_err_weaker c.end_line.result
    (λ kept. kept_before text (word ++ so_far) c.loop-field.text.items c.end_line.new.text.items (c.loop-field.invariant ∙ append_assoc text word so_far) kept)
    c.end_line.ensures.kept
