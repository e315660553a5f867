use Rattle.std.proofs.Common.{◌≡◌, [], ◌∷◌, ◌++◌, codes, ap, ◌∙◌}
use Rattle.std.proofs.lemmas.Result.{on_ok_weaker}
use Rattle.define_lines.specs.Lines.{text_of}
use Rattle.define_made_pools.specs.Summary.{greatest, least, number_line}
use Rattle.define_offices.proofs.LineSteps.{lines_added}
use Rattle.command_questions.specs.Chances.{number_line_of, number_with}
use Rattle.command_questions.proofs.chances.push_ends.Goals as goal

pub returns : goal.returns
returns c =
    let start = c.args.text.now.items in
    let counts = c.args.counts.now in
    let total = c.args.total in
    let certain = number_line (codes "certain") (number_with counts total) in
    let never = number_line (codes "never") (number_with counts 0) in
    let low = number_line_of (codes "least") counts total (least counts) in
    let high = number_line_of (codes "greatest") counts total (greatest counts) in
    let first = c.push_number.new.text.items in
    let second = c.push_number-2.new.text.items in
    let third = c.push_number_of.new.text.items in
    let one : first ≡ start ++ text_of (certain ∷ []) =
    c.in_ok-push_number.ensures ∙ ap (λ n. start ++ text_of (number_line (codes "certain") n ∷ [])) c.number_with.ensures in
    let two : second ≡ start ++ text_of (certain ∷ never ∷ []) =
    lines_added start first second (certain ∷ []) (never ∷ []) one (c.in_ok-push_number-2.ensures ∙ ap (λ n. first ++ text_of (number_line (codes "never") n ∷ [])) c.number_with-2.ensures) in
    let three : third ≡ start ++ text_of (certain ∷ never ∷ low ∷ []) =
    lines_added start second third (certain ∷ never ∷ []) (low ∷ []) two
    (c.in_ok-push_number_of.ensures ∙ ap (λ n. second ++ text_of (number_line_of (codes "least") counts total n ∷ [])) c.least.ensures.value) in
    on_ok_weaker c.push_number_of-2.result
    (λ e. lines_added start third c.push_number_of-2.new.text.items (certain ∷ never ∷ low ∷ []) (high ∷ []) three
    (e ∙ ap (λ n. third ++ text_of (number_line_of (codes "greatest") counts total n ∷ [])) c.greatest.ensures.value))
    c.push_number_of-2.ensures
