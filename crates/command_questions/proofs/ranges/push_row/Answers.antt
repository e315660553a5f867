use Rattle.std.proofs.Common.{◌≡◌, ℕ, List, [], ◌∷◌, ◌++◌, map, unsigned_abs, FitsSigned, ap, ◌∙◌, rules}
use Rattle.std.specs.Fmt.{decimal}
use Rattle.std.specs.Int.{w128}
use Rattle.std.proofs.lemmas.Int.{to_z-of_z}
use Rattle.std.proofs.lemmas.Result.{on_ok_weaker}
use Rattle.define_lines.specs.Lines.{line_feed, tab, tabbed}
use Rattle.define_lines.proofs.LineLemmas.{line_added}
use Rattle.define_pools.specs.Pool.{volunteer}
use Rattle.command_questions.specs.Tickets.{range_text}
use Rattle.command_questions.proofs.ranges.push_row.Goals as goal

pub returns : goal.returns
returns c =
    let before = c.args.text.now.items in
    let row = c.args.row.now in
    let ids : List ℕ → List (List ℕ) = map (λ i. (volunteer c.args.volunteers.now i).id) in
    let range = range_text c.args.first row.weight in
    let number = decimal c.args.number in
    let fits : FitsSigned w128 c.weight.result = search rules in
    let weight : c.unsigned_abs.result ≡ row.weight =
    c.unsigned_abs.ensures.value ∙ ap unsigned_abs (to_z-of_z w128 c.weight.result fits ∙ c.weight.ensures) in
    let ranged : c.push_range.new.text.items ≡ before ++ range =
    c.in_ok-push_range.ensures ∙ ap (λ w. before ++ range_text c.args.first w) weight in
    let numbered : c.push_number.new.text.items ≡ (before ++ range) ++ (tab ∷ number) =
    c.in_ok-push_number.ensures.whole ∙ ap (λ text. text ++ (tab ∷ number)) ranged in
    let members : c.members.result.now ≡ row.panel = c.members.ensures.value ∙ c.panel.ensures in
    let stood : c.push_members.new.text.items ≡ ((before ++ range) ++ (tab ∷ number)) ++ tabbed (ids row.panel) =
    c.in_ok-push_members.ensures ∙ ap (λ text. text ++ tabbed (ids c.members.result.now)) numbered
    ∙ ap (λ panel. ((before ++ range) ++ (tab ∷ number)) ++ tabbed (ids panel)) members in
    on_ok_weaker c.end_line.result
    (λ e. e ∙ ap (λ text. text ++ line_feed ∷ []) stood ∙ line_added before range number (ids row.panel))
    c.end_line.ensures.whole
