use Rattle.std.proofs.Common.{◌≡◌, ℕ, ◌+◌, ◌*◌, ◌<◌, List, [], ◌∷◌, ◌++◌, get_or, length, ap, ◌∙◌, arith}
use Rattle.define_lines.specs.Lines.{text_of}
use Rattle.define_pools.specs.Pool.{BoundedValue}
use Rattle.define_offices.proofs.LineSteps.{line_of_each}
use Rattle.bundle_page.specs.Sums.{count_with}
use Rattle.command_questions.specs.Chances.{sum_line}
use Rattle.command_questions.proofs.chances.push_values.Goals as goal

pub loop-value_place-preserved : goal.loop-value_place-preserved
loop-value_place-preserved c =
    let values = c.args.category.now.values in
    let i = c.loop-value_place.value_place in
    let v = c.value-item.result in
    let before = c.loop-value_place.text.items in
    let items : length c.values-value-items.result.now ≡ length values = ap length c.values-value-items.ensures in
    let inside : i < length values = omega arith in
    let read : v ≡ get_or values i v = c.value-item.is ∙ ap (λ (all : List BoundedValue). get_or all i v) c.values-value-items.ensures in
    let name = c.args.category.now.name in
    let total = c.args.total in
    let sum = c.sum_with-sum.result in
    let line : ℕ × BoundedValue → List ℕ = λ (place, value). sum_line name value (count_with c.args.volunteers.now c.args.counts.now c.args.place place) total in
    let added : c.push_sum.new.text.items ≡ before ++ text_of (line (i, v) ∷ []) =
    c.in_ok-push_sum.ensures ∙ (ap (λ n. before ++ text_of (sum_line n v (sum.whole * total + sum.rest) total ∷ [])) c.name.ensures
    ∙ ap (λ count. before ++ text_of (sum_line name v count total ∷ [])) c.sum_with-sum.ensures.value) in
    line_of_each values i v inside read line c.args.text.now.items before c.push_sum.new.text.items c.loop-value_place.invariant added
