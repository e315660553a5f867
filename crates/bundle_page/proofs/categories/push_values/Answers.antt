use Rattle.std.proofs.Common.{◌≡◌, ℕ, ◌<◌, List, ◌++◌, get_or, length, ap, ◌∙◌, arith}
use Rattle.define_lines.specs.Lines.{text_of}
use Rattle.define_pools.specs.Pool.{BoundedValue}
use Rattle.define_offices.proofs.LineSteps.{lines_of_each}
use Rattle.bundle_page.specs.Numbers.{share_of, sizes_of}
use Rattle.bundle_page.specs.Page.{value_parts}
use Rattle.bundle_page.proofs.categories.push_values.Goals as goal

pub loop-value_place-preserved : goal.loop-value_place-preserved
loop-value_place-preserved c =
    let values = c.args.category.now.values in
    let pool = c.args.pool.now in
    let counts = c.args.counts.now in
    let total = c.args.total in
    let place = c.args.place in
    let i = c.loop-value_place.value_place in
    let v = c.value-item.result in
    let before = c.loop-value_place.text.items in
    let items : length c.values-value-items.result.now ≡ length values = ap length c.values-value-items.ensures in
    let inside : i < length values = omega arith in
    let read : v ≡ get_or values i v = c.value-item.is ∙ ap (λ (all : List BoundedValue). get_or all i v) c.values-value-items.ensures in
    let lines : ℕ × BoundedValue → List (List ℕ) = λ (value_place, value). value_parts value.name (share_of pool.volunteers counts total place value_place value) (sizes_of pool) in
    let added : c.push_value.new.text.items ≡ before ++ text_of (lines (i, v)) =
    c.in_ok-push_value.ensures ∙ ap (λ name. before ++ text_of (value_parts name c.share_of-share.result c.sizes_of-sizes.result)) c.name.ensures
    ∙ ap (λ share. before ++ text_of (value_parts v.name share c.sizes_of-sizes.result))
    (c.share_of-share.ensures.value ∙ ap (λ volunteers. share_of volunteers counts total place i v) c.volunteers.ensures)
    ∙ ap (λ sizes. before ++ text_of (value_parts v.name (share_of pool.volunteers counts total place i v) sizes)) c.sizes_of-sizes.ensures in
    lines_of_each values i v inside read lines c.args.text.now.items before c.push_value.new.text.items c.loop-value_place.invariant added
