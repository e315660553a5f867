use Rattle.std.proofs.Common.{◌≡◌, ℕ, ◌<◌, List, get_or, length, ap, ◌∙◌, arith}
use Rattle.define_pools.specs.Pool.{Category}
use Rattle.define_offices.proofs.LineSteps.{lines_of_each}
use Rattle.bundle_page.specs.Page.{category_parts}
use Rattle.bundle_page.proofs.categories.push_categories.Goals as goal

pub loop-place-preserved : goal.loop-place-preserved
loop-place-preserved c =
    let categories = c.args.pool.now.categories in
    let i = c.loop-place.place in
    let v = c.category-item.result in
    let before = c.loop-place.text.items in
    let items : length c.categories-category-items.result.now ≡ length categories = ap length c.categories-category-items.ensures in
    let inside : i < length categories = omega arith in
    let read : v ≡ get_or categories i v = c.category-item.is ∙ ap (λ (all : List Category). get_or all i v) c.categories-category-items.ensures in
    let lines : ℕ × Category → List (List ℕ) = λ (place, category). category_parts c.args.pool.now c.args.counts.now c.args.total place category in
    lines_of_each categories i v inside read lines c.args.text.now.items before c.push_category.new.text.items c.loop-place.invariant c.in_ok-push_category.ensures
