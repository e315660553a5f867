use Rattle.std.proofs.Common.{◌≡◌, ℕ, ◌<◌, List, ◌++◌, length, map, get_or, Bor, ap, ◌∙◌, arith}
use Rattle.define_lines.specs.Lines.{text_of}
use Rattle.define_pools.specs.Pool.{Category}
use Rattle.define_offices.specs.Report.{value_lines}
use Rattle.define_offices.proofs.LineSteps.{lines_of_each}
use Rattle.office_reports.proofs.report_quotas.push_counts.Goals as goal

pub loop-place-preserved : goal.loop-place-preserved
loop-place-preserved c =
    let categories = c.args.pool.now.categories in
    let i = c.loop-place.place in
    let v = c.category-item.result in
    let before = c.loop-place.text.items in
    let items : length c.categories-category-items.result.now ≡ length categories = ap length c.categories-category-items.ensures in
    let inside : i < length categories = omega arith in
    let read : v ≡ get_or categories i v = c.category-item.is ∙ ap (λ (all : List Category). get_or all i v) c.categories-category-items.ensures in
    let groups = map (λ (group : Bor (List ℕ)). group.now) c.args.groups.now in
    let lines : ℕ × Category → List (List ℕ) = λ (place, category). value_lines c.args.pool.now.volunteers groups place category in
    let added : c.push_category.new.text.items ≡ before ++ text_of (lines (i, v)) =
    c.in_ok-push_category.ensures ∙ ap (λ volunteers. before ++ text_of (value_lines volunteers groups i v)) c.volunteers.ensures in
    lines_of_each categories i v inside read lines c.args.text.now.items before c.push_category.new.text.items c.loop-place.invariant added
