use Rattle.std.proofs.Common.{◌≡◌, ℕ, ◌<◌, List, [], ◌∷◌, ◌++◌, length, map, get_or, Bor, ap, ◌∙◌, arith}
use Rattle.define_lines.specs.Lines.{text_of}
use Rattle.define_pools.specs.Pool.{BoundedValue}
use Rattle.define_offices.specs.Report.{numbers_with, quota_line}
use Rattle.define_offices.proofs.LineSteps.{line_of_each}
use Rattle.office_reports.proofs.report_quotas.push_category.Goals as goal

pub loop-value_place-preserved : goal.loop-value_place-preserved
loop-value_place-preserved c =
    let values = c.args.category.now.values in
    let i = c.loop-value_place.value_place in
    let v = c.value-item.result in
    let before = c.loop-value_place.text.items in
    let items : length c.values-value-items.result.now ≡ length values = ap length c.values-value-items.ensures in
    let inside : i < length values = omega arith in
    let read : v ≡ get_or values i v = c.value-item.is ∙ ap (λ (all : List BoundedValue). get_or all i v) c.values-value-items.ensures in
    let name = c.args.category.now.name in
    let groups = map (λ (group : Bor (List ℕ)). group.now) c.args.groups.now in
    let line : ℕ × BoundedValue → List ℕ = λ (place, value). quota_line name value (numbers_with c.args.volunteers.now groups c.args.place place) in
    let added : c.push_quota.new.text.items ≡ before ++ text_of (line (i, v) ∷ []) =
    c.in_ok-push_quota.ensures ∙ (ap (λ n. before ++ text_of (quota_line n v c.deref.result.now ∷ [])) c.name.ensures
    ∙ ap (λ ns. before ++ text_of (quota_line name v ns ∷ [])) (c.deref.ensures.value ∙ c.in_ok-numbers.ensures)) in
    line_of_each values i v inside read line c.args.text.now.items before c.push_quota.new.text.items c.loop-value_place.invariant added
