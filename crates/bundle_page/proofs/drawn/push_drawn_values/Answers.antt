use Rattle.std.proofs.Common.{◌≡◌, ℕ, ◌<◌, List, [], ◌∷◌, ◌++◌, get_or, length, ap, ◌∙◌, arith}
use Rattle.define_lines.specs.Lines.{text_of}
use Rattle.define_pools.specs.Pool.{BoundedValue, members_with}
use Rattle.define_offices.proofs.LineSteps.{line_of_each}
use Rattle.bundle_page.specs.Drawn.{drawn_line}
use Rattle.bundle_page.proofs.drawn.push_drawn_values.Goals as goal

pub loop-value_place-preserved : goal.loop-value_place-preserved
loop-value_place-preserved c =
    let values = c.args.category.now.values in
    let i = c.loop-value_place.value_place in
    let v = c.value-item.result in
    let before = c.loop-value_place.text.items in
    let items : length c.values-value-items.result.now ≡ length values = ap length c.values-value-items.ensures in
    let inside : i < length values = omega arith in
    let read : v ≡ get_or values i v = c.value-item.is ∙ ap (λ (all : List BoundedValue). get_or all i v) c.values-value-items.ensures in
    let name = c.args.category.now.name in
    let line : ℕ × BoundedValue → List ℕ = λ (place, value). drawn_line name value (members_with c.args.volunteers.now c.args.panel.now c.args.place place) in
    let added : c.push_drawn_value.new.text.items ≡ before ++ text_of (line (i, v) ∷ []) =
    c.in_ok-push_drawn_value.ensures ∙ (ap (λ n. before ++ text_of (drawn_line n v c.members_with-members.result ∷ [])) c.name.ensures
    ∙ ap (λ members. before ++ text_of (drawn_line name v members ∷ [])) c.members_with-members.ensures) in
    line_of_each values i v inside read line c.args.text.now.items before c.push_drawn_value.new.text.items c.loop-value_place.invariant added
