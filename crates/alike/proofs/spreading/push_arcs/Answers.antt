use Rattle.std.proofs.Common.{◌≤◌, ◌*◌, ◌-◌, ℕ, List, ◌++◌, map, length, get_or, sym, ap, ◌∙◌, arith, subst, to_z}
use Rattle.std.specs.Prelude.{unsigned_abs}
use Rattle.std.specs.Int.{w128}
use Rattle.std.proofs.lemmas.Int.{ints}
use Rattle.std.proofs.lemmas.List.{take_all}
use Rattle.define_runs.specs.Spreading.{arcs, cuts, dial, greatest_total}
use Rattle.alike.specs.Steps.{arc_row}
use Rattle.alike.proofs.ArcRows.{arc_of, arc_weighs, row_added}
use Rattle.alike.proofs.Words128.{total_below, signed_is, not_negative}
use Rattle.alike.proofs.spreading.push_arcs.Goals as goal
use Rattle.define_runs.proofs.FewPanels.{length-arcs}

pub panel_at-requires-clause-at : goal.panel_at-requires-clause-at
panel_at-requires-clause-at c = (arc_of c.args.classes.now c.args.counts.now c.args.cuts.now c.args.places c.loop-number.number c.requires.cuts c.requires.places (omega arith)).on

pub overflow_sub-weight : goal.overflow_sub-weight
overflow_sub-weight c =
    let arc = arc_of c.args.classes.now c.args.counts.now c.args.cuts.now c.args.places c.loop-number.number c.requires.cuts c.requires.places (omega arith) in
    let rises = arc.rises in
    omega (arith, c.next_cut.ensures)

pub overflow_mul-weight : goal.overflow_mul-weight
overflow_mul-weight c =
    let arc = arc_of c.args.classes.now c.args.counts.now c.args.cuts.now c.args.places c.loop-number.number c.requires.cuts c.requires.places (omega arith) in
    let ends : c.next_cut.result ≤ c.args.places = subst (λ n. n ≤ c.args.places) (sym c.next_cut.ensures) arc.ends in
    let weighs = arc_weighs c.args.places (get_or c.args.cuts.now c.loop-number.number 0) c.next_cut.result c.args.place_weight greatest_total ends c.requires.weight in
    let below = total_below in
    omega arith

pub overflow_cast-weight : goal.overflow_cast-weight
overflow_cast-weight c =
    let arc = arc_of c.args.classes.now c.args.counts.now c.args.cuts.now c.args.places c.loop-number.number c.requires.cuts c.requires.places (omega arith) in
    let ends : c.next_cut.result ≤ c.args.places = subst (λ n. n ≤ c.args.places) (sym c.next_cut.ensures) arc.ends in
    let weighs = arc_weighs c.args.places (get_or c.args.cuts.now c.loop-number.number 0) c.next_cut.result c.args.place_weight greatest_total ends c.requires.weight in
    let below = total_below in
    omega (arith, ints)

pub new-requires : goal.new-requires
new-requires c =
    let arc = arc_of c.args.classes.now c.args.counts.now c.args.cuts.now c.args.places c.loop-number.number c.requires.cuts c.requires.places (omega arith) in
    let ends : c.next_cut.result ≤ c.args.places = subst (λ n. n ≤ c.args.places) (sym c.next_cut.ensures) arc.ends in
    let weighs = arc_weighs c.args.places (get_or c.args.cuts.now c.loop-number.number 0) c.next_cut.result c.args.place_weight greatest_total ends c.requires.weight in
    not_negative ((c.next_cut.result - get_or c.args.cuts.now c.loop-number.number 0) * c.args.place_weight) weighs

pub loop-number-preserved : goal.loop-number-preserved
loop-number-preserved c =
    let all = c.args.classes.now in let counts = c.args.counts.now in let xs = c.args.cuts.now in let k = c.loop-number.number in
    let arc = arc_of all counts xs c.args.places k c.requires.cuts c.requires.places (omega arith) in
    let ends : c.next_cut.result ≤ c.args.places = subst (λ n. n ≤ c.args.places) (sym c.next_cut.ensures) arc.ends in
    let weight = (c.next_cut.result - get_or xs k 0) * c.args.place_weight in
    let weighs : weight ≤ greatest_total = arc_weighs c.args.places (get_or xs k 0) c.next_cut.result c.args.place_weight greatest_total ends c.requires.weight in
    c.in_ok-push.ensures.items
    ∙ row_added all counts xs c.args.places k c.args.place_weight c.next_cut.result c.loop-number.rows.items c.args.rows.now.items c.new.result c.in_ok-panel.panel (unsigned_abs (to_z w128 weight))
    c.requires.cuts c.requires.places (omega arith) c.in_ok-panel.ensures c.next_cut.ensures (ap unsigned_abs (signed_is weight weighs)) c.new.ensures c.loop-number.invariant

pub returns : goal.returns
returns c =
    let all = c.args.classes.now in let counts = c.args.counts.now in
    let few : length (arcs all counts) ≤ c.loop-number.number = omega (arith, length-arcs (dial all counts) (cuts all counts), ap (λ (zs : List ℕ). length zs) c.requires.cuts) in
    c.loop-number.invariant ∙ ap (λ zs. c.args.rows.now.items ++ map (arc_row all counts c.args.place_weight) zs) (take_all c.loop-number.number (arcs all counts) few)
