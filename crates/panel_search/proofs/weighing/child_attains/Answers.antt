use Rattle.std.proofs.Common.{◌≡◌, ◌++◌, ◌∷◌, [], true, Some, arith, sym, ap, ◌∙◌}
use Rattle.std.specs.Prelude.{int_le}
use Rattle.std.proofs.lemmas.Int.{ints}
use borrow.Author.Differences.{true_is_le}
use Rattle.std.proofs.lemmas.Option.{slice_get-get_or, slice_get_within}
use Rattle.define_searches.specs.Fronts.{optimistic}
use Rattle.define_searches.proofs.ClosedRows.{weighed_next, still_weighed, weighed_at, all_weighed}
use Rattle.define_searches.proofs.Beside.{each_passes}
use Rattle.panel_search.proofs.weighing.child_attains.Goals as goal

pub child-requires-clause-narrow : goal.child-requires-clause-narrow
child-requires-clause-narrow c =
    let rows = c.args.closed.now in let r = c.loop-r.r in
    let row = slice_get-get_or rows r c.index-closed-r.result c.loop-r-test.true ∙ ap Some (sym c.index-closed-r.is) in
    c.requires.narrow r c.index-closed-r.result row

pub child-requires-clause-sums : goal.child-requires-clause-sums
child-requires-clause-sums c =
    let rows = c.args.closed.now in let sums = c.args.sums.now in let r = c.loop-r.r in
    let row = slice_get-get_or rows r c.index-closed-r.result c.loop-r-test.true ∙ ap Some (sym c.index-closed-r.is) in
    c.requires.sums.each r c.index-closed-r.result c.index-sums-r.result row
    (slice_get-get_or sums r c.index-sums-r.result (omega (arith, c.requires.sums.one_each, c.loop-r-test.true)) ∙ ap Some (sym c.index-sums-r.is))

pub child-requires-clause-stands : goal.child-requires-clause-stands
child-requires-clause-stands c =
    let rows = c.args.closed.now in let r = c.loop-r.r in
    let row = slice_get-get_or rows r c.index-closed-r.result c.loop-r-test.true ∙ ap Some (sym c.index-closed-r.is) in
    c.loop-r.invariant.rest r c.index-closed-r.result _ (omega arith) row
    (slice_get-get_or c.loop-r.weights r c.index-weights-r.result (omega (arith, c.loop-r.invariant.same, c.loop-r-test.true)))

pub returns-then-child-side-clause-front : goal.returns-then-child-side-clause-front
returns-then-child-side-clause-front c =
    let all = c.args.classes.now in let rows = c.args.closed.now in let r = c.loop-r.r in
    let row = slice_get-get_or rows r c.index-closed-r.result c.loop-r-test.true ∙ ap Some (sym c.index-closed-r.is) in
    weighed_at all rows c.args.front.now c.args.count r c.loop-r.weights c.index-closed-r.result c.child.new.self (still_weighed all rows c.args.front.now c.args.count r c.loop-r.weights c.loop-r.invariant) row c.child.ensures.weighs

pub loop-r-preserved : goal.loop-r-preserved
loop-r-preserved c =
    let all = c.args.classes.now in let rows = c.args.closed.now in let r = c.loop-r.r in
    let row = slice_get-get_or rows r c.index-closed-r.result c.loop-r-test.true ∙ ap Some (sym c.index-closed-r.is) in
    let attained : int_le c.index-closed-r.result.b (optimistic all c.index-closed-r.result (c.args.front.now ++ c.args.count ∷ [])) ≡ true =
    sym (true_is_le c.index-closed-r.result.b (optimistic all c.index-closed-r.result (c.args.front.now ++ c.args.count ∷ [])) (omega (arith, ints, c.if-child-side.false, c.side.ensures, c.child.ensures.value))) in
    weighed_next all rows c.args.front.now c.args.count r c.loop-r.weights c.index-closed-r.result c.child.new.self c.loop-r.invariant row c.child.ensures.weighs attained

pub returns-clause-value : goal.returns-clause-value
returns-clause-value c =
    let all = c.args.classes.now in let rows = c.args.closed.now in
    sym (each_passes (λ row. int_le row.b (optimistic all row (c.args.front.now ++ c.args.count ∷ []))) rows
    (λ i row e. let within = slice_get_within rows i row e in c.loop-r.invariant.attained i row (omega (arith, c.loop-r-test.false)) e))

pub returns-clause-front : goal.returns-clause-front
returns-clause-front c = still_weighed c.args.classes.now c.args.closed.now c.args.front.now c.args.count c.loop-r.r c.loop-r.weights c.loop-r.invariant

pub returns-clause-child : goal.returns-clause-child
returns-clause-child c = λ _. all_weighed c.args.classes.now c.args.closed.now c.args.front.now c.args.count c.loop-r.r c.loop-r.weights c.loop-r.invariant c.loop-r-test.false
