use Rattle.std.proofs.Common.{Some, ap, ◌∙◌, arith, sym}
use Rattle.std.specs.Prelude.{int_le}
use Rattle.std.proofs.lemmas.Option.{slice_get-get_or, slice_get_within}
use Rattle.define_searches.specs.Fronts.{optimistic}
use Rattle.define_searches.proofs.Beside.{each_passes}
use Rattle.panel_search.proofs.weighing.front_attains.Goals as goal

pub optimistic-requires-clause-narrow : goal.optimistic-requires-clause-narrow
optimistic-requires-clause-narrow c =
    let rows = c.args.closed.now in let r = c.loop-r.r in
    let row = slice_get-get_or rows r c.index-closed-r.result c.loop-r-test.true ∙ ap Some (sym c.index-closed-r.is) in
    c.requires.narrow r c.index-closed-r.result row

pub optimistic-requires-clause-sums : goal.optimistic-requires-clause-sums
optimistic-requires-clause-sums c =
    let rows = c.args.closed.now in let sums = c.args.sums.now in let r = c.loop-r.r in
    let row = slice_get-get_or rows r c.index-closed-r.result c.loop-r-test.true ∙ ap Some (sym c.index-closed-r.is) in
    c.requires.sums.each r c.index-closed-r.result c.index-sums-r.result row
    (slice_get-get_or sums r c.index-sums-r.result (omega (arith, c.requires.sums.one_each, c.loop-r-test.true)) ∙ ap Some (sym c.index-sums-r.is))

pub optimistic-requires-clause-stands : goal.optimistic-requires-clause-stands
optimistic-requires-clause-stands c =
    let rows = c.args.closed.now in let weights = c.args.weights.now in let r = c.loop-r.r in
    let row = slice_get-get_or rows r c.index-closed-r.result c.loop-r-test.true ∙ ap Some (sym c.index-closed-r.is) in
    c.requires.stands.each r c.index-closed-r.result c.index-weights-r.result row
    (slice_get-get_or weights r c.index-weights-r.result (omega (arith, c.requires.stands.one_each, c.loop-r-test.true)) ∙ ap Some (sym c.index-weights-r.is))

pub returns : goal.returns
returns c =
    let all = c.args.classes.now in let rows = c.args.closed.now in
    sym (each_passes (λ row. int_le row.b (optimistic all row c.args.front.now)) rows
    (λ i row e. let within = slice_get_within rows i row e in c.loop-r.invariant i row (omega (arith, c.loop-r-test.false)) e))
