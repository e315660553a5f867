use Rattle.std.proofs.Common.{Some, ap, ◌∙◌, arith, sym}
use Rattle.std.specs.Prelude.{int_le}
use Rattle.std.proofs.lemmas.Option.{slice_get-get_or, slice_get_within}
use Rattle.define_searches.specs.Fronts.{optimistic}
use Rattle.define_searches.proofs.Beside.{each_passes}
use Rattle.panel_search.proofs.live.attains_each.Goals as goal

pub optimistic-requires-clause-narrow : goal.optimistic-requires-clause-narrow
optimistic-requires-clause-narrow c =
    let rows = c.args.closed.now in let r = c.loop-row.row-index in
    let row = slice_get-get_or rows r c.row-item.result c.loop-row-test.true ∙ ap Some (sym c.row-item.is) in
    c.requires.narrow r c.row-item.result row

pub returns : goal.returns
returns c =
    let all = c.args.classes.now in let rows = c.args.closed.now in
    sym (each_passes (λ row. int_le row.b (optimistic all row c.args.front.now)) rows
    (λ i row e. let within = slice_get_within rows i row e in c.loop-row.invariant i row (omega (arith, c.loop-row-test.false)) e))
