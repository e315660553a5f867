use Rattle.std.proofs.Common.{◌+◌, Some, sym, ap, ◌∙◌, subst}
use Rattle.std.proofs.lemmas.Option.{slice_get-get_or}
use Rattle.define_searches.specs.Beside.{FirstHave}
use Rattle.define_searches.proofs.Beside.{first_more}
use Rattle.panel_search.specs.Weights.{Weighs}
use Rattle.panel_search.proofs.weighing.all_weights.Goals as goal

pub new-requires-clause-narrow : goal.new-requires-clause-narrow
new-requires-clause-narrow c =
    let rows = c.args.closed.now in let k = c.loop-row.row-index in
    c.requires.narrow k c.row-item.result (slice_get-get_or rows k c.row-item.result c.loop-row-test.true ∙ ap Some (sym c.row-item.is))

pub loop-row-preserved : goal.loop-row-preserved
loop-row-preserved c =
    let all = c.args.classes.now in let rows = c.args.closed.now in let k = c.loop-row.row-index in
    let row = slice_get-get_or rows k c.row-item.result c.loop-row-test.true ∙ ap Some (sym c.row-item.is) in
    let more = first_more rows k c.loop-row.weights.items c.row-item.result c.in_ok-new.field-0 c.loop-row.invariant row c.in_ok-new.ensures in
    subst (FirstHave (λ row here. Weighs all row c.args.front.now here) rows (k + 1)) (sym c.in_ok-push.ensures.items) more
