use Rattle.std.proofs.Common.{◌+◌, [], Some, sym, ap, ◌∙◌, subst}
use Rattle.std.proofs.lemmas.Option.{slice_get-get_or}
use Rattle.define_searches.specs.Beside.{FirstHave}
use Rattle.define_searches.proofs.Beside.{first_more}
use Rattle.check_search.specs.Weights.{Weighs}
use Rattle.check_search.proofs.weighing.all_weights.Goals as goal

pub of_nothing-requires : goal.of_nothing-requires
of_nothing-requires c =
    let rows = c.args.closed.now in let k = c.loop-row.row-index in
    c.requires k c.row-item.result (slice_get-get_or rows k c.row-item.result c.loop-row-test.true ∙ ap Some (sym c.row-item.is))

pub loop-row-preserved : goal.loop-row-preserved
loop-row-preserved c =
    let all = c.args.classes.now in let rows = c.args.closed.now in let k = c.loop-row.row-index in
    let row = slice_get-get_or rows k c.row-item.result c.loop-row-test.true ∙ ap Some (sym c.row-item.is) in
    let more = first_more rows k c.loop-row.weights.items c.row-item.result c.in_ok-of_nothing.field-0 c.loop-row.invariant row c.in_ok-of_nothing.ensures in
    subst (FirstHave (λ row here. Weighs all row [] here) rows (k + 1)) (sym c.in_ok-push.ensures.items) more
