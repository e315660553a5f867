use Rattle.std.proofs.Common.{◌+◌, Some, sym, ap, ◌∙◌, subst}
use Rattle.std.proofs.lemmas.Option.{slice_get-get_or}
use Rattle.define_searches.specs.Beside.{FirstHave}
use Rattle.define_searches.proofs.Beside.{first_more}
use Rattle.check_search.specs.Weights.{IsSummed}
use Rattle.check_search.proofs.greatest.all_sums.Goals as goal

pub new-requires : goal.new-requires
new-requires c =
    let rows = c.args.closed.now in let k = c.loop-row.row-index in
    c.requires k c.row-item.result (slice_get-get_or rows k c.row-item.result c.loop-row-test.true ∙ ap Some (sym c.row-item.is))

pub loop-row-preserved : goal.loop-row-preserved
loop-row-preserved c =
    let all = c.args.classes.now in let rows = c.args.closed.now in let k = c.loop-row.row-index in
    let row = slice_get-get_or rows k c.row-item.result c.loop-row-test.true ∙ ap Some (sym c.row-item.is) in
    let more = first_more rows k c.loop-row.sums.items c.row-item.result c.in_ok-new.field-0 c.loop-row.invariant row c.in_ok-new.ensures in
    subst (FirstHave (λ row here. IsSummed all row here) rows (k + 1)) (sym c.in_ok-push.ensures.items) more
