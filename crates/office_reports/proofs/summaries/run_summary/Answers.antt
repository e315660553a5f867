use Rattle.std.proofs.Common.{◌∙◌, ap, map, pos, string_bytes, FitsSigned, to_z, of_z, rules}
use Rattle.std.specs.Int.{w128}
use Rattle.std.proofs.lemmas.Int.{to_z-of_z}
use Rattle.define_pools.specs.Lottery.{Lottery, counts}
use Rattle.define_draws.specs.Seal.{seal_of}
use Rattle.define_made_pools.specs.Summary.{Sizes}
use Rattle.office_reports.proofs.SummaryTexts.{naturals_again, summary_is}
use Rattle.office_reports.proofs.summaries.run_summary.Goals as goal

pub least-requires : goal.least-requires
least-requires c =
    naturals_again c.deref.result.now (counts c.args.pool.now c.args.answer.now.lottery)
    (c.deref.ensures.value ∙ c.in_ok-counts.ensures ∙ ap (λ (lottery : Lottery). map pos (counts c.args.pool.now lottery)) c.lottery-lottery.ensures)

pub greatest-requires : goal.greatest-requires
greatest-requires c =
    naturals_again c.deref-2.result.now (counts c.args.pool.now c.args.answer.now.lottery)
    (c.deref-2.ensures.value ∙ c.in_ok-counts.ensures ∙ ap (λ (lottery : Lottery). map pos (counts c.args.pool.now lottery)) c.lottery-lottery.ensures)

pub returns : goal.returns
returns c =
    let pool = c.args.pool.now in
    let answer = c.args.answer.now in
    let sizes : Sizes = record { classes = c.args.sizes.now.classes; columns = c.args.sizes.now.columns; pivots = c.args.sizes.now.pivots } in
    let chances = c.in_ok-counts.ensures ∙ ap (λ (lottery : Lottery). map pos (counts pool lottery)) c.lottery-lottery.ensures in
    let total_of = ap (λ (lottery : Lottery). pos lottery.total) c.lottery-lottery.ensures in
    let fits : FitsSigned w128 c.total.result = search rules in
    let fits_2 : FitsSigned w128 c.total-2.result = search rules in
    let fits_3 : FitsSigned w128 c.total-3.result = search rules in
    let fits_least : FitsSigned w128 c.least.result = search rules in
    let fits_greatest : FitsSigned w128 c.greatest.result = search rules in
    summary_is pool answer sizes (string_bytes c.new-text.result) (string_bytes c.push_sizes.new.text) (string_bytes c.push_total.new.text) (string_bytes c.push_chance.new.text)
    (string_bytes c.push_chance-2.new.text) (string_bytes c.push_line.new.text) c.deref.result.now c.deref-2.result.now
    (to_z w128 (of_z w128 c.total.result)) (to_z w128 (of_z w128 c.least.result)) (to_z w128 (of_z w128 c.total-2.result))
    (to_z w128 (of_z w128 c.greatest.result)) (to_z w128 (of_z w128 c.total-3.result)) c.as_str.result.now
    (record {
      is_empty = c.new-text.ensures.bytes;
      sizes_added = c.in_ok-push_sizes.ensures;
      total_is = to_z-of_z w128 c.total.result fits ∙ c.total.ensures ∙ total_of;
      total_added = c.in_ok-push_total.ensures;
      low_counts_are = c.deref.ensures.value ∙ chances;
      low_is = to_z-of_z w128 c.least.result fits_least ∙ c.least.ensures;
      low_total_is = to_z-of_z w128 c.total-2.result fits_2 ∙ c.total-2.ensures ∙ total_of;
      least_added = c.in_ok-push_chance.ensures;
      high_counts_are = c.deref-2.ensures.value ∙ chances;
      high_is = to_z-of_z w128 c.greatest.result fits_greatest ∙ c.greatest.ensures;
      high_total_is = to_z-of_z w128 c.total-3.result fits_3 ∙ c.total-3.ensures ∙ total_of;
      greatest_added = c.in_ok-push_chance-2.ensures;
      seal_is = c.as_str.ensures.value ∙ c.in_ok-seal.ensures.text ∙ ap seal_of (c.deref-3.ensures.value ∙ c.in_ok-bundle.ensures.spelled);
      seal_added = c.in_ok-push_line.ensures;
    })
