use Rattle.std.proofs.Common.{◌+◌, sym, ◌∙◌, ap}
use Rattle.define_bundles.specs.BundleReading.{numbers_up_to}
use Rattle.define_covers.specs.CoverRanges.{greatest_count}
use Rattle.cover_text.proofs.Counts.{behind, fields_behind, one_fails, one_more}
use Rattle.cover_text.proofs.lines.counts_of.Goals as goal

pub returns-in_default : goal.returns-in_default
returns-in_default c =
    sym (one_fails greatest_count c.args.fields.now c.loop-field.field-index _ c.loop-field-test.true c.loop-field.counts.items (sym c.number_up_to.ensures ∙ c.in_default.is)) ∙ c.loop-field.invariant

pub loop-field-preserved : goal.loop-field-preserved
loop-field-preserved c =
    ap (λ counts. behind counts (numbers_up_to greatest_count (fields_behind c.args.fields.now (c.loop-field.field-index + 1)))) c.in_ok-push.ensures.items
    ∙ one_more greatest_count c.args.fields.now c.loop-field.field-index _ c.loop-field-test.true c.loop-field.counts.items c.in-Some.count (sym c.number_up_to.ensures ∙ c.in-Some.is)
    ∙ c.loop-field.invariant
