use Rattle.std.proofs.Common.{◌≡◌, sym, ◌∙◌, ap, Some}
use Rattle.define_bundles.specs.BundleReading.{numbers_up_to}
use Rattle.bundle_text.proofs.NumberLists.{numbers_more, numbers_fail}
use Rattle.bundle_text.proofs.lines.numbers_up_to.Goals as goal

pub returns-in_default : goal.returns-in_default
returns-in_default c = sym (numbers_fail c.args.limit c.args.fields.now c.loop-field.field-index _ c.loop-field-test.true (sym c.number_up_to.ensures ∙ c.in_default.is))

pub loop-field-preserved : goal.loop-field-preserved
loop-field-preserved c =
    numbers_more c.args.limit c.args.fields.now c.loop-field.field-index _ c.loop-field.numbers.items c.in-Some.number c.loop-field-test.true c.loop-field.invariant (sym c.number_up_to.ensures ∙ c.in-Some.is)
    ∙ ap Some (sym c.in_ok-push.ensures.items)
