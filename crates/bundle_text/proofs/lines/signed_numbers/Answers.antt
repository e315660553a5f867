use Rattle.std.proofs.Common.{[], ◌∷◌, ◌++◌, sym, ◌∙◌, ap, Some, rules, FitsSigned}
use Rattle.std.specs.Int.{w128}
use Rattle.std.proofs.lemmas.Int.{to_z-of_z}
use Rattle.bundle_text.proofs.NumberLists.{signed_more, signed_fail}
use Rattle.bundle_text.proofs.lines.signed_numbers.Goals as goal

pub returns-in_default : goal.returns-in_default
returns-in_default c = sym (signed_fail c.args.fields.now c.loop-field.field-index _ c.loop-field-test.true (sym c.weight_of.ensures ∙ c.in_default.is))

pub loop-field-preserved : goal.loop-field-preserved
loop-field-preserved c =
    let fits : FitsSigned w128 c.in-Some.number = search rules in
    signed_more c.args.fields.now c.loop-field.field-index _ c.loop-field.numbers.items c.in-Some.number c.loop-field-test.true c.loop-field.invariant (sym c.weight_of.ensures ∙ c.in-Some.is)
    ∙ (ap (λ z. Some (c.loop-field.numbers.items ++ z ∷ [])) (sym (to_z-of_z w128 c.in-Some.number fits)) ∙ ap Some (sym c.in_ok-push.ensures.items))
