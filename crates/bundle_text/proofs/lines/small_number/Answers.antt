use Rattle.std.proofs.Common.{◌≡◌, ◌∙◌, sym, rules, Some, FitsSigned, to_z, of_z}
use Rattle.std.specs.Int.{w128}
use Rattle.std.proofs.lemmas.Int.{to_z-of_z}
use Rattle.bundle_text.proofs.NumberLists.{small_some, small_none, not_negative, too_great, negative, nothing}
use Rattle.bundle_text.proofs.lines.small_number.Goals as goal

pub returns-in-Some-clause-value : goal.returns-in-Some-clause-value
returns-in-Some-clause-value c =
    let fits : FitsSigned w128 c.in-Some.number = search rules in
    small_some c.args.field.now c.in-Some.number (to_z w128 (of_z w128 c.in-Some.number)) (to_z-of_z w128 c.in-Some.number fits) (sym c.signed_number.ensures ∙ c.in-Some.is)
    c.if-number-ge0.true c.if-number-le-MAX_WEIGHT.true

pub returns-in-Some-clause-least : goal.returns-in-Some-clause-least
returns-in-Some-clause-least c =
    let fits : FitsSigned w128 c.in-Some.number = search rules in
    not_negative c.in-Some.number (to_z w128 (of_z w128 c.in-Some.number)) (to_z-of_z w128 c.in-Some.number fits) c.if-number-ge0.true

pub returns-in_default-clause-value : goal.returns-in_default-clause-value
returns-in_default-clause-value c =
    let fits : FitsSigned w128 c.in-Some.number = search rules in
    small_none c.args.field.now (Some c.in-Some.number) (sym c.signed_number.ensures ∙ c.in-Some.is)
    (too_great c.in-Some.number (to_z w128 (of_z w128 c.in-Some.number)) (to_z-of_z w128 c.in-Some.number fits) c.if-number-le-MAX_WEIGHT.false)

pub returns-in_default-2-clause-value : goal.returns-in_default-2-clause-value
returns-in_default-2-clause-value c =
    let fits : FitsSigned w128 c.in-Some.number = search rules in
    small_none c.args.field.now (Some c.in-Some.number) (sym c.signed_number.ensures ∙ c.in-Some.is)
    (negative c.in-Some.number (to_z w128 (of_z w128 c.in-Some.number)) (to_z-of_z w128 c.in-Some.number fits) c.if-number-ge0.false)

pub returns-in_default-3-clause-value : goal.returns-in_default-3-clause-value
returns-in_default-3-clause-value c = small_none c.args.field.now _ (sym c.signed_number.ensures ∙ c.in_default.is) nothing
