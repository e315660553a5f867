use Rattle.std.proofs.Common.{◌≤◌, ◌∙◌, ap, get_or, rules, Some, FitsSigned}
use Rattle.std.specs.Int.{w128}
use Rattle.std.proofs.lemmas.Int.{to_z-of_z}
use Rattle.bundle_text.proofs.NumberLists.{digit_said, one_byte}
use Rattle.bundle_text.proofs.lines.weight_of.Goals as goal

pub returns-then-is_ascii_digit : goal.returns-then-is_ascii_digit
returns-then-is_ascii_digit c =
    let fits : FitsSigned w128 c.digit.result = search rules in
    let least : 48 ≤ get_or c.args.field.now 0 0 = search rules in
    let most : get_or c.args.field.now 0 0 ≤ 57 = search rules in
    ap Some (to_z-of_z w128 c.digit.result fits ∙ c.digit.ensures)
    ∙ digit_said c.args.field.now (get_or c.args.field.now 0 0) (one_byte c.args.field.now 0 c.if-field-eq1.true) least most
