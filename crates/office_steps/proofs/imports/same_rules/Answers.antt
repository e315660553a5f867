use Rattle.std.proofs.Common.{◌∙◌, sym, length}
use Rattle.std.proofs.lemmas.Bool.{ne_eqb}
use Rattle.office_steps.proofs.SameByPlaces.{one_length, other_length, same_category, rules_by}
use Rattle.office_steps.proofs.imports.same_rules.Goals as goal

pub returns-then-one-other : goal.returns-then-one-other
returns-then-one-other c =
    let one = c.args.one.now in let other = c.args.other.now in
    c.rules_agree.ensures ∙ (one_length same_category one other c.if-one-other.true ∙ sym (rules_by one other))

pub returns-else-one-other : goal.returns-else-one-other
returns-else-one-other c =
    let one = c.args.one.now in let other = c.args.other.now in
    ne_eqb (length one) (length other) c.if-one-other.false ∙ sym (rules_by one other ∙ other_length same_category one other c.if-one-other.false)
