use Rattle.std.proofs.Common.{◌∙◌, sym, length}
use Rattle.std.proofs.lemmas.Bool.{ne_eqb}
use Rattle.office_steps.proofs.SameByPlaces.{one_length, other_length, same_value_name, value_names_by}
use Rattle.office_steps.proofs.imports.have_same_names.Goals as goal

pub returns-then-one-other : goal.returns-then-one-other
returns-then-one-other c =
    let one = c.args.one.now in let other = c.args.other.now in
    c.value_names_agree.ensures ∙ (one_length same_value_name one other c.if-one-other.true ∙ sym (value_names_by one other))

pub returns-else-one-other : goal.returns-else-one-other
returns-else-one-other c =
    let one = c.args.one.now in let other = c.args.other.now in
    ne_eqb (length one) (length other) c.if-one-other.false ∙ sym (value_names_by one other ∙ other_length same_value_name one other c.if-one-other.false)
