use Rattle.std.proofs.Common.{sym, ◌∙◌, arith}
use Rattle.text_lines.proofs.ParsedNumbers.{found, not_text, not_parsed, not_spelled, too_great}
use Rattle.text_lines.proofs.numbers.number_up_to.Goals as goal
use Rattle.text_lines.proofs.numbers.number_up_to.Goals.{else-number-limit-via-then-number-limit+else-is_spelled, else-number-limit-via-else-number-limit}

pub returns-in_default : goal.returns-in_default
returns-in_default c = not_text c.args.limit c.args.field.now (omega arith) c.in_default.ensures.cases.0

pub returns-in_default-parse : goal.returns-in_default-parse
returns-in_default-parse c = not_parsed c.args.limit c.args.field.now c.in_default-parse.field-0 (omega arith) (rw c.in-Ok.ensures.cases.0 at c.in_default-parse.ensures.value.0)

pub returns-then-is_spelled : goal.returns-then-is_spelled
returns-then-is_spelled c = found c.args.limit c.in-Ok-parse.number c.args.field.now (omega arith) (omega arith) (sym c.if-is_spelled.ensures)

pub returns-else-number-limit : goal.returns-else-number-limit
returns-else-number-limit c =
    let parses = rw c.in-Ok.ensures.cases.0 at c.parse.ensures.value.0 in
    elim c.else-number-limit.branch [
      | else-number-limit-via-then-number-limit+else-is_spelled w ↦ not_spelled c.args.limit c.in-Ok-parse.number c.args.field.now c.parse.result (omega arith) parses c.in-Ok-parse.is (sym w.is_spelled.ensures ∙ w.if-is_spelled.false)
      | else-number-limit-via-else-number-limit w ↦ too_great c.args.limit c.in-Ok-parse.number c.args.field.now c.parse.result (omega arith) parses c.in-Ok-parse.is (omega arith)
    ]
