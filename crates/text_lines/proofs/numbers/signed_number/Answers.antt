use Rattle.text_lines.proofs.ParsedNumbers.{not_signed_text, not_signed_parsed}
use Rattle.text_lines.proofs.numbers.signed_number.Goals as goal

pub returns-in_default : goal.returns-in_default
returns-in_default c = not_signed_text c.args.field.now c.in_default.ensures.cases.0

pub returns-in_default-parse : goal.returns-in_default-parse
returns-in_default-parse c = not_signed_parsed c.args.field.now c.in_default-parse.field-0 (rw c.in-Ok.ensures.cases.0 at c.in_default-parse.ensures.value.0)
