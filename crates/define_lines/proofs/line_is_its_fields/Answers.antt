use Rattle.define_lines.proofs.LineLemmas.{line_of-fields_of}
use Rattle.define_lines.proofs.line_is_its_fields.Goals as goal

pub returns : goal.returns
returns c = line_of-fields_of
