use Rattle.std.proofs.Common.{map, take}
use Rattle.std.specs.Fmt.{decimal}
use Rattle.define_lines.specs.Lines.{tabbed}
use Rattle.text_lines.proofs.KeptText.{kept_at_err}
use Rattle.text_lines.proofs.writing.push_numbers.Goals as goal

pub returns-in_err-push_number-clause-kept : goal.returns-in_err-push_number-clause-kept
returns-in_err-push_number-clause-kept c =
    kept_at_err c.args.text.now.items (tabbed (map decimal (take c.loop-number.number-index c.args.numbers.now))) c.loop-number.text.items c.push_number.new.text.items
    c.from_residual.result c.loop-number.invariant c.in_err-push_number.ensures.kept
