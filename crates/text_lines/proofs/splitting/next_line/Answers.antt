use Rattle.std.proofs.Common.{sym}
use Rattle.text_lines.proofs.LineByLine.{cut_at, no_cut}
use Rattle.text_lines.proofs.splitting.next_line.Goals as goal

pub returns-in-Some-clause-some : goal.returns-in-Some-clause-some
returns-in-Some-clause-some c = cut_at c.args.bytes.now c.in-Some.end (sym c.in-Some.ensures)

pub returns-in-None-clause-none : goal.returns-in-None-clause-none
returns-in-None-clause-none c = no_cut c.args.bytes.now (sym c.in-None.ensures)
