use Rattle.std.proofs.Common.{[], ◌∷◌}
use Rattle.define_draws.specs.Lines.{seal_line}
use Rattle.define_offices.specs.Report.{tickets_lines}
use Rattle.define_offices.proofs.LineSteps.{lines_added}
use Rattle.office_reports.proofs.reports.push_seal_lines.Goals as goal

pub returns : goal.returns
returns c =
    lines_added c.args.text.now.items c.push_seal.new.text.items c.push_tickets.new.text.items (seal_line c.args.bundle.now ∷ []) (tickets_lines c.args.tickets.now)
    c.in_ok-push_seal.ensures c.in_ok-push_tickets.ensures
