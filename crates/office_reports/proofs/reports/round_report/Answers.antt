use Rattle.std.proofs.Common.{Bor, option_map, ap, sym, ◌∙◌}
use Rattle.define_offices.specs.Tables.{Round}
use Rattle.office_reports.proofs.DrawnRounds.{round_keeps}
use Rattle.office_reports.proofs.reports.round_report.Goals as goal

pub report_text-requires-clause-keeps : goal.report_text-requires-clause-keeps
report_text-requires-clause-keeps c =
    let named = sym c.round_named.ensures ∙ ap (option_map (λ (round : Bor Round). round.now)) c.in-Some-round_named.is in
    round_keeps c.args.tables.now c.facts.ensures c.args.round c.in-Some-round_named.kept.now named
