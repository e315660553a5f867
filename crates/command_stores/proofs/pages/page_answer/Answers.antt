use Rattle.std.proofs.Common.{Bor, option_map, ap, sym, ◌∙◌}
use Rattle.define_offices.specs.Tables.{Round}
use Rattle.command_stores.proofs.KeptRounds.{round_keeps}
use Rattle.command_stores.proofs.pages.page_answer.Goals as goal

pub round_page-requires-clause-keeps : goal.round_page-requires-clause-keeps
round_page-requires-clause-keeps c =
    let named = sym c.round_named.ensures ∙ ap (option_map (λ (round : Bor Round). round.now)) c.in-Some.is in
    round_keeps c.args.tables.now c.facts.ensures c.args.number c.in-Some.round.now named
