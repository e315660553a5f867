use Rattle.std.proofs.Common.{Bor, option_map, ap, sym, ◌∙◌}
use Rattle.define_offices.specs.Tables.{Round}
use Rattle.office_steps.proofs.Rounds.{named_round-below}
use Rattle.office_steps.proofs.pools.pool_of.Goals as goal

pub open_pool-requires-clause-place : goal.open_pool-requires-clause-place
open_pool-requires-clause-place c =
    named_round-below c.args.tables.now.rounds c.args.round c.in-Some.kept.now (sym c.round_named.ensures ∙ ap (option_map (λ (round : Bor Round). round.now)) c.in-Some.is)
