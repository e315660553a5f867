use Rattle.std.proofs.Common.{◌≡◌, ◌-◌, ltb, length, get_or, Bor, is_some, IfSome, arith}
use Rattle.define_offices.specs.Tables.{Round}
use Rattle.office_steps.proofs.Rounds.{named_round-get}
use Rattle.office_steps.proofs.pools.round_named.Goals as goal

pub returns-else-number-eq0 : goal.returns-else-number-eq0
returns-else-number-eq0 c =
    let rounds = c.args.tables.now.rounds in
    let there : is_some c.get.result ≡ ltb (c.args.number - 1) (length rounds) = rw c.rounds.ensures at c.get.ensures.lookup.0 in
    let read : IfSome c.get.result (λ (round : Bor Round). round.now ≡ get_or rounds (c.args.number - 1) round.now) = rw c.rounds.ensures at c.get.ensures.lookup.1 in
    named_round-get rounds c.args.number c.get.result (omega arith) there read
