use Rattle.define_draws.proofs.Shortened.{agrees_shortened, is_lottery_shortened}
use Rattle.define_draws.proofs.short.shortened_is_a_lottery.Goals as goal

pub returns-clause-agrees : goal.returns-clause-agrees
returns-clause-agrees c = agrees_shortened

pub returns-clause-is_lottery : goal.returns-clause-is_lottery
returns-clause-is_lottery c = is_lottery_shortened
