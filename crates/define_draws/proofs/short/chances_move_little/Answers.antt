use Rattle.define_draws.proofs.Shortened.{count_moves}
use Rattle.define_draws.proofs.short.chances_move_little.Goals as goal

pub returns : goal.returns
returns c = count_moves
