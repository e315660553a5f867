use Rattle.std.proofs.Common.{vec_len}
use Rattle.prove_run.proofs.paths.SplitPath.turn.Given as goal

abbrev pub decreases-back : goal.decreases-back
decreases-back l = vec_len l.self.branches
