use Rattle.std.specs.Prelude.{reverse}
use Rattle.cover_cert.proofs.MadeTrees.{none_above, values_same}
use Rattle.cover_cert.proofs.making.tree_of.Goals as goal

pub lines_of-requires-clause-values : goal.lines_of-requires-clause-values
lines_of-requires-clause-values c = values_same c.args.pool.now (reverse c.args.earlier.now) c.args.stage.now c.in_ok-terms.terms c.in_ok-terms.ensures.stage c.args.values c.requires.values

pub lines_of-requires-clause-none : goal.lines_of-requires-clause-none
lines_of-requires-clause-none c = none_above c.args.pool.now (reverse c.args.earlier.now) c.args.stage.now c.in_ok-terms.terms c.in_ok-terms.ensures.stage c.requires.capped
