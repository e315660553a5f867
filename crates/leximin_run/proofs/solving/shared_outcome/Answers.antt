use Rattle.define_runs.specs.Run.{run_limits}
use Rattle.define_searches.specs.Classes.{classes_of}
use Rattle.leximin_run.specs.Answers.{solved_of}
use Rattle.leximin_run.proofs.Sharing.{certified_sharing, keeps_ending, ranges_sharing, tells_sharing}
use Rattle.leximin_run.proofs.solving.shared_outcome.Goals as goal

pub returns-clause-run : goal.returns-clause-run
returns-clause-run g c = tells_sharing (classes_of c.args.pool.now) (run_limits c.args.limits) c.run.result c.run.ensures

pub returns-clause-same : goal.returns-clause-same
returns-clause-same g c =
    keeps_ending (classes_of c.args.pool.now) (run_limits c.args.limits) (solved_of c.run.result) (tells_sharing (classes_of c.args.pool.now) (run_limits c.args.limits) c.run.result c.run.ensures)

pub returns-clause-certified : goal.returns-clause-certified
returns-clause-certified g c =
    certified_sharing c.args.pool.now (run_limits c.args.limits) c.facts.ensures c.bits.ensures.ranges (solved_of c.run.result)
    (tells_sharing (classes_of c.args.pool.now) (run_limits c.args.limits) c.run.result c.run.ensures)

pub returns-clause-ranges : goal.returns-clause-ranges
returns-clause-ranges g c =
    ranges_sharing c.args.pool.now (run_limits c.args.limits) c.facts.ensures c.bits.ensures.ranges (solved_of c.run.result)
    (tells_sharing (classes_of c.args.pool.now) (run_limits c.args.limits) c.run.result c.run.ensures)
