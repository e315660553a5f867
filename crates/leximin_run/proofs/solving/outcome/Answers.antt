use Rattle.define_runs.specs.Run.{run_limits}
use Rattle.define_searches.specs.Classes.{are_alike, classes_of}
use Rattle.define_searches.proofs.AlikeClasses.{alike_makes}
use Rattle.define_searches.proofs.Limits.{limits_kept}
use Rattle.leximin_run.specs.Answers.{solved_of}
use Rattle.leximin_run.proofs.Certified.{certified, keeps_ranges}
use Rattle.leximin_run.proofs.LegSteps.{has_short_legs, has_some_class, spends_below_legs, tells_solved}
use Rattle.leximin_run.proofs.Sharing.{tells_apart}
use Rattle.leximin_run.proofs.solving.outcome.Goals as goal

pub returns-clause-run : goal.returns-clause-run
returns-clause-run g c = tells_apart (classes_of c.args.pool.now) c.args.limits c.run.result c.run.ensures

pub returns-clause-certified : goal.returns-clause-certified
returns-clause-certified g c =
    certified c.args.pool.now (run_limits c.args.limits) c.facts.ensures c.bits.ensures.ranges (solved_of c.run.result) (tells_solved (classes_of c.args.pool.now) (run_limits c.args.limits) c.run.result (tells_apart (classes_of c.args.pool.now) c.args.limits c.run.result c.run.ensures))

pub returns-clause-ranges : goal.returns-clause-ranges
returns-clause-ranges g c =
    keeps_ranges c.args.pool.now (run_limits c.args.limits) c.facts.ensures c.bits.ensures.ranges (solved_of c.run.result) (tells_solved (classes_of c.args.pool.now) (run_limits c.args.limits) c.run.result (tells_apart (classes_of c.args.pool.now) c.args.limits c.run.result c.run.ensures))

pub returns-clause-short : goal.returns-clause-short
returns-clause-short g c =
    let pool = c.args.pool.now in
    has_short_legs (classes_of pool) (run_limits c.args.limits) (limits_kept pool (are_alike pool) c.facts.ensures (alike_makes pool)) c.bits.ensures.ranges c.run.result (tells_apart (classes_of c.args.pool.now) c.args.limits c.run.result c.run.ensures)

pub returns-clause-spent : goal.returns-clause-spent
returns-clause-spent g c =
    let pool = c.args.pool.now in
    spends_below_legs (classes_of pool) (run_limits c.args.limits) (limits_kept pool (are_alike pool) c.facts.ensures (alike_makes pool)) c.bits.ensures.ranges c.run.result (tells_apart (classes_of c.args.pool.now) c.args.limits c.run.result c.run.ensures)

pub returns-clause-some : goal.returns-clause-some
returns-clause-some g c =
    let pool = c.args.pool.now in
    has_some_class (classes_of pool) (run_limits c.args.limits) (limits_kept pool (are_alike pool) c.facts.ensures (alike_makes pool)) c.bits.ensures.ranges c.run.result (tells_apart (classes_of c.args.pool.now) c.args.limits c.run.result c.run.ensures)
