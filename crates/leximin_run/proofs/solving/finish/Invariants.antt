use Rattle.std.proofs.Common.{◌≡◌}
use Rattle.leximin_run.specs.Advancing.{HoldsFrom, Reaches}
use Rattle.leximin_run.specs.Tracing.{ReachesWithLegs}
use Rattle.define_runs.specs.Run.{run_limits}
use Rattle.define_runs.specs.Work.{work_left}
use Rattle.leximin_run.proofs.solving.finish.Given as goal

-- the run reaches its table with these legs, and its classes, its limits and whether workers share a bound are as at the beginning
abbrev pub invariant-loop-legs : goal.invariant-loop-legs
invariant-loop-legs g l = record {
  legs : HoldsFrom l.run.share (run_limits l.run.limits) (λ free. ReachesWithLegs l.run.pricer.classes free l.run.table l.legs.items);
  reaches : Reaches l.run.share l.run.pricer.classes (run_limits l.run.limits) l.run.table l.run.pricer.closed;
  classes : l.run.pricer.classes ≡ l.initial.run.pricer.classes;
  limits : l.run.limits ≡ l.initial.run.limits;
  share : l.run.share ≡ l.initial.run.share;
}

abbrev pub decreases-loop-legs : goal.decreases-loop-legs
decreases-loop-legs g l = work_left (run_limits l.run.limits) l.run.table
