use Rattle.std.proofs.Common.{◌≡◌, true, [], length, drop}
use Rattle.std.specs.List.{list_all}
use Rattle.define_bundles.specs.Ranges.{is_stage}
use Rattle.define_checks.specs.Steps.{answer_from}
use Rattle.cert_check.proofs.checking.stages_verdict.Given as goal

-- the answer for the stages that are left is the answer for all stages
abbrev pub invariant-loop-stage : goal.invariant-loop-stage
invariant-loop-stage l = record {
  pool : l.course.pool ≡ l.initial.course.pool;
  lottery : l.course.lottery ≡ l.initial.course.lottery;
  later : l.course.later ≡ drop l.stage-index l.stages;
  earlier : list_all (is_stage (length l.initial.course.pool.volunteers)) l.course.earlier ≡ true;
  same : answer_from l.initial.course.pool l.initial.course.lottery l.nodes [] l.stages ≡ answer_from l.course.pool l.course.lottery l.nodes l.course.earlier l.course.later;
}
