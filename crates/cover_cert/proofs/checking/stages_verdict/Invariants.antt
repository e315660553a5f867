use Rattle.std.proofs.Common.{◌≡◌, ◌+◌, ◌≤◌, true, [], drop, length, sum_by, take}
use Rattle.std.specs.List.{list_all}
use Rattle.define_bundles.specs.Ranges.{is_stage}
use Rattle.define_covers.specs.Covers.{FrontLine}
use Rattle.std.specs.Prelude.{List}
use Rattle.define_covers.specs.CoverSteps.{verdict_from}
use Rattle.cover_cert.proofs.checking.stages_verdict.Given as goal

-- the verdict on all stages is the verdict on the stages that are left
abbrev pub invariant-loop-k : goal.invariant-loop-k
invariant-loop-k g l = record {
  pool : l.course.pool ≡ l.initial.course.pool;
  lottery : l.course.lottery ≡ l.initial.course.lottery;
  later : l.course.later ≡ drop l.k l.stages;
  earlier : list_all (is_stage (length l.initial.course.pool.volunteers)) l.course.earlier ≡ true;
  same : verdict_from l.initial.course.pool l.initial.course.lottery [] l.stages l.first l.trees
      ≡ verdict_from l.initial.course.pool l.initial.course.lottery l.course.earlier (drop l.k l.stages) l.number (drop l.k l.trees);
  few : l.steps ≤ l.initial.steps + sum_by (λ (lines : List FrontLine). length lines) (take l.k l.trees);
}
