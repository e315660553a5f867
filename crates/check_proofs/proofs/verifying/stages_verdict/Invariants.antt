use Rattle.std.proofs.Common.{◌≡◌, true, [], drop}
use Rattle.std.specs.List.{list_all}
use Rattle.define_proofs.specs.LeafSums.{is_stage_in_reach}
use Rattle.define_proofs.specs.ProofSteps.{verdict_from}
use Rattle.check_proofs.specs.Kept.{AreConstraintsOf}
use Rattle.check_proofs.proofs.verifying.stages_verdict.Given as goal

-- the verdict on all stages is the verdict on the stages that are left
abbrev pub invariant-loop-k : goal.invariant-loop-k
invariant-loop-k l = record {
  pool : l.course.pool ≡ l.initial.course.pool;
  lottery : l.course.lottery ≡ l.initial.course.lottery;
  later : l.course.later ≡ drop l.k l.stages;
  near : list_all is_stage_in_reach l.course.earlier ≡ true;
  kept : AreConstraintsOf l.initial.course.pool l.course.earlier l.constraints.rows.items l.constraints.next;
  same : verdict_from l.initial.course.pool l.initial.course.lottery [] l.stages l.first l.trees
      ≡ verdict_from l.initial.course.pool l.initial.course.lottery l.course.earlier (drop l.k l.stages) l.number (drop l.k l.trees);
}
