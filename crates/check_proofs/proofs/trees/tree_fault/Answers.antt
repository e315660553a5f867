use Rattle.std.proofs.Common.{ap, ◌∙◌}
use Rattle.define_proofs.specs.Leaves.{standings}
use Rattle.define_proofs.specs.TreeLines.{tree_fault}
use Rattle.check_proofs.specs.Steps.{place, seen_step}
use Rattle.check_proofs.proofs.PathSteps.{line_passed}
use Rattle.check_proofs.proofs.trees.tree_fault.Goals as goal

pub loop-k-preserved : goal.loop-k-preserved
loop-k-preserved c =
    let problem = c.args.problem.now in
    let pool = c.args.pool.now in
    let old = c.loop-k.path in
    let new = c.pass_line.new.path in
    record {
      pool = c.in_ok-next.ensures.pool ∙ c.loop-k.invariant.pool;
      same = line_passed problem pool old.pool c.args.number c.loop-k.k c.args.lines.now c.index-lines-k.result (place c.loop-k.goes_on old.decisions) (place c.in-Ok.next new.decisions)
          (tree_fault problem (standings pool) c.args.number c.args.lines.now) c.loop-k.invariant.pool c.loop-k-test.true c.index-lines-k.is
          (c.in_ok-next.ensures.step ∙ ap (λ step. seen_step step new.decisions) c.in-Ok.is) c.loop-k.invariant.same;
    }
