use Rattle.std.proofs.Common.{sym, ap, ◌∙◌}
use Rattle.check_proofs.proofs.KeptRows.{near}
use Rattle.check_proofs.proofs.verifying.stage_verdict.Goals as goal

pub tree_fault-requires-clause-near : goal.tree_fault-requires-clause-near
tree_fault-requires-clause-near c =
    let course = c.args.course.now in
    let kept = c.args.constraints.now in
    let stage = c.args.stage.now in
    near course.pool course.earlier kept.rows.items kept.next c.requires.constraints stage c.new-problem.result c.requires.pool c.requires.earlier (sym c.is_in_reach.ensures ∙ c.if-not-is_in_reach.false)
    (c.new-problem.ensures ∙ ap (λ rows. record { constraints = rows; stage = stage }) c.rows.ensures)
