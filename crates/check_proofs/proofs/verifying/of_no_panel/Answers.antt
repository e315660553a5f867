use Rattle.std.proofs.Common.{◌≡◌, [], true, refl, sym, ap, ◌∙◌, subst}
use Rattle.define_proofs.specs.LeafSums.{is_stage_in_reach}
use Rattle.define_proofs.proofs.Reaches.{no_panel_in_reach}
use Rattle.check_proofs.proofs.KeptRows.{near}
use Rattle.check_proofs.proofs.verifying.of_no_panel.Goals as goal

pub tree_fault-requires-clause-near : goal.tree_fault-requires-clause-near
tree_fault-requires-clause-near c =
    let pool = c.args.pool.now in
    let kept = c.in_ok-constraints.constraints in
    let stage = c.in_ok-stage.stage in
    near pool [] kept.rows.items kept.next c.in_ok-constraints.ensures stage c.new-problem.result c.requires.pool refl
    (subst (λ it. is_stage_in_reach it ≡ true) (sym c.in_ok-stage.ensures) (no_panel_in_reach pool))
    (c.new-problem.ensures ∙ ap (λ rows. record { constraints = rows; stage = stage }) c.rows.ensures)
