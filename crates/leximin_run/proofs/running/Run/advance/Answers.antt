use Rattle.std.proofs.Common.{◌≡◌, sym, ◌∙◌, subst}
use Rattle.define_runs.specs.Run.{GoOn, run_limits, step}
use Rattle.leximin_run.specs.Advancing.{HoldsFrom, Stands}
use Rattle.leximin_run.proofs.Turns.{enter_steps, entered_stands}
use Rattle.leximin_run.proofs.running.Run.advance.Goals as goal

pub returns-then-some_unsettled-clause-advances : goal.returns-then-some_unsettled-clause-advances
returns-then-some_unsettled-clause-advances g c =
    let run = c.args.self.now in
    let shut = sym c.in_stage.ensures ∙ c.if-in_stage.false in
    let some = sym c.some_unsettled.ensures ∙ c.if-some_unsettled.true in
    subst (λ t. HoldsFrom run.share (run_limits run.limits) (λ free. step run.pricer.classes free run.table ≡ GoOn t)) (sym c.enter_stage.ensures.entered)
    (enter_steps run.share run.pricer.classes (run_limits run.limits) run.table shut some)

pub returns-then-some_unsettled-clause-stands : goal.returns-then-some_unsettled-clause-stands
returns-then-some_unsettled-clause-stands g c =
    let run = c.args.self.now in
    let shut = sym c.in_stage.ensures ∙ c.if-in_stage.false in
    let some = sym c.some_unsettled.ensures ∙ c.if-some_unsettled.true in
    subst (λ t. Stands run.pricer.classes (run_limits run.limits) t run.pricer.closed) (sym c.enter_stage.ensures.entered)
    (entered_stands run.pricer.classes (run_limits run.limits) run.table run.pricer.closed c.requires.stands shut some)
