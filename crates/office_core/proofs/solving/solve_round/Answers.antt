use Rattle.std.proofs.Common.{◌∙◌, Err, refl, subst, sym}
use Rattle.define_offices.specs.Commands.{Solve}
use Rattle.define_runs.specs.Run as run
use Rattle.define_runs.specs.Run.{RunEnds, RunFinds}
use Rattle.office_core.specs.Deciding.{Decides}
use Rattle.office_core.proofs.Runs.{decides_so, needs_run, run_comes, stop_decides}
use Rattle.office_core.proofs.solving.solve_round.Goals as goal

pub returns-in-Ok-Found : goal.returns-in-Ok-Found
returns-in-Ok-Found g c =
    let tables = c.args.tables.now in
    let pool = c.in_ok-pool.pool in
    let needs = needs_run tables c.args.number c.args.limits pool c.in-Some.round.now (sym c.in-Some.ensures) (sym c.bundle.ensures ∙ c.in_default-bundle.is) c.in_ok-pool.ensures in
    let found : RunFinds pool c.args.limits c.in-Ok-Found.answer = rw c.in-Ok-Found.field-0-is at c.in-Ok-Found.ensures.run in
    decides_so tables (Solve c.args.number c.args.limits) _ c.answered.result (run_comes tables c.args.number c.args.limits pool (run.Found found.0 c.in-Ok-Found.answer) needs found.1) c.answered.ensures.says

pub returns-in-Ok-NoPanel : goal.returns-in-Ok-NoPanel
returns-in-Ok-NoPanel g c =
    let tables = c.args.tables.now in
    let pool = c.in_ok-pool.pool in
    let needs = needs_run tables c.args.number c.args.limits pool c.in-Some.round.now (sym c.in-Some.ensures) (sym c.bundle.ensures ∙ c.in_default-bundle.is) c.in_ok-pool.ensures in
    let ends : RunEnds pool c.args.limits run.NoPanel = rw c.in-Ok-NoPanel.field-0-is at c.in-Ok-NoPanel.ensures.run in
    record { outcome = _; comes = run_comes tables c.args.number c.args.limits pool run.NoPanel needs ends; says = refl }

pub returns-in-Err : goal.returns-in-Err
returns-in-Err g c =
    let tables = c.args.tables.now in
    let pool = c.in_ok-pool.pool in
    let needs = needs_run tables c.args.number c.args.limits pool c.in-Some.round.now (sym c.in-Some.ensures) (sym c.bundle.ensures ∙ c.in_default-bundle.is) c.in_ok-pool.ensures in
    subst (λ s. Decides tables (Solve c.args.number c.args.limits) (Err s)) (sym c.run_stopped.ensures) (stop_decides tables c.args.number c.args.limits pool c.in-Err.stop needs c.in-Err.ensures.run)
