use Rattle.std.proofs.Common.{◌<◌, None, Err, sym, ◌∙◌, subst, arith}
use Rattle.define_searches.specs.Visits.{first_search}
use Rattle.panel_search.specs.Answers.{Answers}
use Rattle.define_runs.specs.Run.{NodesSpent, NoPanel, run_limits}
use Rattle.leximin_run.specs.Answers.{EndsFrom}
use Rattle.leximin_run.proofs.Beginning.{no_panel_first, spent_first}
use Rattle.leximin_run.proofs.solving.run.Goals as goal

pub returns-in-Ok-None : goal.returns-in-Ok-None
returns-in-Ok-None g c =
    subst (λ all. EndsFrom c.args.share all (run_limits c.args.limits) NoPanel) c.in_ok-classes.ensures
    (no_panel_first c.args.share c.in_ok-classes.classes (run_limits c.args.limits) (omega (arith, c.in-Ok-None.ensures.answers.0, c.nodes.ensures.value)) (sym c.in-Ok-None.ensures.first ∙ c.in-Ok-None.field-0-is))

pub returns-in-Err-Spent : goal.returns-in-Err-Spent
returns-in-Err-Spent g c =
    let more : c.nodes.result < (first_search c.in_ok-classes.classes).visits =
    subst (λ e. Answers (first_search c.in_ok-classes.classes) c.nodes.result (Err e)) c.in-Err-Spent.field-0-is c.in-Err-Spent.ensures.answers in
    subst (λ all. EndsFrom c.args.share all (run_limits c.args.limits) (NodesSpent None)) c.in_ok-classes.ensures (spent_first c.args.share c.in_ok-classes.classes (run_limits c.args.limits) (omega (arith, more, c.nodes.ensures.value)))
