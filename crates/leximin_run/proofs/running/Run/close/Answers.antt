use Rattle.std.proofs.Common.{◌∙◌}
use Rattle.define_runs.specs.Run.{run_limits}
use Rattle.leximin_run.proofs.Turns.{have_entries, have_reach}
use Rattle.leximin_run.proofs.running.Run.close.Goals as goal

pub add_row-requires-clause-entries : goal.add_row-requires-clause-entries
add_row-requires-clause-entries c =
    let run = c.args.self.now in
    ((have_entries run.pricer.classes (run_limits run.limits) run.table c.requires.stands.keeps c.in_ok-copy.field-0 c.open_row.result c.open_row.ensures.place (c.in_ok-copy.ensures ∙ c.row-row.ensures) run.pricer.closed c.requires.stands.closed_are).0, tt)

pub add_row-requires-clause-reach : goal.add_row-requires-clause-reach
add_row-requires-clause-reach c =
    let run = c.args.self.now in
    ((have_reach run.pricer.classes (run_limits run.limits) run.table c.requires.stands.keeps c.in_ok-copy.field-0 c.open_row.result c.open_row.ensures.place (c.in_ok-copy.ensures ∙ c.row-row.ensures) run.pricer.closed c.requires.stands.closed_are).0, tt)
