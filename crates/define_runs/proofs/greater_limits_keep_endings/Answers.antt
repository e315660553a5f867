use Rattle.define_runs.proofs.OtherLimits.{budgets_keep_ending, limits_keep_answer, limits_keep_no_panel}
use Rattle.define_runs.proofs.greater_limits_keep_endings.Goals as goal

pub returns-clause-budgets : goal.returns-clause-budgets
returns-clause-budgets c = budgets_keep_ending

pub returns-clause-answers : goal.returns-clause-answers
returns-clause-answers c = limits_keep_answer

pub returns-clause-no_panel : goal.returns-clause-no_panel
returns-clause-no_panel c = limits_keep_no_panel
