use Rattle.define_runs.proofs.OtherLimits as limits
use Rattle.define_runs.proofs.one_ending.Goals as goal

pub returns-clause-limits : goal.returns-clause-limits
returns-clause-limits c = limits.one_ending

pub returns-clause-budgets : goal.returns-clause-budgets
returns-clause-budgets c = limits.one_over_budgets

pub returns-clause-answers : goal.returns-clause-answers
returns-clause-answers c = limits.one_answer

pub returns-clause-no_panel : goal.returns-clause-no_panel
returns-clause-no_panel c = limits.answer_or_no_panel
