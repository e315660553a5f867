use Rattle.define_bundles.proofs.FirstFaults.{before_begins, before_is_closed, none_begins, end_is_missing}
use Rattle.define_bundles.proofs.first_fault_is_first.Goals as goal

pub returns-clause-before : goal.returns-clause-before
returns-clause-before c = before_begins

pub returns-clause-closed : goal.returns-clause-closed
returns-clause-closed c = before_is_closed

pub returns-clause-up_to : goal.returns-clause-up_to
returns-clause-up_to c = none_begins

pub returns-clause-missing_end : goal.returns-clause-missing_end
returns-clause-missing_end c = end_is_missing
