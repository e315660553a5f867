use Rattle.define_bundles.proofs.LowestKinds.{lowest_is, line_kinds_rise}
use Rattle.define_bundles.proofs.FirstFaults.{lowest_at}
use Rattle.define_bundles.proofs.first_fault_is_lowest.Goals as goal

pub returns-clause-lowest : goal.returns-clause-lowest
returns-clause-lowest c = lowest_is

pub returns-clause-rising : goal.returns-clause-rising
returns-clause-rising c = line_kinds_rise

pub returns-clause-fault : goal.returns-clause-fault
returns-clause-fault c = lowest_at
