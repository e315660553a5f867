use Rattle.define_offices.proofs.Versions as versions
use Rattle.define_offices.proofs.laws.changes_keep_second.Goals as goal

pub returns : goal.returns
returns c = versions.changes_keep_second
