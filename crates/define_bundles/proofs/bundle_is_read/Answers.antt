use Rattle.define_bundles.proofs.ReadAgain.{spelled_is_read}
use Rattle.define_bundles.proofs.bundle_is_read.Goals as goal

pub returns : goal.returns
returns c = spelled_is_read
