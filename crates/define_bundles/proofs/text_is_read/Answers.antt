use Rattle.define_bundles.proofs.PoolReadAgain.{spelled_is_read}
use Rattle.define_bundles.proofs.text_is_read.Goals as goal

pub returns : goal.returns
returns c = spelled_is_read
