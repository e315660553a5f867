use Rattle.std.proofs.Common.{ap}
use Rattle.define_bundles.specs.PoolReading.{read}
use Rattle.define_bundles.proofs.PoolReadAgain.{spelled_is_read}
use Rattle.define_bundles.proofs.one_pool_per_text.Goals as goal

pub returns : goal.returns
returns c first second h k same =
    let one = spelled_is_read first h in let two = spelled_is_read second k in let both = ap read same in cc
