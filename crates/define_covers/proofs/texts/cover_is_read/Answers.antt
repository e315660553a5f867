use Rattle.define_covers.proofs.ReadAgain.{spelled_is_read}
use Rattle.define_covers.proofs.texts.cover_is_read.Goals as goal

pub returns : goal.returns
returns c = spelled_is_read
