use Rattle.std.proofs.Common.{ap}
use Rattle.define_covers.specs.CoverReading.{read_cover}
use Rattle.define_covers.proofs.ReadAgain.{spelled_is_read}
use Rattle.define_covers.proofs.texts.one_cover_per_text.Goals as goal

pub returns : goal.returns
returns c first second h k same =
    let one = spelled_is_read first h in let two = spelled_is_read second k in let both = ap read_cover same in cc
