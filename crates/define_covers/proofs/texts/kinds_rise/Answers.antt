use Rattle.define_covers.proofs.KindsRise.{line_kinds_rise}
use Rattle.define_covers.proofs.texts.kinds_rise.Goals as goal

pub returns : goal.returns
returns c = line_kinds_rise
