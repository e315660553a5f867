use Rattle.define_proofs.proofs.KindsRise.{line_kinds_rise}
use Rattle.define_proofs.proofs.kinds_rise.Goals as goal

pub returns : goal.returns
returns c = line_kinds_rise
