use Rattle.std.proofs.Common.{[]}
use Rattle.define_proofs.proofs.Verdicts.{caps_hold}
use Rattle.define_proofs.proofs.trees_show_caps.Goals as goal

pub returns : goal.returns
returns c pool stages trees show = caps_hold pool [] stages trees tt show
