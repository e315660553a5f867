use Rattle.define_searches.proofs.AlikeClasses.{alike_makes}
use Rattle.define_searches.proofs.alike_make_classes.Goals as goal

pub returns : goal.returns
returns c = alike_makes
