use Rattle.define_covers.proofs.Verdicts.{caps_are_left, trees_cover_caps}
use Rattle.define_covers.proofs.laws.covered_caps.Goals as goal

pub returns-clause-left : goal.returns-clause-left
returns-clause-left c = caps_are_left

pub returns-clause-hold : goal.returns-clause-hold
returns-clause-hold c = trees_cover_caps
