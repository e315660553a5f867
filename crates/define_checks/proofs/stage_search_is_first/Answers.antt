use Rattle.define_checks.proofs.PassedCaps.{stage_search_finds}
use Rattle.define_checks.proofs.stage_search_is_first.Goals as goal

pub returns : goal.returns
returns c = stage_search_finds
