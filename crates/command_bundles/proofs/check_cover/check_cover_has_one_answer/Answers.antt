use Rattle.command_bundles.proofs.CheckedCovers.{check_cover_once}
use Rattle.command_bundles.proofs.check_cover.check_cover_has_one_answer.Goals as goal

pub returns : goal.returns
returns c = check_cover_once
