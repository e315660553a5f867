use Rattle.command_bundles.proofs.MadeCovers.{cover_once}
use Rattle.command_bundles.proofs.its_cover.cover_has_one_answer.Goals as goal

pub returns : goal.returns
returns c = cover_once
