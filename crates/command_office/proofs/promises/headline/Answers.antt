use Rattle.command_office.proofs.Kept.{keeps}
use Rattle.command_office.proofs.promises.headline.Goals as goal

pub returns : goal.returns
returns c = keeps
