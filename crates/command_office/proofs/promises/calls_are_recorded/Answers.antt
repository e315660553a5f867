use Rattle.command_office.proofs.Records.{calls_are_recorded}
use Rattle.command_office.proofs.promises.calls_are_recorded.Goals as goal

pub returns : goal.returns
returns c = calls_are_recorded
