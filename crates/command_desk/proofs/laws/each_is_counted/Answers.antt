use Rattle.command_desk.proofs.Counting.{counted}
use Rattle.command_desk.proofs.laws.each_is_counted.Goals as goal

pub returns : goal.returns
returns c = counted
