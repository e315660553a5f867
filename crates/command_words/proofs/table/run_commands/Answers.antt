use Rattle.std.proofs.Common.{refl}
use Rattle.command_words.specs.Table.{run_commands}
use Rattle.command_words.proofs.table.run_commands.Goals as goal

pub returns : goal.returns
unfolding run_commands
returns c = refl
