use Rattle.std.proofs.Common.{refl}
use Rattle.command_words.specs.Table.{office_commands}
use Rattle.command_words.proofs.table.office_commands.Goals as goal

pub returns : goal.returns
unfolding office_commands
returns c = refl
