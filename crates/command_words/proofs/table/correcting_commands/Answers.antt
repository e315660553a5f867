use Rattle.std.proofs.Common.{refl}
use Rattle.command_words.specs.Table.{correcting_commands}
use Rattle.command_words.proofs.table.correcting_commands.Goals as goal

pub returns : goal.returns
unfolding correcting_commands
returns c = refl
