use Rattle.std.proofs.Common.{refl}
use Rattle.command_words.specs.Table.{draw_commands}
use Rattle.command_words.proofs.table.draw_commands.Goals as goal

pub returns : goal.returns
unfolding draw_commands
returns c = refl
