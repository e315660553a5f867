use Rattle.std.proofs.Common.{refl}
use Rattle.command_words.specs.Table.{proof_commands}
use Rattle.command_words.proofs.table.proof_commands.Goals as goal

pub returns : goal.returns
unfolding proof_commands
returns c = refl
