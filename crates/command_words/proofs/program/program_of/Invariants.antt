use Rattle.std.proofs.Common.{◌≡◌, map, take}
use Rattle.clap.specs.Words.{app_of}
use Rattle.command_words.specs.Program.{program_app}
use Rattle.command_words.specs.Table.{command_entry}
use Rattle.command_words.proofs.program.program_of.Given as goal

abbrev pub invariant-loop-words : goal.invariant-loop-words
invariant-loop-words l = app_of l.program ≡ program_app (map command_entry (take l.words-index l.commands))
