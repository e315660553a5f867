use Rattle.std.proofs.Common.{◌≡◌, false, map, take}
use Rattle.clap.specs.Words.{app_of}
use Rattle.clap.specs.declared.builder.command.Command.TheViews.{out-Command}
use Rattle.command_words.specs.Program.{command_with}
use Rattle.command_words.specs.Table.{option_entry}
use Rattle.command_words.proofs.program.command_of.Given as goal

abbrev pub invariant-loop-option : goal.invariant-loop-option
invariant-loop-option l =
    (app_of l.command ≡ command_with l.words.name.now (map option_entry (take l.option-index l.options))) × ((out-Command l.command).has_globals ≡ false)
