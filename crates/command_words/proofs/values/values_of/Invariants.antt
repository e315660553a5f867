use Rattle.std.proofs.Common.{◌≡◌, drop, map}
use Rattle.clap.specs.Words.{found_of, rows_of}
use Rattle.command_words.specs.Given.{named}
use Rattle.command_words.specs.Table.{option_entry}
use Rattle.command_words.specs.Words.{option_values}
use Rattle.command_words.proofs.ValueLemmas.{behind}
use Rattle.command_words.proofs.values.values_of.Given as goal

abbrev pub invariant-loop-option : goal.invariant-loop-option
invariant-loop-option l =
    behind (map named l.values.items) (option_values (rows_of (found_of l.matches)) (map option_entry (drop l.option-index l.options)))
    ≡ option_values (rows_of (found_of l.matches)) (map option_entry l.options)
