-- The words of commands and options, with lists of bytes in place of the references that the code has. Builds on the constants of
-- src/table.rt.
use Rattle.std.specs.Prelude.{ℕ, List, ◌++◌, map}
use Rattle.std.specs.Borrow.{Bor}
use Rattle.command_words.specs.declared.words.CommandWords.{CommandWords}
use Rattle.command_words.specs.declared.words.Missing.{Missing}
use Rattle.command_words.specs.declared.words.Missing.TheVariants as missing
use Rattle.command_words.specs.declared.words.OptionWords.{OptionWords}
use Rattle.command_words.specs.declared.table.TheConstants.{CORRECTING_COMMANDS, DRAW_COMMANDS, OFFICE_COMMANDS, PROOF_COMMANDS, RUN_COMMANDS}

abbrev pub Text : Type 0
Text = List ℕ

abbrev pub OptionEntry : Type 0
OptionEntry = OptionWords Text

abbrev pub CommandEntry : Type 0
CommandEntry = CommandWords Text (List OptionEntry)

abbrev pub missing_as : {T : Type 0} → (T → Text) → Missing T → Missing Text
missing_as text missing.Refused = missing.Refused
missing_as text missing.Absent = missing.Absent
missing_as text (missing.Default value) = missing.Default (text value)

abbrev pub option_as : {T : Type 0} → (T → Text) → OptionWords T → OptionEntry
option_as text option =
    record { name = text option.name; help = text option.help; form = option.form; missing = missing_as text option.missing }

abbrev pub command_as : {T U : Type 0} → (T → Text) → (U → List (OptionWords T)) → CommandWords T U → CommandEntry
command_as text options command = record {
  command = command.command;
  name = text command.name;
  help = text command.help;
  example = text command.example;
  options = map (option_as text) (options command.options);
}

-- an option of the code's table, with lists of bytes in place of references
abbrev pub option_entry : OptionWords (Bor Text) → OptionEntry
option_entry = option_as (λ text. text.now)

-- a command of the code's table, with lists of bytes in place of references
abbrev pub command_entry : CommandWords (Bor Text) (Bor (List (OptionWords (Bor Text)))) → CommandEntry
command_entry = command_as (λ text. text.now) (λ options. options.now)

-- the program's commands about proofs
unfoldable pub proof_commands : List CommandEntry
proof_commands = map (command_as (λ text. text.now) (λ options. options.now)) PROOF_COMMANDS.now

-- the program's commands about seals and draws
unfoldable pub draw_commands : List CommandEntry
draw_commands = map (command_as (λ text. text.now) (λ options. options.now)) DRAW_COMMANDS.now

-- the program's commands over a store
unfoldable pub office_commands : List CommandEntry
office_commands = map (command_as (λ text. text.now) (λ options. options.now)) OFFICE_COMMANDS.now

-- the program's commands that correct what a store has
unfoldable pub correcting_commands : List CommandEntry
correcting_commands = map (command_as (λ text. text.now) (λ options. options.now)) CORRECTING_COMMANDS.now

-- the program's commands about the stated run
unfoldable pub run_commands : List CommandEntry
run_commands = map (command_as (λ text. text.now) (λ options. options.now)) RUN_COMMANDS.now

-- the program's own table
unfoldable pub command_table : List CommandEntry
command_table = proof_commands ++ draw_commands ++ office_commands ++ correcting_commands ++ run_commands
