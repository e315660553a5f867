-- The program of a table of commands, as `clap`'s own definitions describe a program. Builds on Table. Words and src/program.rt cite it.
use Rattle.std.specs.Prelude.{Bool, true, false, List, [], ◌∷◌, Some, codes, fold, map}
use Rattle.clap.specs.Words.{App, Rule, new_app, new_rule, with_subcommand}
use Rattle.clap.specs.Simple.{new_shape, on_top}
use Rattle.clap.specs.declared.builder.action.ArgAction.{ArgAction}
use Rattle.clap.specs.declared.builder.action.ArgAction.TheVariants.{Set, SetTrue}
use Rattle.clap.specs.declared.builder.value_parser.ValueParser.{ValueParser}
use Rattle.clap.specs.declared.builder.value_parser.ValueParser.TheVariants as parser
use Rattle.command_words.specs.declared.words.Form.{Form}
use Rattle.command_words.specs.declared.words.Form.TheVariants as form
use Rattle.command_words.specs.declared.words.Missing.{Missing}
use Rattle.command_words.specs.declared.words.Missing.TheVariants as missing
use Rattle.command_words.specs.Table.{CommandEntry, OptionEntry, Text}

-- the parser of `clap` for a value of this form
abbrev pub form_parser : Form → ValueParser
form_parser (form.Number least most) = parser.Unsigned least most
form_parser form.Text = parser.String
form_parser form.Flag = parser.Bool

-- what `clap` does at an option of this form: it keeps the value, or, at a flag, the text `true`
abbrev pub form_action : Form → ArgAction
form_action (form.Number least most) = Set
form_action form.Text = Set
form_action form.Flag = SetTrue

abbrev pub default_texts : Missing Text → List Text
default_texts missing.Refused = []
default_texts missing.Absent = []
default_texts (missing.Default text) = text ∷ []

abbrev pub is_required : Missing Text → Bool
is_required missing.Refused = true
is_required missing.Absent = false
is_required (missing.Default text) = false

-- an option is named by two hyphens and its name, and is required exactly if the words are refused without it
abbrev pub option_rule : OptionEntry → Rule
option_rule option = record (new_rule option.name) {
  long = Some option.name;
  action = Some (form_action option.form);
  parser = Some (form_parser option.form);
  defaults = default_texts option.missing;
  required = is_required option.missing;
}

-- a command of this name, with a rule for each option
abbrev pub command_with : Text → List OptionEntry → App
command_with name options = record { top = record (new_shape name) { rules = map option_rule options }; subs = [] }

abbrev pub command_app : CommandEntry → App
command_app command = command_with command.name command.options

-- the program without its commands: a subcommand is required, the words don't include the program's name, and it has a version
abbrev pub program_alone : App
program_alone = on_top (λ top. record top { no_binary_name = true; subcommand_required = true; has_version = true }) (new_app (codes "sortition"))

-- the program with each command as a subcommand
abbrev pub program_app : List CommandEntry → App
program_app commands = fold (λ app command. with_subcommand app (command_app command).top) program_alone commands
