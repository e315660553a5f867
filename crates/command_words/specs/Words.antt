-- The command and the values that the words of a call ask for. `clap`'s definitions say how words are parsed; this file says what the
-- parsed words mean by a table of commands. Builds on Given, Program and Table. The contract of `read_words` cites it, and so do the
-- definitions of what words ask for.
use Rattle.std.specs.Prelude.{◌≡◌, ◌≢◌, ◌^◌, ◌&&◌, ℕ, Bool, true, false, List, [], ◌∷◌, Option, Some, None, Result, Ok, Err, codes, length, if◌then◌else◌, find, is_none, nat_le, nat_lt, option_and_then, option_map, ⊤}
use Rattle.std.specs.List.{list_all}
use Rattle.std.specs.Char.{digit_value}
use Rattle.std.specs.Str.{bytes_eq}
use Rattle.std.specs.Str.Parse.{digits_value, without_leading_plus}
use Rattle.clap.specs.Words.{Kinds, Row, Text, fault_of, first_of, kind_of, one_of, subcommand_of, subcommand_rows_of}
use Rattle.clap.specs.declared.error.Error.{Error}
use Rattle.clap.specs.declared.error.kind.ErrorKind.TheVariants as kind
use Rattle.clap.specs.declared.parser.matches.ArgMatches.{ArgMatches}
use Rattle.command_words.specs.Given.{Given}
use Rattle.command_words.specs.Program.{program_app}
use Rattle.command_words.specs.Table.{CommandEntry, OptionEntry, command_table}
use Rattle.command_words.specs.declared.given.Value.{Value}
use Rattle.command_words.specs.declared.given.Value.TheVariants as value
use Rattle.command_words.specs.declared.reading.WordsStop.{WordsStop}
use Rattle.command_words.specs.declared.reading.WordsStop.TheVariants.{Usage, OutOfMemory}
use Rattle.command_words.specs.declared.words.Form.{Form}
use Rattle.command_words.specs.declared.words.Form.TheVariants as form
use Rattle.command_words.specs.declared.words.Missing.{Missing}
use Rattle.command_words.specs.declared.words.Missing.TheVariants as missing

-- true if the text is made of decimal digits, at least one, and the number that they spell is below 2 ^ 64
abbrev pub is_number : Text → Bool
is_number digits = nat_lt 0 (length digits) && list_all (λ d. nat_lt (digit_value d) 10) digits && nat_lt (digits_value 10 digits) (2 ^ 64)

-- the number that a text spells; a plus may come before its digits
abbrev pub number_in : Text → Option ℕ
number_in text =
    let digits = without_leading_plus text in
    if is_number digits then Some (digits_value 10 digits) else None

-- the number that the option of this name has; None if it has no value or its value spells no number
abbrev pub number_at : Text → List Row → Option ℕ
number_at name rows = option_and_then number_in (one_of name rows)

abbrev pub within : ℕ → ℕ → ℕ → Option ℕ
within least most n = if nat_le least n && nat_le n most then Some n else None

-- the number that the option of this name has, if it is from `least` to `most`
abbrev pub number_within : Text → ℕ → ℕ → List Row → Option ℕ
number_within name least most rows = option_and_then (within least most) (number_at name rows)

-- the value that the option of this name has, if it has this form
abbrev pub form_value : Form → Text → List Row → Option Value
form_value (form.Number least most) name rows = option_map value.Number (number_within name least most rows)
form_value form.Text name rows = option_map value.Text (first_of name rows)
-- `clap` gives each flag a text: `true` if it is given, else `false`
form_value form.Flag name rows = option_map (λ text. value.Flag (bytes_eq text (codes "true"))) (first_of name rows)

abbrev pub option_value : List Row → OptionEntry → Option Value
option_value rows option = form_value option.form option.name rows

abbrev pub may_be_absent : Missing Text → Bool
may_be_absent missing.Refused = false
may_be_absent missing.Absent = true
may_be_absent (missing.Default text) = false

-- true if the option is absent: it may be left out, and it has no value
abbrev pub is_absent : List Row → OptionEntry → Bool
is_absent rows option = may_be_absent option.missing && is_none (first_of option.name rows)

-- the name of each option that is not absent, with the option's value; None if a value doesn't have its option's form
abbrev pub option_values : List Row → List OptionEntry → Option (List (Text × Value))
option_values rows [] = Some []
option_values rows (option ∷ options) =
    if is_absent rows option then option_values rows options
    else option_and_then (λ value. option_map (λ values. (option.name, value) ∷ values) (option_values rows options)) (option_value rows option)

abbrev pub command_given : List Row → CommandEntry → Option Given
command_given rows command =
    option_map (λ values. record { command = command.command; values = values }) (option_values rows command.options)

-- what the subcommand of this name gives with these rows
abbrev pub named_given : List CommandEntry → Text → List Row → Option Given
named_given commands name rows =
    option_and_then (command_given rows) (find (λ command. bytes_eq command.name name) commands)

abbrev pub given_of : List CommandEntry → Option (Text × List Row) → Option Given
given_of commands = option_and_then (λ met. named_given commands met.0 met.1)

abbrev pub unless_any : Kinds → Option Given → Option Given
unless_any [] given = given
unless_any (kind ∷ kinds) given = None

-- what the words give by a table of commands: a command with its values if `clap` finds no fault in the words and each value has its form,
-- else nothing
abbrev pub given_by : List CommandEntry → List Text → Option Given
given_by commands words = unless_any (fault_of (program_app commands) words) (given_of commands (subcommand_of (program_app commands) words))

-- what the words give by the program's own table
unfoldable pub given_in : List Text → Option Given
given_in words = given_by command_table words

-- the right results of reading words that give `given`; running out of memory is allowed at any time
abbrev pub Says : {X : Type 0} → Option X → Result X WordsStop → Type 0
Says given (Ok it) = given ≡ Some it
Says given (Err (Usage text)) = given ≡ None
Says given (Err OutOfMemory) = ⊤

-- the right results of parsing these words by `clap`, before the values are tested for their forms; running out of memory is allowed at any
-- time
abbrev pub MatchesSay : List CommandEntry → List Text → Result ArgMatches WordsStop → Type 0
MatchesSay commands words (Ok matches) = given_by commands words ≡ given_of commands (subcommand_rows_of matches)
MatchesSay commands words (Err (Usage text)) = given_by commands words ≡ None
MatchesSay commands words (Err OutOfMemory) = ⊤

-- if `clap`'s error is that memory ran out, it isn't returned as wrong usage
abbrev pub StopSays : Error → WordsStop → Type 0
StopSays error (Usage text) = kind_of error ≢ kind.OutOfMemory
StopSays error OutOfMemory = ⊤
