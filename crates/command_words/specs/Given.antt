-- What the words of a call give: a command, with a value for each of its options but those that are absent.
use Rattle.std.specs.Prelude.{ℕ, Bool, false, List, Option, Some, None, find, option_and_then, option_map, unwrap_or}
use Rattle.std.specs.Str.{bytes_eq}
use Rattle.command_words.specs.declared.given.OptionValue.{OptionValue}
use Rattle.command_words.specs.declared.given.Value.{Value}
use Rattle.command_words.specs.declared.given.Value.TheVariants as value
use Rattle.command_words.specs.declared.words.CommandName.{CommandName}

pub record Given : Type 0 where
  pub command : CommandName
  -- the name of each option that is not absent, with its value
  pub values : List (List ℕ × Value)

abbrev pub named : OptionValue → List ℕ × Value
named option = (option.name.now, option.value)

-- the value of the first option of this name
abbrev pub value_at : List ℕ → List (List ℕ × Value) → Option Value
value_at name values = option_map (λ named. named.1) (find (λ named. bytes_eq named.0 name) values)

abbrev pub as_number : Value → Option ℕ
as_number (value.Number number) = Some number
as_number (value.Text text) = None
as_number (value.Flag given) = None

abbrev pub as_text : Value → Option (List ℕ)
as_text (value.Number number) = None
as_text (value.Text text) = Some text
as_text (value.Flag given) = None

abbrev pub as_flag : Value → Option Bool
as_flag (value.Number number) = None
as_flag (value.Text text) = None
as_flag (value.Flag given) = Some given

-- the number that the option of this name has; None if there is no option of this name or its value is no number
abbrev pub number_of : List ℕ → Given → Option ℕ
number_of name given = option_and_then as_number (value_at name given.values)

-- the text that the option of this name has; None if there is no option of this name or its value is no text
abbrev pub text_of : List ℕ → Given → Option (List ℕ)
text_of name given = option_and_then as_text (value_at name given.values)

-- the flag of this name is given; false if there is no flag of this name
abbrev pub flag_of : List ℕ → Given → Bool
flag_of name given = unwrap_or (option_and_then as_flag (value_at name given.values)) false
