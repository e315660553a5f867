-- The values of a command's options, read one by one and found by their names.
use Rattle.std.proofs.Common.{◌≡◌, true, false, ◌∙◌, ℕ, ◌+◌, ◌<◌, refl, ap, sym, List, [], ◌∷◌, ◌++◌, length, map, get_or, drop, append_assoc, Option, Some, None}
use Rattle.std.proofs.lemmas.List.{drop_more, map-append}
use Rattle.std.specs.Borrow.{Bor}
use Rattle.std.specs.Prelude.{find, option_map}
use Rattle.std.specs.Str.{bytes_eq}
use Rattle.clap.proofs.WalkLemmas.{find-map}
use Rattle.clap.specs.Words.{Row, Text}
use Rattle.command_words.specs.Given.{named, value_at}
use Rattle.command_words.specs.Table.{OptionEntry, option_entry}
use Rattle.command_words.specs.Words.{is_absent, option_value, option_values}
use Rattle.command_words.specs.declared.given.OptionValue.{OptionValue}
use Rattle.command_words.specs.declared.given.Value.{Value}
use Rattle.command_words.specs.declared.words.OptionWords.{OptionWords}

-- the values read so far, followed by the later values; None if the later values are None, since one doesn't have its option's form
abbrev pub behind : List (Text × Value) → Option (List (Text × Value)) → Option (List (Text × Value))
behind read = option_map (λ values. read ++ values)

one_more : (rows : List Row) (read : List (Text × Value)) (option : OptionEntry) (options : List OptionEntry) (value : Value)
    → is_absent rows option ≡ false → Some value ≡ option_value rows option
    → behind (read ++ (option.name, value) ∷ []) (option_values rows options) ≡ behind read (option_values rows (option ∷ options))
one_more rows read option options value present e = rw (present, ← e) (go (option_values rows options))
  where
    go : (rest : Option (List (Text × Value)))
        → behind (read ++ (option.name, value) ∷ []) rest ≡ behind read (option_map (λ values. (option.name, value) ∷ values) rest)
    go None = refl
    go (Some rest) = ap Some (append_assoc read ((option.name, value) ∷ []) rest)

pub one_more_value : (rows : List Row) (options : List (OptionWords (Bor Text))) (i : ℕ) (d : OptionWords (Bor Text)) (values : List OptionValue) (value : Value)
    → i < length options → is_absent rows (option_entry (get_or options i d)) ≡ false → Some value ≡ option_value rows (option_entry (get_or options i d))
    → behind (map named (values ++ record { name = (get_or options i d).name; value = value } ∷ [])) (option_values rows (map option_entry (drop (i + 1) options)))
    ≡ behind (map named values) (option_values rows (map option_entry (drop i options)))
one_more_value rows options i d values value lt present e =
    let option = get_or options i d in
    let rest = map option_entry (drop (i + 1) options) in
    ap (λ read. behind read (option_values rows rest)) (map-append named values (record { name = option.name; value = value } ∷ []))
    ∙ one_more rows (map named values) (option_entry option) rest value present e
    ∙ ap (λ os. behind (map named values) (option_values rows (map option_entry os))) (sym (drop_more options i d lt))

one_less : (rows : List Row) (option : OptionEntry) (options : List OptionEntry) → is_absent rows option ≡ true
    → option_values rows options ≡ option_values rows (option ∷ options)
one_less rows option options absent = rw absent refl

pub no_more_value : (rows : List Row) (options : List (OptionWords (Bor Text))) (i : ℕ) (d : OptionWords (Bor Text)) (values : List OptionValue)
    → i < length options → is_absent rows (option_entry (get_or options i d)) ≡ true
    → behind (map named values) (option_values rows (map option_entry (drop (i + 1) options)))
    ≡ behind (map named values) (option_values rows (map option_entry (drop i options)))
no_more_value rows options i d values lt absent =
    ap (behind (map named values)) (one_less rows (option_entry (get_or options i d)) (map option_entry (drop (i + 1) options)) absent)
    ∙ ap (λ os. behind (map named values) (option_values rows (map option_entry os))) (sym (drop_more options i d lt))

pub value_is : (name : Text) (values : List OptionValue)
    → option_map (λ option. option.value) (find (λ option. bytes_eq option.name.now name) values) ≡ value_at name (map named values)
value_is name values =
    go (find (λ option. bytes_eq option.name.now name) values)
    ∙ ap (option_map (λ (option : Text × Value). option.1)) (find-map (λ option. bytes_eq option.0 name) named values)
  where
    go : (o : Option OptionValue) → option_map (λ option. option.value) o ≡ option_map (λ (option : Text × Value). option.1) (option_map named o)
    go None = refl
    go (Some option) = refl
