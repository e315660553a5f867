-- Steps over the commands of a table and over the options of a command, as the program is built.
use Rattle.std.proofs.Common.{◌≡◌, ◌∙◌, ℕ, ◌+◌, ◌<◌, refl, ap, ap₂, sym, List, [], ◌∷◌, ◌++◌, length, map, get_or, take}
use Rattle.std.proofs.lemmas.List.{map-append, take_more}
use Rattle.std.specs.Borrow.{Bor}
use Rattle.std.specs.List.{fold}
use Rattle.clap.specs.Words.{App, Rule, with_rule, with_subcommand}
use Rattle.clap.specs.Simple.{new_shape}
use Rattle.command_words.specs.Program.{command_app, command_with, option_rule, program_app}
use Rattle.command_words.specs.Table.{CommandEntry, OptionEntry, Text, command_entry, option_entry}
use Rattle.command_words.specs.declared.words.CommandWords.{CommandWords}
use Rattle.command_words.specs.declared.words.OptionWords.{OptionWords}

map_more : {X Y : Type 0} (f : X → Y) (xs : List X) (i : ℕ) (d : X) → i < length xs → map f (take (i + 1) xs) ≡ map f (take i xs) ++ f (get_or xs i d) ∷ []
map_more f xs i d lt = ap (map f) (take_more xs i d lt) ∙ map-append f (take i xs) (get_or xs i d ∷ [])

fold_push : {X Y : Type 0} (f : Y → X → Y) (a : Y) (xs : List X) (x : X) → fold f a (xs ++ x ∷ []) ≡ f (fold f a xs) x
fold_push f a [] x = refl
fold_push f a (y ∷ ys) x = fold_push f (f a y) ys x

rule_push : (name : Text) (options : List OptionEntry) (option : OptionEntry)
    → with_rule (command_with name options) (option_rule option) ≡ command_with name (options ++ option ∷ [])
rule_push name options option =
    let f : List Rule → App = λ rules. record { top = record (new_shape name) { rules = rules }; subs = [] } in
    ap f (sym (map-append option_rule options (option ∷ [])))

pub one_more_option : (name : Text) (options : List (OptionWords (Bor Text))) (i : ℕ) (d : OptionWords (Bor Text)) → i < length options
    → with_rule (command_with name (map option_entry (take i options))) (option_rule (option_entry (get_or options i d)))
    ≡ command_with name (map option_entry (take (i + 1) options))
one_more_option name options i d lt =
    rule_push name (map option_entry (take i options)) (option_entry (get_or options i d)) ∙ sym (ap (command_with name) (map_more option_entry options i d lt))

pub one_more_command : (commands : List (CommandWords (Bor Text) (Bor (List (OptionWords (Bor Text)))))) (i : ℕ)
    (d : CommandWords (Bor Text) (Bor (List (OptionWords (Bor Text))))) → i < length commands
    → with_subcommand (program_app (map command_entry (take i commands))) (command_app (command_entry (get_or commands i d))).top
    ≡ program_app (map command_entry (take (i + 1) commands))
one_more_command commands i d lt =
    sym (ap program_app (map_more command_entry commands i d lt)
    ∙ fold_push (λ app command. with_subcommand app (command_app command).top) _ (map command_entry (take i commands)) (command_entry (get_or commands i d)))

pub one_more_group : (before after group : List (CommandWords (Bor Text) (Bor (List (OptionWords (Bor Text)))))) (entries words : List CommandEntry)
    → after ≡ before ++ group → map command_entry before ≡ entries → map command_entry group ≡ words → map command_entry after ≡ entries ++ words
one_more_group before after group entries words grown old new =
    ap (map command_entry) grown ∙ map-append command_entry before group ∙ ap₂ (λ (xs ys : List CommandEntry). xs ++ ys) old new
