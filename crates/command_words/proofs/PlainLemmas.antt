-- `clap`'s definitions cover the program of each table: it is simple, and no argument has a rule about another.
use Rattle.std.proofs.Common.{◌≡◌, ◌∙◌, ℕ, true, false, not, ◌&&◌, refl, ap, ap₂, sym, List, [], ◌∷◌, ◌++◌, map, append_assoc, append-nil}
use Rattle.std.specs.List.{fold, list_all, list_any}
use Rattle.clap.specs.Words.{App, Rule, Shape, is_simple, is_simple_and_free, with_subcommand}
use Rattle.clap.specs.Faults.{has_free_rules}
use Rattle.clap.specs.Simple.{built, filled_from, help_rule, is_ready_leaf, is_simple_leaf}
use Rattle.clap.specs.Walk.{is_early_multiple}
use Rattle.command_words.specs.Program.{command_app, option_rule, program_alone, program_app}
use Rattle.command_words.specs.Table.{CommandEntry, OptionEntry}

-- ---- a command's options in the program

options_simple : (os : List OptionEntry) → list_all (λ a. a.is_simple) (map option_rule os) ≡ true
options_simple [] = refl
options_simple (o ∷ os) = options_simple os

-- a command's options after `clap` has built the program, with the flag for help
abbrev built_options : ℕ → List OptionEntry → List Rule
built_options i os = filled_from i (map option_rule os ++ help_rule ∷ [])

built_simple : (i : ℕ) (os : List OptionEntry) → list_all (λ a. a.is_simple) (built_options i os) ≡ true
built_simple i [] = refl
built_simple i (o ∷ os) = built_simple i os

built_free : (i : ℕ) (os : List OptionEntry) → list_all (λ a. a.is_free) (built_options i os) ≡ true
built_free i [] = refl
built_free i (o ∷ os) = built_free i os

-- no option is a positional, so none is a positional that takes several values too early
built_unplaced : (n i : ℕ) (os : List OptionEntry) → list_any (is_early_multiple n) (built_options i os) ≡ false
built_unplaced n i [] = refl
built_unplaced n i (o ∷ os) = built_unplaced n i os

-- ---- the program with its subcommands

-- the program with subcommands
abbrev with_commands : List CommandEntry → App
with_commands commands =
    record { top = record program_alone.top { is_leaf = false }; subs = map (λ command. (command_app command).top) commands }

abbrev step : App → CommandEntry → App
step app command = with_subcommand app (command_app command).top

steps_are : (s : Shape) (subs : List Shape) (cs : List CommandEntry)
    → fold step (record { top = record s { is_leaf = false }; subs = subs }) cs
    ≡ record { top = record s { is_leaf = false }; subs = subs ++ map (λ command. (command_app command).top) cs }
steps_are s subs [] = ap (λ (xs : List Shape). record { top = record s { is_leaf = false }; subs = xs }) (sym (append-nil subs))
steps_are s subs (c ∷ cs) =
    steps_are s (subs ++ (command_app c).top ∷ []) cs
    ∙ ap (λ (xs : List Shape). record { top = record s { is_leaf = false }; subs = xs }) (append_assoc subs ((command_app c).top ∷ []) (map (λ command. (command_app command).top) cs))

program_is : (c : CommandEntry) (cs : List CommandEntry) → program_app (c ∷ cs) ≡ with_commands (c ∷ cs)
program_is c cs = steps_are program_alone.top ((command_app c).top ∷ []) cs

leaves_simple : (cs : List CommandEntry) → list_all is_simple_leaf (with_commands cs).subs ≡ true
leaves_simple [] = refl
leaves_simple (c ∷ cs) = ap₂ (λ a b. a && b) (options_simple c.options) (leaves_simple cs)

leaves_ready : (cs : List CommandEntry) → list_all is_ready_leaf (built (with_commands cs)).subs ≡ true
leaves_ready [] = refl
leaves_ready (c ∷ cs) =
    ap₂ (λ a b. a && b) (ap₂ (λ a b. a && not b) (built_simple 1 c.options) (built_unplaced _ 1 c.options)) (leaves_ready cs)

leaves_free : (cs : List CommandEntry) → list_all has_free_rules (built (with_commands cs)).subs ≡ true
leaves_free [] = refl
leaves_free (c ∷ cs) = ap₂ (λ a b. a && b) (built_free 1 c.options) (leaves_free cs)

pub is_plain : (commands : List CommandEntry) → is_simple (program_app commands) ≡ true
is_plain [] = refl
is_plain (c ∷ cs) = ap is_simple (program_is c cs) ∙ ap₂ (λ a b. a && b) (leaves_simple (c ∷ cs)) (leaves_ready (c ∷ cs))

pub is_free : (commands : List CommandEntry) → is_simple_and_free (program_app commands) ≡ true
is_free [] = refl
is_free (c ∷ cs) =
    ap is_simple_and_free (program_is c cs)
    ∙ ap₂ (λ a b. a && b) (ap₂ (λ a b. a && b) (leaves_simple (c ∷ cs)) (leaves_ready (c ∷ cs))) (leaves_free (c ∷ cs))
