use Rattle.std.proofs.Common.{◌∙◌, ap, option_map}
use Rattle.std.proofs.lemmas.Result.{IfOk-weaker}
use Rattle.std.specs.Prelude.{option_and_then}
use Rattle.std.specs.Str.{bytes_eq}
use Rattle.clap.proofs.WalkLemmas.{find-map}
use Rattle.clap.specs.Words.{found_of, rows_of}
use Rattle.command_words.specs.Table.{CommandEntry, command_entry}
use Rattle.command_words.specs.Words.{command_given}
use Rattle.command_words.proofs.values.named_given.Goals as goal

pub returns-in-Some : goal.returns-in-Some
returns-in-Some c =
    let found =
    ap (option_map command_entry) c.in-Some.ensures
    ∙ find-map (λ (command : CommandEntry). bytes_eq command.name c.args.name.now) command_entry c.args.commands.now in
    IfOk-weaker c.command_given.result _ _
    (λ given is. is ∙ ap (option_and_then (command_given (rows_of (found_of c.args.matches.now)))) found) c.command_given.ensures

pub returns-in-None : goal.returns-in-None
returns-in-None c =
    let found =
    ap (option_map command_entry) c.in-None.ensures
    ∙ find-map (λ (command : CommandEntry). bytes_eq command.name c.args.name.now) command_entry c.args.commands.now in
    ap (option_and_then (command_given (rows_of (found_of c.args.matches.now)))) found
