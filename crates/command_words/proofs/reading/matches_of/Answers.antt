use Rattle.std.proofs.Common.{ap, ◌∙◌, map, string_bytes}
use Rattle.clap.specs.Words.{is_simple, is_simple_and_free}
use Rattle.command_words.specs.Table.{command_entry}
use Rattle.command_words.proofs.PlainLemmas.{is_free, is_plain}
use Rattle.command_words.proofs.WordsLemmas.{given_taken, stop_is_right}
use Rattle.command_words.proofs.reading.matches_of.Goals as goal

pub returns-in-Ok-try_get_matches_from : goal.returns-in-Ok-try_get_matches_from
returns-in-Ok-try_get_matches_from c =
    let app = c.in-Ok.ensures in
    let said = c.in-Ok-try_get_matches_from.ensures in
    given_taken (map command_entry c.args.commands.now) _ (map string_bytes c.args.words.now) app _
    (said.kinds (ap is_simple_and_free app ∙ is_free (map command_entry c.args.commands.now)))
    (said.matches (ap is_simple app ∙ is_plain (map command_entry c.args.commands.now))).1

pub returns-in-Err : goal.returns-in-Err
returns-in-Err c =
    let app = c.in-Ok.ensures in
    stop_is_right (map command_entry c.args.commands.now) _ (map string_bytes c.args.words.now) app c.in-Err.error c.stop_of.result
    (c.in-Err.ensures.kinds (ap is_simple_and_free app ∙ is_free (map command_entry c.args.commands.now))) c.stop_of.ensures
