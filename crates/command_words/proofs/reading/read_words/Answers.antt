use Rattle.std.proofs.Common.{◌∙◌, List, ap, map, string_bytes, subst}
use Rattle.command_words.specs.Table.{CommandEntry, command_entry}
use Rattle.command_words.specs.Words.{Says, given_by, given_in}
use Rattle.command_words.proofs.reading.read_words.Goals as goal

pub returns : goal.returns
unfolding given_in
returns c =
    subst (λ (table : List CommandEntry). Says (given_by table (map string_bytes c.args.words.now)) c.read_by.result)
    (ap (map command_entry) c.deref.ensures.value ∙ c.in-Ok.ensures) c.read_by.ensures
