use Rattle.command_office.proofs.Again.{repeats_change_nothing}
use Rattle.command_office.proofs.promises.repeats_change_nothing.Goals as goal

pub returns : goal.returns
returns c =
    repeats_change_nothing c.repeats_change_nothing.ensures.charter c.repeats_change_nothing.ensures.rules c.repeats_change_nothing.ensures.bounds c.repeats_change_nothing.ensures.others
    c.repeats_change_nothing.ensures.spared c.refused_again.ensures.undrop c.refused_again.ensures.reopen
