use Rattle.std.proofs.Common.{List, length, map, ap, sym, ◌∙◌}
use Rattle.define_offices.specs.Tables.{Round}
use Rattle.define_desk.specs.Views.{published, published_of}
use Rattle.office_desk.proofs.PublishedRounds.{of_last}
use Rattle.office_desk.proofs.published.last_published.Goals as goal

pub returns-clause-is : goal.returns-clause-is
returns-clause-is c =
    let rounds = c.args.tables.now.rounds in
    c.published_of.ensures.is ∙ (ap (λ (all : List Round). published_of (map published rounds) (length all)) c.rounds.ensures ∙ sym (of_last rounds))
