use Rattle.std.proofs.Common.{rules, tests}
use Rattle.std.specs.Str.{bytes_eq}
use Rattle.std.proofs.lemmas.Iterator.{YieldsList-from_slice}
use Rattle.std.proofs.lemmas.Iterator.Search.{find_from_yields_List}
use Rattle.define_offices.specs.Tables.{Entry}
use Rattle.office_steps.proofs.draws.row_with_id.Goals as goal

pub returns : goal.returns
returns c =
    let id = c.args.id.now in
    find_from_yields_List (λ (x : Entry). bytes_eq id x.id) _ _ c.find.result c.find.ensures.ran
    (YieldsList-from_slice c.args.register.now (cc)) (λ x b q k. search (rules, tests))
