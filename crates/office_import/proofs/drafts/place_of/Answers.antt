use Rattle.std.proofs.Common.{rules, tests}
use Rattle.std.specs.Str.{bytes_eq}
use Rattle.std.proofs.lemmas.Iterator.{YieldsList-from_slice}
use Rattle.std.proofs.lemmas.Iterator.Search.{position_from_yields_List}
use Rattle.define_pools.specs.Pool.{Category}
use Rattle.office_import.proofs.drafts.place_of.Goals as goal

pub returns-clause-value : goal.returns-clause-value
returns-clause-value c =
    let name = c.args.name.now in
    position_from_yields_List (λ (draft : Category). bytes_eq name draft.name) _ _ c.position.result c.position.ensures.ran (YieldsList-from_slice c.args.drafts.now cc) (λ x b q k. search (rules, tests))
