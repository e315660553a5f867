use Rattle.std.proofs.Common.{sym, ◌∙◌, rules, tests}
use Rattle.std.specs.Str.{bytes_eq}
use Rattle.std.proofs.lemmas.Iterator.{YieldsList-from_slice}
use Rattle.std.proofs.lemmas.Iterator.Search.{position_from_yields_List}
use Rattle.define_pools.specs.Pool.{BoundedValue}
use Rattle.pool_model.proofs.NameLists.{place_of-is_position}
use Rattle.pool_model.proofs.names.place.Goals as goal

pub returns : goal.returns
returns c =
    let name = c.args.name.now in
    position_from_yields_List (λ (value : BoundedValue). bytes_eq name value.name) _ _ c.position.result c.position.ensures.ran (YieldsList-from_slice c.args.values.now cc) (λ x b q k. search (rules, tests))
    ∙ sym (place_of-is_position c.args.values.now name)
