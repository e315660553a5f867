use Rattle.std.proofs.Common.{sym, ◌∙◌, rules, tests}
use Rattle.std.specs.Str.{bytes_eq}
use Rattle.std.proofs.lemmas.Iterator.{YieldsList-from_slice}
use Rattle.std.proofs.lemmas.Iterator.Search.{any_from_yields_List}
use Rattle.define_pools.specs.Pool.{Volunteer}
use Rattle.pool_model.proofs.NameLists.{list_any-map}
use Rattle.pool_model.proofs.names.is_volunteer.Goals as goal

pub returns : goal.returns
returns c =
    let name = c.args.id.now in
    any_from_yields_List (λ (x : Volunteer). bytes_eq name x.id) _ _ c.any.result c.any.ensures.ran (YieldsList-from_slice c.args.volunteers.now cc) (λ x b q k. search (rules, tests))
    ∙ sym (list_any-map (bytes_eq name) (λ (x : Volunteer). x.id) c.args.volunteers.now)
