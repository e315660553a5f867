use Rattle.std.proofs.Common.{sym, ◌∙◌, rules, tests}
use Rattle.std.specs.Str.{bytes_eq}
use Rattle.std.proofs.lemmas.Iterator.{YieldsList-from_slice}
use Rattle.std.proofs.lemmas.Iterator.Search.{any_from_yields_List}
use Rattle.define_pools.specs.Pool.{Category}
use Rattle.office_import.proofs.DraftLemmas.{list_any-map}
use Rattle.office_import.proofs.drafts.has_category.Goals as goal

pub returns : goal.returns
returns c =
    let name = c.args.name.now in
    any_from_yields_List (λ (x : Category). bytes_eq name x.name) _ _ c.any.result c.any.ensures.ran (YieldsList-from_slice c.args.drafts.now cc) (λ x b q k. search (rules, tests))
    ∙ sym (list_any-map (bytes_eq name) (λ (x : Category). x.name) c.args.drafts.now)
