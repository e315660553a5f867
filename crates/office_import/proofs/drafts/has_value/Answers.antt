use Rattle.std.proofs.Common.{sym, ap, ◌∙◌, rules, tests}
use Rattle.std.specs.Str.{bytes_eq}
use Rattle.std.proofs.lemmas.Iterator.{YieldsList-from_slice}
use Rattle.std.proofs.lemmas.Iterator.Search.{any_from_yields_List}
use Rattle.define_pools.specs.Pool.{BoundedValue}
use Rattle.define_pools.specs.Building.{value_names}
use Rattle.define_pools.specs.Lists.{includes_list}
use Rattle.office_import.proofs.DraftLemmas.{list_any-map}
use Rattle.office_import.proofs.drafts.has_value.Goals as goal

pub returns : goal.returns
returns c =
    let name = c.args.name.now in
    any_from_yields_List (λ (x : BoundedValue). bytes_eq name x.name) _ _ c.any.result c.any.ensures.ran (YieldsList-from_slice c.values_of.result.now cc) (λ x b q k. search (rules, tests))
    ∙ (sym (list_any-map (bytes_eq name) (λ (x : BoundedValue). x.name) c.values_of.result.now)
    ∙ ap (λ values. includes_list (value_names values) name) c.values_of.ensures)
