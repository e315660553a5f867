use Rattle.std.proofs.Common.{◌∙◌, sym, rules, tests}
use Rattle.std.specs.Str.{bytes_eq}
use Rattle.std.proofs.lemmas.Iterator.{YieldsList-from_slice}
use Rattle.std.proofs.lemmas.Iterator.Search.{find_from_yields_List}
use Rattle.define_pools.specs.Pool.{Category}
use Rattle.office_import.proofs.DraftLemmas.{values_found, values_not_found}
use Rattle.office_import.proofs.drafts.values_of.Goals as goal

pub returns-in-Some : goal.returns-in-Some
returns-in-Some c =
    let name = c.args.name.now in
    let found = find_from_yields_List (λ (x : Category). bytes_eq name x.name) _ _ c.find.result c.find.ensures.ran (YieldsList-from_slice c.args.drafts.now cc) (λ x b q k. search (rules, tests)) in
    c.values.ensures ∙ values_found c.args.drafts.now name c.in-Some.draft.now (sym (rw c.in-Some.is at found))

pub returns-in-None : goal.returns-in-None
returns-in-None c =
    let name = c.args.name.now in
    let found = find_from_yields_List (λ (x : Category). bytes_eq name x.name) _ _ c.find.result c.find.ensures.ran (YieldsList-from_slice c.args.drafts.now cc) (λ x b q k. search (rules, tests)) in
    values_not_found c.args.drafts.now name (sym (rw c.in-None.is at found))
