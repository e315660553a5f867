use Rattle.std.proofs.Common.{sym, ◌∙◌, rules, tests}
use Rattle.std.proofs.lemmas.Iterator.{YieldsList-from_slice}
use Rattle.std.proofs.lemmas.Iterator.Search.{all_from_yields_List}
use Rattle.csv.specs.Records.{fields_of}
use Rattle.define_pools.specs.Pool.{Category}
use Rattle.define_imports.specs.Cells.{has_once}
use Rattle.office_import.proofs.DraftLemmas.{list_all-map}
use Rattle.office_import.proofs.registers.have_columns.Goals as goal

pub returns : goal.returns
returns c =
    let header = fields_of c.args.header.now in
    all_from_yields_List (λ (x : Category). has_once header x.name) _ _ c.all.result c.all.ensures.ran (YieldsList-from_slice c.args.categories.now cc) (λ x b q k. search (rules, tests))
    ∙ sym (list_all-map (has_once header) (λ (x : Category). x.name) c.args.categories.now)
