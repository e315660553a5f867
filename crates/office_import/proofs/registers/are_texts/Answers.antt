use Rattle.std.proofs.Common.{sym, ◌∙◌, rules, tests, List, ℕ}
use Rattle.std.specs.Str.{is_utf8}
use Rattle.std.proofs.lemmas.Iterator.{YieldsList-from_slice}
use Rattle.std.proofs.lemmas.Iterator.Search.{all_from_yields_List}
use Rattle.csv.specs.Records.{fields_of}
use Rattle.define_pools.specs.Pool.{Category}
use Rattle.define_imports.specs.Cells.{cell_named}
use Rattle.office_import.proofs.DraftLemmas.{list_all-map}
use Rattle.office_import.proofs.registers.are_texts.Goals as goal

pub returns : goal.returns
returns c =
    let header = fields_of c.args.header.now in let row = fields_of c.args.row.now in
    all_from_yields_List (λ (x : Category). is_utf8 (cell_named header row x.name)) _ _ c.all.result c.all.ensures.ran (YieldsList-from_slice c.args.categories.now cc) (λ x b q k. search (rules, tests))
    ∙ sym (list_all-map (λ (name : List ℕ). is_utf8 (cell_named header row name)) (λ (x : Category). x.name) c.args.categories.now)
