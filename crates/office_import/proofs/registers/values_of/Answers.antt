use Rattle.std.proofs.Common.{◌≡◌, ◌∙◌, true, ap, sym, List, ℕ, get_or}
use Rattle.std.specs.List.{list_all}
use Rattle.std.specs.Str.{is_utf8}
use Rattle.define_pools.proofs.Each.{passes_at}
use Rattle.csv.specs.Records.{fields_of}
use Rattle.define_pools.specs.Pool.{Category}
use Rattle.define_imports.specs.Cells.{cell_named}
use Rattle.office_import.proofs.DraftLemmas.{list_all-map}
use Rattle.office_import.proofs.registers.values_of.Goals as goal

pub name_of-requires : goal.name_of-requires
name_of-requires c =
    let header = fields_of c.args.header.now in let row = fields_of c.args.row.now in let categories = c.args.categories.now in
    let i = c.loop-category.category-index in let d = c.category-item.result in
    let name : c.as_bytes.result.now ≡ (get_or categories i d).name = c.as_bytes.ensures ∙ (c.name.ensures ∙ ap (λ (k : Category). k.name) c.category-item.is) in
    let each : list_all (λ (k : Category). is_utf8 (cell_named header row k.name)) categories ≡ true = sym (list_all-map (λ (n : List ℕ). is_utf8 (cell_named header row n)) (λ (k : Category). k.name) categories) ∙ c.requires in
    ap is_utf8 (c.cell_named-value.ensures ∙ ap (cell_named header row) name) ∙ passes_at (λ (k : Category). is_utf8 (cell_named header row k.name)) categories i d each c.loop-category-test.true
