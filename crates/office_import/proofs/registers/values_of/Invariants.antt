use Rattle.std.proofs.Common.{◌≡◌, map, take}
use Rattle.csv.specs.Records.{fields_of}
use Rattle.define_pools.specs.Building.{category_names}
use Rattle.define_imports.specs.Cells.{cell_named}
use Rattle.office_import.proofs.registers.values_of.Given as goal

abbrev pub invariant-loop-category : goal.invariant-loop-category
invariant-loop-category l = l.values.items ≡ map (cell_named (fields_of l.header) (fields_of l.row)) (category_names (take l.category-index l.categories))
