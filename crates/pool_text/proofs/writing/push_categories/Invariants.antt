use Rattle.std.proofs.Common.{◌≡◌, ◌++◌, take}
use Rattle.std.specs.List.{flat_map}
use Rattle.define_lines.specs.Lines.{text_of}
use Rattle.define_bundles.specs.PoolText.{category_lines}
use Rattle.pool_text.proofs.writing.push_categories.Given as goal

abbrev pub invariant-loop-category : goal.invariant-loop-category
invariant-loop-category l = l.text.items ≡ l.fn.text.items ++ text_of (flat_map category_lines (take l.category-index l.categories))
