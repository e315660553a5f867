use Rattle.std.proofs.Common.{◌≡◌, ◌++◌, take}
use Rattle.std.specs.List.{enumerate_from, flat_map}
use Rattle.define_lines.specs.Lines.{text_of}
use Rattle.bundle_page.specs.Numbers.{share_of, sizes_of}
use Rattle.bundle_page.specs.Page.{value_parts}
use Rattle.bundle_page.proofs.categories.push_values.Given as goal

-- `text` gained the parts of the category's first `value_place` values
abbrev pub invariant-loop-value_place : goal.invariant-loop-value_place
invariant-loop-value_place l = l.text.items ≡ l.fn.text.items
    ++ text_of (flat_map (λ (value_place, value). value_parts value.name (share_of l.pool.volunteers l.counts l.total l.place value_place value) (sizes_of l.pool))
    (enumerate_from 0 (take l.value_place l.category.values)))
