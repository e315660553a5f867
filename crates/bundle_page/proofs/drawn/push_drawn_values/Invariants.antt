use Rattle.std.proofs.Common.{◌≡◌, ◌++◌, map, take}
use Rattle.std.specs.List.{enumerate_from}
use Rattle.define_lines.specs.Lines.{text_of}
use Rattle.define_pools.specs.Pool.{members_with}
use Rattle.bundle_page.specs.Drawn.{drawn_line}
use Rattle.bundle_page.proofs.drawn.push_drawn_values.Given as goal

-- `text` gained the rows of the category's first `value_place` values
abbrev pub invariant-loop-value_place : goal.invariant-loop-value_place
invariant-loop-value_place l = l.text.items ≡ l.fn.text.items
    ++ text_of (map (λ (value_place, value). drawn_line l.category.name value (members_with l.volunteers l.panel l.place value_place)) (enumerate_from 0 (take l.value_place l.category.values)))
