use Rattle.std.proofs.Common.{◌≡◌, ◌++◌, take}
use Rattle.std.specs.List.{enumerate_from, flat_map}
use Rattle.define_lines.specs.Lines.{text_of}
use Rattle.bundle_page.specs.Drawn.{drawn_value_lines}
use Rattle.bundle_page.proofs.drawn.push_drawn_categories.Given as goal

-- `text` gained the rows of the first `place` categories
abbrev pub invariant-loop-place : goal.invariant-loop-place
invariant-loop-place l = l.text.items ≡ l.fn.text.items
    ++ text_of (flat_map (λ (place, category). drawn_value_lines l.pool.volunteers l.panel place category) (enumerate_from 0 (take l.place l.pool.categories)))
