use Rattle.std.proofs.Common.{◌≡◌, ◌++◌, take}
use Rattle.std.specs.List.{enumerate_from, flat_map}
use Rattle.define_lines.specs.Lines.{text_of}
use Rattle.bundle_page.specs.Page.{category_parts}
use Rattle.bundle_page.proofs.categories.push_categories.Given as goal

-- `text` gained the parts of the first `place` categories
abbrev pub invariant-loop-place : goal.invariant-loop-place
invariant-loop-place l = l.text.items ≡ l.fn.text.items
    ++ text_of (flat_map (λ (place, category). category_parts l.pool l.counts l.total place category) (enumerate_from 0 (take l.place l.pool.categories)))
