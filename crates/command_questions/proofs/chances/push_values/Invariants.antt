use Rattle.std.proofs.Common.{◌≡◌, ◌++◌, map, take}
use Rattle.std.specs.List.{enumerate_from}
use Rattle.define_lines.specs.Lines.{text_of}
use Rattle.bundle_page.specs.Sums.{count_with}
use Rattle.command_questions.specs.Chances.{sum_line}
use Rattle.command_questions.proofs.chances.push_values.Given as goal

-- `text` gained the lines of the category's first `value_place` values
abbrev pub invariant-loop-value_place : goal.invariant-loop-value_place
invariant-loop-value_place l = l.text.items ≡ l.fn.text.items
    ++ text_of (map (λ (value_place, value). sum_line l.category.name value (count_with l.volunteers l.counts l.place value_place) l.total) (enumerate_from 0 (take l.value_place l.category.values)))
