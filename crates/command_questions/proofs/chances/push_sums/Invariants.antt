use Rattle.std.proofs.Common.{◌≡◌, ◌++◌, take}
use Rattle.std.specs.List.{enumerate_from, flat_map}
use Rattle.define_lines.specs.Lines.{text_of}
use Rattle.command_questions.specs.Chances.{value_lines}
use Rattle.command_questions.proofs.chances.push_sums.Given as goal

-- `text` gained the lines of the first `place` categories
abbrev pub invariant-loop-place : goal.invariant-loop-place
invariant-loop-place l = l.text.items ≡ l.fn.text.items
    ++ text_of (flat_map (λ (place, category). value_lines l.pool.volunteers l.counts l.total place category) (enumerate_from 0 (take l.place l.pool.categories)))
