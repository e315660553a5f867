use Rattle.std.proofs.Common.{◌≡◌, ◌++◌, map, take}
use Rattle.std.specs.List.{enumerate_from}
use Rattle.std.specs.Prelude.{slice_index}
use Rattle.define_lines.specs.Lines.{text_of}
use Rattle.command_questions.specs.Chances.{chance_line}
use Rattle.command_questions.proofs.chances.push_chances.Given as goal

-- `text` gained the lines of the first `i` volunteers
abbrev pub invariant-loop-i : goal.invariant-loop-i
invariant-loop-i l = l.text.items ≡ l.fn.text.items
    ++ text_of (map (λ (i, volunteer). chance_line volunteer.id (slice_index l.counts i) l.total) (enumerate_from 0 (take l.i l.volunteers)))
