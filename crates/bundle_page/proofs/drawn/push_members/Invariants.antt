use Rattle.std.proofs.Common.{◌≡◌, ◌++◌, map, take}
use Rattle.define_lines.specs.Lines.{text_of}
use Rattle.bundle_page.specs.Drawn.{member_line}
use Rattle.bundle_page.proofs.drawn.push_members.Given as goal

-- `text` gained the lines of the members read so far
abbrev pub invariant-loop-number : goal.invariant-loop-number
invariant-loop-number l = l.text.items ≡ l.fn.text.items ++ text_of (map (member_line l.volunteers) (take l.number-index l.panel))
