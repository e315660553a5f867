use Rattle.std.proofs.Common.{◌≡◌, ◌++◌, map, take}
use Rattle.define_lines.specs.Lines.{text_of}
use Rattle.define_covers.specs.CoverText.{front_line}
use Rattle.cover_text.proofs.writing.push_fronts.Given as goal

abbrev pub invariant-loop-line : goal.invariant-loop-line
invariant-loop-line l = l.text.items ≡ l.fn.text.items ++ text_of (map front_line (take l.line-index l.lines))
