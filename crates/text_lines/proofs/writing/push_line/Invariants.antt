use Rattle.std.proofs.Common.{◌≡◌, ◌++◌, map, take}
use Rattle.define_lines.specs.Lines.{tabbed}
use Rattle.text_lines.proofs.writing.push_line.Given as goal

-- the word and the fields read so far are appended
abbrev pub invariant-loop-field : goal.invariant-loop-field
invariant-loop-field l = l.text.items ≡ l.fn.text.items ++ l.word ++ tabbed (map (λ field. field.now) (take l.field-index l.fields))
