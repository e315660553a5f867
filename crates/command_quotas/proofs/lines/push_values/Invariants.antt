use Rattle.std.proofs.Common.{◌≡◌, ◌++◌, length, take}
use Rattle.std.specs.List.{flat_map, zip}
use Rattle.define_lines.specs.Lines.{text_of}
use Rattle.command_meanings.specs.LooseningLines.{moved_line}
use Rattle.command_quotas.proofs.lines.push_values.Given as goal

-- `text` gained the lines of the values read so far
abbrev pub invariant-loop-value : goal.invariant-loop-value
invariant-loop-value l = l.text.items ≡ l.fn.text.items ++ text_of (flat_map (moved_line l.category) (take (length l.yielded) (zip l.values l.loosened)))
