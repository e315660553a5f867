use Rattle.std.proofs.Common.{◌≡◌, ◌++◌, length, take}
use Rattle.std.specs.List.{flat_map, zip}
use Rattle.define_lines.specs.Lines.{text_of}
use Rattle.command_meanings.specs.LooseningLines.{moved_in}
use Rattle.command_quotas.proofs.lines.push_categories.Given as goal

-- `text` gained the lines of the categories read so far
abbrev pub invariant-loop-category : goal.invariant-loop-category
invariant-loop-category l = l.text.items ≡ l.fn.text.items ++ text_of (flat_map moved_in (take (length l.yielded) (zip l.categories l.loosened)))
