use Rattle.std.proofs.Common.{◌≡◌, ◌++◌, take}
use Rattle.define_lines.specs.Lines.{text_of}
use Rattle.define_covers.specs.CoverText.{trees_from}
use Rattle.cover_text.proofs.writing.push_trees.Given as goal

abbrev pub invariant-loop-i : goal.invariant-loop-i
invariant-loop-i l = l.text.items ≡ l.fn.text.items ++ text_of (trees_from 1 (take l.i l.trees))
