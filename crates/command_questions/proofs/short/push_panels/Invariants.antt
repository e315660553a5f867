use Rattle.std.proofs.Common.{◌≡◌, ◌++◌, map, take}
use Rattle.define_lines.specs.Lines.{text_of}
use Rattle.define_bundles.specs.BundleText.{panel_line}
use Rattle.command_questions.proofs.short.push_panels.Given as goal

abbrev pub invariant-loop-row : goal.invariant-loop-row
invariant-loop-row l = l.text.items ≡ l.fn.text.items ++ text_of (map panel_line (take l.row-index l.rows))
