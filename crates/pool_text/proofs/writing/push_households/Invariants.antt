use Rattle.std.proofs.Common.{◌≡◌, ◌++◌, take}
use Rattle.define_lines.specs.Lines.{text_of}
use Rattle.define_bundles.specs.PoolText.{household_lines}
use Rattle.pool_text.proofs.writing.push_households.Given as goal

abbrev pub invariant-loop-volunteer : goal.invariant-loop-volunteer
invariant-loop-volunteer l = l.text.items ≡ l.fn.text.items ++ text_of (household_lines (take l.volunteer-index l.volunteers))
