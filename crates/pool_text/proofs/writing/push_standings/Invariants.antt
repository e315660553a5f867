use Rattle.std.proofs.Common.{◌≡◌, ◌++◌, take}
use Rattle.define_lines.specs.Lines.{text_of}
use Rattle.define_bundles.specs.PoolText.{standing_lines}
use Rattle.pool_text.proofs.writing.push_standings.Given as goal

abbrev pub invariant-loop-volunteer : goal.invariant-loop-volunteer
invariant-loop-volunteer l = l.text.items ≡ l.fn.text.items ++ text_of (standing_lines (take l.volunteer-index l.volunteers))
