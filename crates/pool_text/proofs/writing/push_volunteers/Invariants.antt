use Rattle.std.proofs.Common.{◌≡◌, ◌++◌, map, take}
use Rattle.define_lines.specs.Lines.{text_of}
use Rattle.define_bundles.specs.PoolText.{volunteer_line}
use Rattle.pool_text.proofs.writing.push_volunteers.Given as goal

abbrev pub invariant-loop-volunteer : goal.invariant-loop-volunteer
invariant-loop-volunteer l = l.text.items ≡ l.fn.text.items ++ text_of (map (volunteer_line l.categories) (take l.volunteer-index l.volunteers))
