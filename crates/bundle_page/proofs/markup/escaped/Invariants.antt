use Rattle.std.proofs.Common.{◌≡◌, take}
use Rattle.bundle_page.specs.Markup.{escaped}
use Rattle.bundle_page.proofs.markup.escaped.Given as goal

-- `text` has the bytes of the name read so far, escaped
abbrev pub invariant-loop-byte : goal.invariant-loop-byte
invariant-loop-byte l = l.text.items ≡ escaped (take l.byte-index l.name)
