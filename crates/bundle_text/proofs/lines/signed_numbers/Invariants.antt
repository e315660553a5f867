use Rattle.std.proofs.Common.{◌≡◌, map, take, Some}
use Rattle.define_bundles.specs.BundleReading.{signed_of}
use Rattle.bundle_text.proofs.lines.signed_numbers.Given as goal

-- `numbers` are those that the fields read so far spell
abbrev pub invariant-loop-field : goal.invariant-loop-field
invariant-loop-field l = signed_of (map (λ field. field.now) (take l.field-index l.fields)) ≡ Some l.numbers.items
