use Rattle.std.proofs.Common.{◌≡◌, map, take, Some}
use Rattle.define_bundles.specs.BundleReading.{numbers_up_to as numbers_in}
use Rattle.bundle_text.proofs.lines.numbers_up_to.Given as goal

-- `numbers` are those that the fields read so far spell
abbrev pub invariant-loop-field : goal.invariant-loop-field
invariant-loop-field l = numbers_in l.limit (map (λ field. field.now) (take l.field-index l.fields)) ≡ Some l.numbers.items
