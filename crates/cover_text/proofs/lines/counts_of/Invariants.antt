use Rattle.std.proofs.Common.{◌≡◌, drop, map}
use Rattle.define_bundles.specs.BundleReading.{numbers_up_to}
use Rattle.define_covers.specs.CoverRanges.{greatest_count}
use Rattle.cover_text.proofs.Counts.{behind}
use Rattle.cover_text.proofs.lines.counts_of.Given as goal

-- the counts so far, and then those of the remaining fields, are the counts of all fields
abbrev pub invariant-loop-field : goal.invariant-loop-field
invariant-loop-field l = behind l.counts.items (numbers_up_to greatest_count (map (λ field. field.now) (drop l.field-index l.fields))) ≡ numbers_up_to greatest_count (map (λ field. field.now) l.fields)
