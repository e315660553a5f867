use Rattle.std.proofs.Common.{◌≡◌, ◌++◌, map, take}
use Rattle.define_lines.specs.Lines.{text_of}
use Rattle.define_bundles.specs.BundleText.{stage_line}
use Rattle.bundle_text.proofs.writing.push_stages.Given as goal

abbrev pub invariant-loop-stage : goal.invariant-loop-stage
invariant-loop-stage l = l.text.items ≡ l.fn.text.items ++ text_of (map stage_line (take l.stage-index l.stages))
