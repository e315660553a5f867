use Rattle.std.proofs.Common.{◌≡◌, ◌++◌, take}
use Rattle.std.specs.List.{flat_map}
use Rattle.define_lines.specs.Lines.{tabbed}
use Rattle.define_proofs.specs.ProofText.{multiplier_fields}
use Rattle.proof_text.proofs.writing.push_multipliers.Given as goal

abbrev pub invariant-loop-multiplier : goal.invariant-loop-multiplier
invariant-loop-multiplier l = l.text.items ≡ l.fn.text.items ++ tabbed (flat_map multiplier_fields (take l.multiplier-index l.multipliers))
