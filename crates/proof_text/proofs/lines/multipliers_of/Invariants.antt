use Rattle.std.proofs.Common.{◌≡◌, ◌*◌, drop, map}
use Rattle.define_proofs.specs.ProofReading.{multipliers_of as multipliers_in}
use Rattle.proof_text.proofs.Multipliers.{behind}
use Rattle.proof_text.proofs.lines.multipliers_of.Given as goal

-- the multipliers so far, and then those of the remaining fields, are the multipliers of all fields
abbrev pub invariant-loop-i : goal.invariant-loop-i
invariant-loop-i l = behind l.multipliers.items (multipliers_in (map (λ field. field.now) (drop (2 * l.i) l.fields))) ≡ multipliers_in (map (λ field. field.now) l.fields)
