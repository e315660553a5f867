-- Numbers up to the greatest total as signed and unsigned numbers of 128 bits.
use Rattle.std.proofs.Common.{◌≡◌, ◌<◌, ◌≤◌, ◌≤ℤ◌, ◌^◌, ℕ, ℤ, pos, refl, sym, ap, subst, ◌∙◌, arith, FitsSigned, to_z, of_z}
use Rattle.std.specs.Prelude.{unsigned_abs}
use Rattle.std.specs.Int.{w128}
use Rattle.std.proofs.lemmas.Bool.{ltb-true}
use Rattle.std.proofs.lemmas.Int.{to_z-of_z, to_z_pos, ints}
use Rattle.define_runs.specs.Spreading.{greatest_total}

pub unsigned_is : (r : ℕ) (z : ℤ) (n : ℕ) → r ≡ unsigned_abs (to_z w128 (of_z w128 z)) → FitsSigned w128 z → z ≡ pos n → r ≡ n
unsigned_is r z n e f g = e ∙ ap unsigned_abs (to_z-of_z w128 z f ∙ g)

pub total_below : greatest_total < 2 ^ 127
total_below = ltb-true greatest_total (2 ^ 127) refl

pub signed_is : (n : ℕ) → n ≤ greatest_total → to_z w128 n ≡ pos n
signed_is n l = to_z_pos w128 n (let t = total_below in omega arith)

pub not_negative : (n : ℕ) → n ≤ greatest_total → pos 0 ≤ℤ to_z w128 n
not_negative n l = subst (λ z. pos 0 ≤ℤ z) (sym (signed_is n l)) (omega (arith, ints))
