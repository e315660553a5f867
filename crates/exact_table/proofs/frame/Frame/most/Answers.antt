use Rattle.std.proofs.Common.{◌≡◌, ℕ, ◌-◌, ◌*◌, ◌%◌, ◌^◌, ◌<◌, ◌≤◌, pos, ap, ◌∙◌, subst, arith, to_z}
use Rattle.std.proofs.Math.Nat.{pow-le-pow_right}
use Rattle.std.specs.Int.{w128}
use Rattle.std.proofs.lemmas.Int.{ints, to_z_pos}
use Rattle.std.proofs.lemmas.Nat.{one_shl, pow_below, pow_pos}
use Rattle.define_rows.specs.Width.{width_limit}
use Rattle.exact_table.proofs.frame.Frame.most.Goals as goal

power_small : (bits : ℕ) → bits ≤ 127 → 2 ^ bits < 2 ^ 128
power_small bits l = pow_below bits 128 (omega arith)

shifted : (bits : ℕ) → bits ≤ 127 → (1 * 2 ^ bits) % 2 ^ 128 ≡ 2 ^ bits
shifted bits l = one_shl bits 128 (omega arith)

most_small : (bits : ℕ) → bits ≤ 127 → width_limit bits < 2 ^ 127
most_small bits l = let two : 0 < 2 = omega arith in omega (arith, pow-le-pow_right {n = 2} two {i = bits} {j = 127} l, pow_pos bits)

pub overflow_cast-result-2 : goal.overflow_cast-result-2
overflow_cast-result-2 c = omega (arith, ints, shifted c.self.inside.bits c.self.invariant.few_bits, most_small c.self.inside.bits c.self.invariant.few_bits)

pub returns-clause-value : goal.returns-clause-value
returns-clause-value c =
    let e : (1 * 2 ^ c.self.inside.bits) % 2 ^ 128 - 1 ≡ width_limit c.self.inside.bits = omega (arith, shifted c.self.inside.bits c.self.invariant.few_bits) in
    ap (to_z w128) e ∙ to_z_pos w128 (width_limit c.self.inside.bits) (most_small c.self.inside.bits c.self.invariant.few_bits) ∙ ap (λ table. pos (width_limit table.bits)) c.self.view_is

pub returns-clause-small : goal.returns-clause-small
returns-clause-small c = subst (λ bits. width_limit bits < 2 ^ 127) (ap (λ table. table.bits) c.self.view_is) (most_small c.self.inside.bits c.self.invariant.few_bits)
