-- Shares: a product over the total, as a whole number and a remainder.
use Rattle.std.proofs.Common.{◌≡◌, ℕ, ◌+◌, ◌*◌, ◌/◌, ◌%◌, ◌<◌, ◌≤◌, sym, ap, ◌∙◌, arith}
use Rattle.std.proofs.lemmas.Nat.{div-mul-add, mod-mul-add}
use Rattle.std.proofs.Math.Nat.{mul-le-mul_right}
use Rattle.define_draws.proofs.ByPlace.{le_unscaled}
use Rattle.short_tickets.specs.declared.shares.Share.{Share}
use Rattle.short_tickets.specs.Parts.{IsShare}

pub whole_is : (total product : ℕ) (share : Share) → IsShare total product share → share.whole ≡ product / total
whole_is total product share is = sym (div-mul-add share.whole total share.remainder is.below) ∙ ap (λ n. n / total) is.parts

pub remainder_is : (total product : ℕ) (share : Share) → IsShare total product share → share.remainder ≡ product % total
remainder_is total product share is = sym (mod-mul-add share.whole total share.remainder is.below) ∙ ap (λ n. n % total) is.parts

-- if a weight is at most the total, its share, rounded down, is at most the number of tickets
pub whole_within : (total tickets weight : ℕ) (share : Share) → 1 ≤ total → weight ≤ total → IsShare total (weight * tickets) share → share.whole ≤ tickets
whole_within total tickets weight share some within is =
    le_unscaled share.whole tickets total some (let most : weight * tickets ≤ total * tickets = mul-le-mul_right tickets within in omega (arith, is.parts, most))

-- if the number of tickets is even, the share is twice the share of half of them
pub doubled : (total tickets weight : ℕ) (half double : Share) → tickets % 2 ≡ 0 → IsShare total (weight * (tickets / 2)) half →
    IsShare total (half.whole * 2 * total + half.remainder * 2) double → IsShare total (weight * tickets) double
doubled total tickets weight half double even first second =
    let n = tickets / 2 in
    let e : weight * tickets ≡ weight * (2 * n) = ap (λ t. weight * t) (let t : tickets ≡ 2 * n = omega arith in t) in
    record { parts = omega (arith, e, first.parts, second.parts); below = second.below }

-- if the number of tickets is odd: `half` is the share of `tickets / 2` tickets, `double` is twice `half`, and the share of all tickets is
-- `double` with the weight over the total added
pub doubled_more : (total tickets weight : ℕ) (half double share : Share) → tickets % 2 ≡ 1 → IsShare total (weight * (tickets / 2)) half →
    IsShare total (half.whole * 2 * total + half.remainder * 2) double → IsShare total (double.whole * total + (double.remainder + weight)) share →
    IsShare total (weight * tickets) share
doubled_more total tickets weight half double share odd first second third =
    let n = tickets / 2 in
    let e : weight * tickets ≡ weight * (2 * n + 1) = ap (λ t. weight * t) (let t : tickets ≡ 2 * n + 1 = omega arith in t) in
    record { parts = omega (arith, e, first.parts, second.parts, third.parts); below = third.below }
