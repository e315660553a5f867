-- Lemmas for the loop that finds how many digits a group has: a size with fewer groups than tickets is too small, the first size with
-- enough groups is the right one, and 38 digits are enough for 10 ^ 38 tickets.
use Rattle.std.proofs.Common.{◌≡◌, ℕ, ◌+◌, ◌^◌, ◌<◌, ◌≤◌, subst, arith, ⊎_elim}
use Rattle.std.proofs.Math.Nat.{le_antisymm}
use Rattle.std.proofs.lemmas.Bool.{cases_lt}
use Rattle.define_draws.specs.Dice.{group_size}
use Rattle.define_draws.proofs.DiceLemmas.{size-enough, size-least}

pub next_size : (total size : ℕ) → size ≤ group_size total → 10 ^ size < total → size + 1 ≤ group_size total
next_size total size reach few =
    ⊎_elim
    (λ (less : size < group_size total). omega arith)
    (λ (more : group_size total ≤ size).
    let enough : total ≤ 10 ^ size = subst (λ s. total ≤ 10 ^ s) (le_antisymm more reach) (size-enough total) in absurd (omega arith))
    (cases_lt size (group_size total))

pub size-few : (total : ℕ) → total ≤ 10 ^ 38 → group_size total ≤ 38
size-few total most = size-least total 38 (omega arith) most

pub is_size : (total size : ℕ) → 1 ≤ size → size ≤ group_size total → total ≤ 10 ^ size → size ≡ group_size total
is_size total size some reach enough = le_antisymm reach (size-least total size some enough)
