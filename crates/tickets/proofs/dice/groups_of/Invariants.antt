use Rattle.std.proofs.Common.{◌≡◌, ℕ, ◌-◌, ◌<◌, ◌≤◌, ◌^◌}
use Rattle.tickets.proofs.dice.groups_of.Given as goal

-- `count` is the number of groups of `size` digits. Each smaller size has fewer groups than there are tickets
abbrev pub invariant-loop-count : goal.invariant-loop-count
invariant-loop-count l = record {
  power : l.count ≡ 10 ^ l.size;
  some : 1 ≤ l.size;
  few : l.size ≤ 38;
  smaller : (size : ℕ) → 1 ≤ size → size < l.size → 10 ^ size < l.total;
}

abbrev pub decreases-loop-count : goal.decreases-loop-count
decreases-loop-count l = 38 - l.size
