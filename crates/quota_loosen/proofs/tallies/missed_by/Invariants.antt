use Rattle.std.proofs.Common.{◌≡◌, ◌≤◌, ◌*◌, take}
use Rattle.quota_loosen.specs.Sums.{missed_in}
use Rattle.quota_loosen.proofs.tallies.missed_by.Given as goal

abbrev pub invariant-loop-value : goal.invariant-loop-value
invariant-loop-value l = (l.missed ≡ missed_in (take l.value l.values) l.held l.later l.category) × (l.missed ≤ 2000000 * l.value)
