use Rattle.std.proofs.Common.{◌≡◌, ◌≤◌, ◌*◌, take}
use Rattle.quota_loosen.specs.Sums.{missed_in_all}
use Rattle.quota_loosen.proofs.tallies.missed_by_all.Given as goal

abbrev pub invariant-loop-category : goal.invariant-loop-category
invariant-loop-category l = (l.missed ≡ missed_in_all (take l.category l.bounds) l.held l.later) × (l.missed ≤ 100000000 * l.category)
