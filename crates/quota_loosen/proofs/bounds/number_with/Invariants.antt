use Rattle.std.proofs.Common.{◌≡◌, ◌≤◌, take}
use Rattle.define_pools.specs.Pool.{members_with}
use Rattle.quota_loosen.proofs.bounds.number_with.Given as goal

abbrev pub invariant-loop-i : goal.invariant-loop-i
invariant-loop-i l = (l.count ≤ l.i-index) × (l.count ≡ members_with l.volunteers (take l.i-index l.team) l.category l.value)
