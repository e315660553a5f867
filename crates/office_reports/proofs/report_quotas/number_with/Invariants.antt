use Rattle.std.proofs.Common.{◌≡◌, ◌≤◌, take}
use Rattle.define_pools.specs.Pool.{members_with}
use Rattle.office_reports.proofs.report_quotas.number_with.Given as goal

-- `count` is how many of the volunteers read so far have the value
abbrev pub invariant-loop-i : goal.invariant-loop-i
invariant-loop-i l = (l.count ≤ l.i-index) × (l.count ≡ members_with l.volunteers (take l.i-index l.group) l.place l.value_place)
