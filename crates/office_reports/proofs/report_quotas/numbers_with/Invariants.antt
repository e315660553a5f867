use Rattle.std.proofs.Common.{◌≡◌, map, take}
use Rattle.define_offices.specs.Report.{numbers_with}
use Rattle.office_reports.proofs.report_quotas.numbers_with.Given as goal

-- `numbers` has, for each group read so far, how many of its members have the value
abbrev pub invariant-loop-group : goal.invariant-loop-group
invariant-loop-group l = l.numbers.items ≡ numbers_with l.volunteers (map (λ group. group.now) (take l.group-index l.groups)) l.place l.value_place
