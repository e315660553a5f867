use Rattle.std.proofs.Common.{◌≡◌, filter, true}
use Rattle.std.specs.List.{range_with_len}
use Rattle.define_pools.specs.Pool.{allows, volunteer}
use Rattle.office_reports.proofs.report_quotas.not_gone.Given as goal

-- `numbers` are the numbers of the volunteers so far who aren't gone
abbrev pub invariant-loop-number : goal.invariant-loop-number
invariant-loop-number l = l.numbers.items ≡ filter (λ i. allows (volunteer l.pool.volunteers i).standing true) (range_with_len 0 l.number)
