use Rattle.std.proofs.Common.{◌≡◌, not, map, None, take}
use Rattle.std.specs.List.{find}
use Rattle.define_pools.specs.Pool.{is_quota_panel as is_quota}
use Rattle.check_reasons.proofs.lotteries.first_unfit.Given as goal

-- each panel read so far is a quota panel
abbrev pub invariant-loop-row : goal.invariant-loop-row
invariant-loop-row l = find (λ panel. not (is_quota l.pool panel)) (map (λ row. row.panel) (take l.row-index l.rows)) ≡ None
