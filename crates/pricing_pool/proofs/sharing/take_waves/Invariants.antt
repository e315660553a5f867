use Rattle.std.proofs.Common.{◌≤◌}
use Rattle.panel_search.specs.Sharing.{Shares}
use Rattle.pricing_pool.specs.SoFar.{pricing_so_far}
use Rattle.pricing_pool.proofs.Waving.{up_to}
use Rattle.pricing_pool.proofs.sharing.take_waves.Given as goal

-- the first `number` waves were taken
abbrev pub invariant-loop-number : goal.invariant-loop-number
invariant-loop-number g l = record {
  shares : Shares l.priced (λ now. up_to l.priced.classes l.priced.closed l.priced.row l.fronts now l.number) (pricing_so_far l.fn.shared.so_far) l.fn.shared.word (pricing_so_far l.shared.so_far) l.shared.word;
  within : l.shared.so_far.visits ≤ l.nodes;
}
