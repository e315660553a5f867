use Rattle.std.proofs.Common.{◌≡◌, ◌≤◌}
use Rattle.pricing_pool.specs.SoFar.{pricing_so_far}
use Rattle.pricing_pool.proofs.Waving.{up_to}
use Rattle.pricing_pool.proofs.pricing.take_waves.Given as goal

-- the first `number` waves were taken
abbrev pub invariant-loop-number : goal.invariant-loop-number
invariant-loop-number g l = record {
  taken : pricing_so_far l.so_far ≡ up_to l.priced.classes l.priced.closed l.priced.row l.fronts (pricing_so_far l.fn.so_far) l.number;
  within : l.so_far.visits ≤ l.nodes;
}
