use Rattle.std.proofs.Common.{◌≡◌, ◌≤◌}
use Rattle.pricing_pool.specs.SoFar.{pricing_so_far}
use Rattle.pricing_pool.proofs.Ended.{before}
use Rattle.pricing_pool.proofs.waves.SoFar.take_outcomes.Given as goal

-- the outcomes of the pieces before `place` were taken
abbrev pub invariant-loop-place : goal.invariant-loop-place
invariant-loop-place l = record {
  taken : pricing_so_far l.self ≡ before l.wave.priced.classes l.wave.priced.closed l.wave.priced.row (pricing_so_far l.fn.self) l.wave.fronts l.nodes l.wave.nodes l.place;
  within : l.self.visits ≤ l.nodes;
  more : l.fn.self.visits ≤ l.self.visits;
}
