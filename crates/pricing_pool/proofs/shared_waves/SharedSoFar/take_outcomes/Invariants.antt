use Rattle.std.proofs.Common.{◌≤◌, take}
use Rattle.std.specs.Prelude.{◌≤ℤ◌}
use Rattle.define_searches.specs.Waves.{wave}
use Rattle.panel_search.specs.Sharing.{Shares}
use Rattle.pricing_pool.specs.SoFar.{pricing_so_far}
use Rattle.pricing_pool.proofs.shared_waves.SharedSoFar.take_outcomes.Given as goal

-- the outcomes of the pieces before `place` were taken
abbrev pub invariant-loop-place : goal.invariant-loop-place
invariant-loop-place l = record {
  shares : Shares l.wave.priced (λ now. wave l.wave.priced.classes l.wave.priced.closed l.wave.priced.row now (take l.place l.wave.fronts)) (pricing_so_far l.fn.self.so_far) l.fn.self.word (pricing_so_far l.self.so_far) l.self.word;
  higher : l.fn.self.so_far.floor ≤ℤ (wave l.wave.priced.classes l.wave.priced.closed l.wave.priced.row (pricing_so_far l.fn.self.so_far) (take l.place l.wave.fronts)).floor;
  within : l.self.so_far.visits ≤ l.nodes;
}
