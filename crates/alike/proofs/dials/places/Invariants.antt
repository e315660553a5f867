use Rattle.std.proofs.Common.{◌≡◌, ◌<◌, ◌≤◌, drop}
use Rattle.std.specs.List.{fold}
use Rattle.frac128.specs.Divisors.{lcm_of}
use Rattle.define_runs.specs.Spreading.{greatest_total}
use Rattle.alike.proofs.dials.places.Given as goal

abbrev pub invariant-loop-size : goal.invariant-loop-size
invariant-loop-size l = record {
  some : 0 < l.places;
  within : l.places ≤ greatest_total;
  so_far : fold lcm_of 1 l.sizes ≡ fold lcm_of l.places (drop l.size-index l.sizes);
}
