use Rattle.std.proofs.Common.{◌≡◌, ◌<◌, ◌≤◌, drop}
use Rattle.define_runs.specs.Spreading.{greatest_total, total_from}
use Rattle.alike.proofs.spreading.common_total.Given as goal

abbrev pub invariant-loop-place : goal.invariant-loop-place
invariant-loop-place l = record {
  some : 0 < l.total;
  within : l.total ≤ greatest_total;
  so_far : total_from l.classes 0 1 l.parts ≡ total_from l.classes l.place l.total (drop l.place l.parts);
}
