use Rattle.std.proofs.Common.{length, ◌-◌, ◌≡◌, ◌+◌, ◌*◌, ℕ}
use Rattle.std.specs.Prelude.{slice_get, Some}
use Rattle.pricing_pool.specs.Outcomes.{Told}
use Rattle.pricing_pool.proofs.workers.work.Given as goal

-- `outcomes` are those of the worker's pieces before place `place`
abbrev pub invariant-loop-place : goal.invariant-loop-place
invariant-loop-place g l = record {
  place : l.place ≡ l.worker + length l.outcomes.items * l.workers;
  each : (i : ℕ) (told : Told) → slice_get l.outcomes.items i ≡ Some told → g.P.Pieces.answers l.pieces (l.worker + i * l.workers) told;
  stands : g.P.Pieces.stands l.pieces l.word;
}

abbrev pub decreases-loop-place : goal.decreases-loop-place
decreases-loop-place g l = l.count - l.place
