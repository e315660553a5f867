use Rattle.std.proofs.Common.{◌≡◌, ◌∷◌, take}
use Rattle.std.specs.List.{flat_map}
use Rattle.define_runs.specs.Spreading.{marks}
use Rattle.alike.proofs.dials.cuts.Given as goal

abbrev pub invariant-loop-size : goal.invariant-loop-size
invariant-loop-size l = l.cuts.items ≡ 0 ∷ flat_map (marks l.places) (take l.size-index l.sizes)
