use Rattle.std.proofs.Common.{◌≡◌, map, take}
use Rattle.define_pools.specs.Certificate.{Stage, weight_of}
use Rattle.check_search.proofs.rows.rows_of.Given as goal

-- `rows` has the first `stage-index` stages, each as a row with the weights of `leaders`
abbrev pub invariant-loop-stage : goal.invariant-loop-stage
invariant-loop-stage l = l.rows.items ≡ map (λ (stage : Stage). record { b = stage.cap; a = map (weight_of stage) l.leaders }) (take l.stage-index l.stages)
