use Rattle.std.proofs.Common.{◌≡◌, take}
use Rattle.define_pools.specs.Certificate.{panel_weight as weight_of_panel}
use Rattle.pool_model.proofs.certificates.panel_weight.Given as goal

-- `sum` is the weight of the members read so far
abbrev pub invariant-loop-i : goal.invariant-loop-i
invariant-loop-i l = l.sum ≡ weight_of_panel l.stage (take l.i-index l.panel)
