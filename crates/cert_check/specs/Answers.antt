-- The result of a check. Builds on Reasons, Steps and Visits of `define_checks`. The promise of `check` cites it, and so does
-- `command_bundles`.
use Rattle.std.specs.Prelude.{◌≡◌, ℕ, ◌+◌, nat_lt, if◌then◌else◌, List, length, Result, Ok, Err}
use Rattle.define_pools.specs.Certificate.{Stage}
use Rattle.define_pools.specs.Lottery.{Lottery}
use Rattle.define_pools.specs.Pool.{Pool}
use Rattle.define_checks.specs.Reasons.{Verdict, cap_reasons, first_reason, reasons_before_cap}
use Rattle.define_checks.specs.Steps.{or_next}
use Rattle.define_checks.specs.Visits.{stage_search}
use Rattle.cert_check.specs.declared.stops.CheckStop.{CheckStop}
use Rattle.cert_check.specs.declared.stops.CheckStop.TheVariants.{NodesSpent, OutOfMemory}

-- the result is the verdict of `wanted`, or the stage of `wanted` at which the visits are spent. The check may run out of memory at any
-- time
abbrev pub Answers : Result Verdict ℕ → Result Verdict CheckStop → Type 0
Answers wanted (Ok verdict) = wanted ≡ Ok verdict
Answers wanted (Err (NodesSpent stage)) = wanted ≡ Err stage
Answers wanted (Err OutOfMemory) = Unit {0}

-- the answer about a stage's cap: the stage's number if the search needs more visits than `nodes`, else the first reason of the cap
abbrev pub cap_answer : Pool → Lottery → ℕ → List Stage → Stage → Result Verdict ℕ
cap_answer pool lottery nodes earlier stage =
    if nat_lt nodes (stage_search pool earlier stage).visits then Err (length earlier + 1) else Ok (first_reason (cap_reasons pool lottery earlier stage))

-- the answer about a stage: the first reason before its cap, or if there is none, the answer about its cap
abbrev pub stage_answer : Pool → Lottery → ℕ → List Stage → Stage → Result Verdict ℕ
stage_answer pool lottery nodes earlier stage = or_next (first_reason (reasons_before_cap pool lottery earlier stage)) (cap_answer pool lottery nodes earlier stage)
