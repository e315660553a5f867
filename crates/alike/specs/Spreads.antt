-- What `spread` and its helpers may return. Builds on Spreading of `define_runs`. The contracts of src/spreading.rt cite it, and so does
-- a proof of `leximin_run`.
use Rattle.std.specs.Prelude.{◌≡◌, ℕ, Result, Ok, Err, pos}
use Rattle.define_pools.specs.Lottery.{Lottery}
use Rattle.define_runs.specs.Spreading.{TotalPass}
use Rattle.alike.specs.declared.spreading.SpreadStop.{SpreadStop}
use Rattle.alike.specs.declared.spreading.SpreadStop.TheVariants.{TotalPasses, OutOfMemory}

-- the stop has the numbers of the definition's `TotalPass`, so it names the first part at which the total passes 10 ^ 38; running out of
-- memory is allowed at any time
abbrev pub IsStop : {X : Type 0} → SpreadStop → Result X TotalPass → Type 0
IsStop (TotalPasses place total den) sought =
    (pass : TotalPass) × (sought ≡ Err pass) × (place ≡ pass.place) × (total ≡ pos pass.total) × (den ≡ pos pass.den)
IsStop OutOfMemory sought = Unit {0}

-- the result is the definition's lottery, or a stop that says why there is none
abbrev pub IsSpread : Result Lottery SpreadStop → Result Lottery TotalPass → Type 0
IsSpread (Ok lottery) sought = sought ≡ Ok lottery
IsSpread (Err stop) sought = IsStop stop sought

-- the result is the definition's common total, or a stop that says why there is none
abbrev pub IsTotal : Result ℕ SpreadStop → Result ℕ TotalPass → Type 0
IsTotal (Ok total) sought = sought ≡ Ok total
IsTotal (Err stop) sought = IsStop stop sought
