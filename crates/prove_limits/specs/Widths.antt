-- What an operation returns if it makes narrow numbers, or numbers of 128 bits, and how it stops if the result is too wide.
use Rattle.std.specs.Prelude.{◌≡◌, ◌^◌, ◌≤◌, ◌<◌, nat_le, if◌then◌else◌, Result, Ok, Err, MatchResult, ℤ, ◌+ℤ◌, ◌-ℤ◌, ◌*ℤ◌, unsigned_abs, int_div, FitsSigned}
use Rattle.std.specs.Int.{w128}
use Rattle.prove_limits.specs.declared.passes.Op.{Op}
use Rattle.prove_limits.specs.declared.passes.Op.TheVariants.{Mul, Add, Sub, Div}
use Rattle.prove_limits.specs.declared.stops.ProveStop.{ProveStop}
use Rattle.prove_limits.specs.declared.stops.ProveStop.TheVariants.{Wide}
use Rattle.prove_limits.specs.Operations.{Operation, outcome}

-- the result of an operation if it is narrow, else the stop that names the operation
abbrev pub narrowed : Op → ℤ → ℤ → Result ℤ ProveStop
narrowed op x y =
    if nat_le (unsigned_abs (outcome op x y)) (2 ^ 62) then Ok (outcome op x y) else Err (Wide (record { op = op; x = x; y = y }))

-- `made` is the result of an operation if it fits 128 bits, else the stop that names the operation
abbrev pub IsWidened : Op → ℤ → ℤ → Result ℤ ProveStop → Type 0
IsWidened op x y made =
    MatchResult made (λ number. number ≡ outcome op x y)
    (λ stop. (stop ≡ Wide (record { op = op; x = x; y = y })) × ¬ (FitsSigned w128 (outcome op x y)))
