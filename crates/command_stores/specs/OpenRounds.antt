-- What the code returns for a round that may be open. The contracts of src/proving.rt cite it.
use Rattle.std.specs.Prelude.{◌≡◌, ℕ, Bool, true, false, Option, Some, None, Result, Ok, Err, ⊤}
use Rattle.define_offices.specs.Commands.{Refusal}
use Rattle.define_offices.specs.Tables.{Drawn, Open, Round, Sealed, Solved, Tables}
use Rattle.define_pools.specs.Pool.{Pool}
use Rattle.command_meanings.specs.ProvedRounds.{IsOpenWith}

-- there is a round, and it is open
abbrev pub is_open : Option Round → Bool
is_open None = false
is_open (Some Open) = true
is_open (Some (Solved bundle)) = false
is_open (Some (Sealed bundle tickets)) = false
is_open (Some (Drawn bundle tickets digits dropped)) = false

-- what `if_any` returns for the result: the pool, or None if the result is a refusal
abbrev pub IsIfAny : Result Pool Refusal → Option Pool → Type 0
IsIfAny is (Some pool) = is ≡ Ok pool
IsIfAny is None = (refusal : Refusal) × (is ≡ Err refusal)

-- the pool, if there is one, is that of an open round
abbrev pub TellsOpen : Tables → ℕ → Option Pool → Type 0
TellsOpen tables round (Some pool) = IsOpenWith tables round pool
TellsOpen tables round None = ⊤
