-- What the code keeps of a bound. Builds on nothing of this repository. The module `legs` uses it.
use Rattle.std.specs.Prelude.{ℕ, ◌^◌, ◌≤◌, ℤ, pos, Option, SomeIff}

-- the number, or nothing if it is above 10^38
abbrev pub TellsBound : Option ℤ → ℕ → Type 0
TellsBound told bound = SomeIff told (bound ≤ 10 ^ 38) (pos bound)
