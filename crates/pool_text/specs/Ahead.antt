-- The number that a search finds which begins at the volunteers who weren't passed yet.
use Rattle.std.specs.Prelude.{ℕ, nat_le, if◌then◌else◌, Option, Some, None}

-- the number, if there is one and it is at least `passed`
abbrev pub ahead : ℕ → Option ℕ → Option ℕ
ahead passed None = None
ahead passed (Some number) = if nat_le passed number then Some number else None
