-- How an object of the outside counts its faults, and how it lists the calls that were made of it. The contracts of sources, sinks, links,
-- doors and keepers cite it, and so do those of the calls that use them.
use Rattle.std.specs.Prelude.{ℕ, ◌+◌, ◌-◌, ◌^◌, ◌≤◌, ◌++◌, ◌∷◌, [], List, Option, min, option_map}

-- the count after one more fault; at 2 ^ 64 - 1, the last value of its type, it stays
abbrev pub raised : ℕ → ℕ
raised count = min (count + 1) (2 ^ 64 - 1)

-- the count is greater than before, or is at its last value
abbrev pub Rose : ℕ → ℕ → Type 0
Rose before now = raised before ≤ now

-- the calls that were made of an object, if it tells them, after one more call
abbrev pub called : {Call : Type 0} → Option (List Call) → Call → Option (List Call)
called made call = option_map (λ calls. calls ++ call ∷ []) made
