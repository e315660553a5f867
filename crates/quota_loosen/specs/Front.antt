-- The code's tally of the front that a search is at, as the record `FrontTally` of `define_searches`.
use Rattle.std.specs.Prelude.{ℕ, List}
use Rattle.define_searches.specs.Classes.{Class, Classes}
use Rattle.define_searches.specs.Front as laws
use Rattle.quota_loosen.specs.declared.tally.Tally.{Tally}

-- a tally as the record of `define_searches`
abbrev pub numbers : Tally → laws.FrontTally
numbers tally = record { taken = tally.taken; held = tally.held.items; later_taken = tally.later_taken; later = tally.later.items; homes = tally.homes.items }

-- the tally is that of the front, with the classes `rest` still to come: how many members the front takes and the most that `rest` can
-- give, in all and of each value, and how many the front takes of each household
abbrev pub Tracks : Classes → List ℕ → List Class → Tally → Type 0
Tracks all front rest tally = laws.Tracks all front rest (numbers tally)
