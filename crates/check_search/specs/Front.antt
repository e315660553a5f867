-- What the code's tally of a front means, in the terms of `define_searches`.
use Rattle.std.specs.Prelude.{ℕ, List}
use Rattle.define_searches.specs.Classes.{Class, Classes}
use Rattle.define_searches.specs.Front as laws
use Rattle.check_search.specs.declared.tally.Tally.{Tally}

-- the tally in the form of `define_searches`
abbrev pub numbers : Tally → laws.FrontTally
numbers tally = record { taken = tally.taken; held = tally.held.items; later_taken = tally.later_taken; later = tally.later.items; homes = tally.homes.items }

-- the tally has what the front takes, in all, of each value and of each household, and the most that the classes in `rest` give, in all and
-- of each value
abbrev pub Tracks : Classes → List ℕ → List Class → Tally → Type 0
Tracks all front rest tally = laws.Tracks all front rest (numbers tally)
