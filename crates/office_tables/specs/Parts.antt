-- A round by its parts, as callers give it and as a store keeps it.
use Rattle.std.specs.Prelude.{ℕ, Bool, ◌&&◌, ◌==◌, List, [], length, Option, Some, None, is_some, is_none}
use Rattle.define_bundles.specs.BundleText.{Bundle}
use Rattle.define_offices.specs.declared.Phase.{Phase}
use Rattle.define_offices.specs.declared.Phase.TheVariants as phase
use Rattle.define_offices.specs.Tables.{Round, Open, Solved, Sealed, Drawn}

-- the round of these parts; an open round if the bundle is missing. Parts that a round of this phase doesn't have are ignored
abbrev pub round_of : Phase → Option Bundle → Option ℕ → List ℕ → List (List ℕ) → Round
round_of phase.Open bundle tickets digits dropped = Open
round_of phase.Solved (Some bundle) tickets digits dropped = Solved bundle
round_of phase.Solved None tickets digits dropped = Open
round_of phase.Sealed (Some bundle) tickets digits dropped = Sealed bundle tickets
round_of phase.Sealed None tickets digits dropped = Open
round_of phase.Drawn (Some bundle) tickets digits dropped = Drawn bundle tickets digits dropped
round_of phase.Drawn None tickets digits dropped = Open

abbrev pub is_nil : {A : Type 0} → List A → Bool
is_nil xs = length xs == 0

-- the parts are those of a round: it has a bundle exactly if its phase is past `Open`, a number of tickets only from `Sealed` on, and digits
-- and dropouts only if it is drawn
abbrev pub parts_fit : Phase → Option Bundle → Option ℕ → List ℕ → List (List ℕ) → Bool
parts_fit phase.Open bundle tickets digits dropped = is_none bundle && is_none tickets && is_nil digits && is_nil dropped
parts_fit phase.Solved bundle tickets digits dropped = is_some bundle && is_none tickets && is_nil digits && is_nil dropped
parts_fit phase.Sealed bundle tickets digits dropped = is_some bundle && is_nil digits && is_nil dropped
parts_fit phase.Drawn bundle tickets digits dropped = is_some bundle

-- the digits of a round that was drawn; no digits before the draw
abbrev pub digits_of : Round → List ℕ
digits_of Open = []
digits_of (Solved bundle) = []
digits_of (Sealed bundle tickets) = []
digits_of (Drawn bundle tickets digits dropped) = digits

abbrev pub dropped_of : Round → List (List ℕ)
dropped_of Open = []
dropped_of (Solved bundle) = []
dropped_of (Sealed bundle tickets) = []
dropped_of (Drawn bundle tickets digits dropped) = dropped
