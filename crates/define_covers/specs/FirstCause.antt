-- The first cause that applies to a front. Builds on Causes of `define_covers`. `cover_cert` gives each front that a search doesn't enter
-- this cause.
use Rattle.std.specs.Prelude.{ℕ, List, [], ◌∷◌, ◌++◌, length, map, Option}
use Rattle.std.specs.List.{find, range_with_len}
use Rattle.define_rows.specs.Row.{Row}
use Rattle.define_searches.specs.Classes.{Classes}
use Rattle.define_covers.specs.Causes.{all_values, applies}
use Rattle.define_covers.specs.Covers.{ByCap, ByClosed, ByHousehold, BySize, ByValue, Cause}

-- the causes in the order in which they are tried: size, values, households, closed rows, cap
abbrev pub causes : Classes → List Row → List Cause
causes all closed =
    BySize ∷ (map (λ number. ByValue number) (range_with_len 1 (length (all_values all)))
    ++ (ByHousehold ∷ (map (λ number. ByClosed number) (range_with_len 1 (length closed)) ++ (ByCap ∷ []))))

-- the first cause that applies to a front, or None if the front is live
abbrev pub first_cause : Classes → List Row → Row → List ℕ → Option Cause
first_cause all closed row front = find (applies all closed row front) (causes all closed)
