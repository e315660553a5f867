-- The order of the fronts of a tree: that of a search which goes back at each of them. Builds on Fronts of `define_searches`. CoverVerdict
-- uses it.
use Rattle.std.specs.Prelude.{ℕ, ◌-◌, nat_lt, nat_le, if◌then◌else◌, Bool, true, false, ◌&&◌, List, [], ◌∷◌, ◌++◌, length, map, take, bytes_eq, Option, Some, None}
use Rattle.define_searches.specs.Classes.{Class}
use Rattle.define_searches.specs.Fronts.{later_than}

-- a count for each class: those of `beginning`, and for the classes after it as many members as each can give
abbrev pub filled : List Class → List ℕ → List ℕ
filled classes beginning = beginning ++ map (λ class. class.most) (later_than beginning classes)

-- the front begins with `beginning`, and each class after it gives as many members as it can. A front has at most one count per class
abbrev pub continues : List Class → List ℕ → List ℕ → Bool
continues classes beginning front = nat_le (length beginning) (length front) && bytes_eq front (take (length front) (filled classes beginning))

-- the count `c` of a class, then the counts `later`; if there are none, the count that is one lower, if the class can give so few
abbrev pub turned_at : Class → ℕ → Option (List ℕ) → Option (List ℕ)
turned_at class c (Some later) = Some (c ∷ later)
turned_at class c None = if nat_lt class.least c then Some ((c - 1) ∷ []) else None

-- how the front after this one begins: with the counts up to the last one that is above the least of its class, which is one lower there.
-- None if each count is the least
abbrev pub turned : List Class → List ℕ → Option (List ℕ)
turned [] front = None
turned (class ∷ classes) [] = None
turned (class ∷ classes) (c ∷ front) = turned_at class c (turned classes front)

-- the fronts are those of a tree in order, from the one that begins with `beginning` to the last. If nothing is to come, there is none
abbrev pub are_in_order : List Class → Option (List ℕ) → List (List ℕ) → Bool
are_in_order classes None [] = true
are_in_order classes None (front ∷ later) = false
are_in_order classes (Some beginning) [] = false
are_in_order classes (Some beginning) (front ∷ later) = continues classes beginning front && are_in_order classes (turned classes front) later
