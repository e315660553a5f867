-- Counts that classes can give. The laws of this crate use it, and so do contracts of `cover_cert`.
use Rattle.std.specs.Prelude.{◌≤◌, ℕ, List, [], ◌∷◌, length, Option, Some, None}
use Rattle.define_searches.specs.Classes.{Class, Classes}

-- each count belongs to a class, and is at most the number of its members
abbrev pub Fits : List Class → List ℕ → Type 0
Fits classes [] = Unit {0}
Fits [] (c ∷ counts) = ⊥
Fits (class ∷ classes) (c ∷ counts) = (c ≤ length class.members) × Fits classes counts

-- if a front is to come, the counts that it begins with fit the classes
abbrev pub BeginningFits : Classes → Option (List ℕ) → Type 0
BeginningFits all None = Unit {0}
BeginningFits all (Some beginning) = Fits all.classes beginning
