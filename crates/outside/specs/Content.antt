-- What calls do to the bytes of an object: `Some` of the bytes if the object can tell them, else `None`. The contracts of sinks, of links
-- and of `read_all` cite it, and so do the shell of the commands and `office_http`.
use Rattle.std.specs.Prelude.{◌≡◌, ◌<◌, ℕ, List, [], length, Option, Some, None, take, ⊤}
use Rattle.std.specs.Io.KnownBytes.{Appends, Consumes}

-- the bytes, if they are told, grew by a prefix of the piece
abbrev pub AppendsPart : Option (List ℕ) → Option (List ℕ) → List ℕ → Type 0
AppendsPart old new piece = (count : ℕ) × Appends old new (take count piece)

-- the bytes, if they are told, grew by a prefix of the piece, and not by all of it
abbrev pub AppendsLess : Option (List ℕ) → Option (List ℕ) → List ℕ → Type 0
AppendsLess old new piece = (count : ℕ) × (count < length piece) × Appends old new (take count piece)

-- the bytes, if they are told, lost some bytes, or none, from their front
abbrev pub LosesFront : Option (List ℕ) → Option (List ℕ) → Type 0
LosesFront old new = (front : List ℕ) × Consumes old new front

-- more than `limit` bytes were taken from the front of what was left, as far as the object tells its bytes
abbrev pub LosesMore : ℕ → Option (List ℕ) → Option (List ℕ) → Type 0
LosesMore limit old new = (front : List ℕ) × (limit < length front) × Consumes old new front

-- if the source tells what is left, `bytes` is all that was left before, and nothing is left now
abbrev pub ReadsAll : Option (List ℕ) → Option (List ℕ) → List ℕ → Type 0
ReadsAll None new bytes = ⊤
ReadsAll (Some left) new bytes = (bytes ≡ left) × (new ≡ Some [])
