-- An invariant of the tests' calls on a door.
use Rattle.std.specs.Prelude.{◌≤◌, length, Option, IfSome}
use Rattle.outside.specs.Links.{DoorLinks}

-- no more links came back than were given, if the door can tell this
abbrev pub NoMoreBack : {L : Type 0} → Option (DoorLinks L) → Type 0
NoMoreBack links = IfSome links (λ told. length told.back ≤ told.given)
