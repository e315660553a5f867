-- What a call of the program did, as seen from outside: what `StoreTold` has of a call over a store, and the door and its port before and
-- after the call. A link of a door is seen by what it tells. ServeOutcomes and Turns cite it, and so do the contracts of `serve` and of
-- `office`, and the headline.
use Rattle.std.specs.Prelude.{◌≡◌, ◌≤◌, ℕ, List, length, map, Option, IfSome, option_map}
use Rattle.command_shell.specs.Told.{IsUntouched, Object, object}
use Rattle.command_stores.specs.StoreTold.{StoreTold}
use Rattle.office_http.specs.Visits.{LinkTold}
use Rattle.outside.specs.Links.{DoorCall, DoorLinks}

-- the links of a door as contracts see them: each link by what it tells
abbrev pub seen_links : {L : Type 0} → (L → LinkTold) → DoorLinks L → DoorLinks LinkTold
seen_links sees links = record { coming = map sees links.coming; given = links.given; back = map sees links.back }

-- a door before and after the call: its links, if it tells them, and its count of faults
abbrev pub Door : Type 0
Door = Object (DoorLinks LinkTold)

abbrev pub door_told : {L : Type 0} → (L → LinkTold) → Option (DoorLinks L) → Option (DoorLinks L) → ℕ → ℕ → Door
door_told sees before after faults_before faults_after =
    object (option_map (seen_links sees) before) (option_map (seen_links sees) after) faults_before faults_after

-- the port at which a door listens, None if it doesn't listen, and the calls that were made of the door, if it tells them; before and after
-- the call
pub record Ports : Type 0 where
  pub before : Option ℕ
  pub after : Option ℕ
  pub calls_before : Option (List DoorCall)
  pub calls_after : Option (List DoorCall)

abbrev pub ports : Option ℕ → Option ℕ → Option (List DoorCall) → Option (List DoorCall) → Ports
ports before after calls_before calls_after = record { before = before; after = after; calls_before = calls_before; calls_after = calls_after }

pub record DeskTold : Type 0 where
  pub store : StoreTold
  pub door : Door
  pub ports : Ports

abbrev pub desk_told : StoreTold → Door → Ports → DeskTold
desk_told store door ports = record { store = store; door = door; ports = ports }

-- the door is as before, and wasn't called: it gave no link, took none back and counted no fault, and it listens at the same port, if at
-- any
pub record IsUnopened (told : DeskTold) : Type 0 where
  pub links : IsUntouched told.door
  pub port : told.ports.after ≡ told.ports.before
  pub uncalled : told.ports.calls_after ≡ told.ports.calls_before

-- no more links came back than were given, if the door tells its links
abbrev pub NoMoreBack : {L : Type 0} → Option (DoorLinks L) → Type 0
NoMoreBack links = IfSome links (λ told. length told.back ≤ told.given)
