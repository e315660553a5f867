-- What a turn of `serve` does, and what all turns do. The contracts of src/visiting.rt and src/serving.rt cite it.
use Rattle.std.specs.Prelude.{◌≡◌, ◌≤◌, ℕ, true, false, List, [], ◌∷◌, length, Option, Some, None, IfSome, Result, Ok, Err}
use Rattle.command_shell.specs.Told.{HasFaulted}
use Rattle.outside.specs.Faults.{called}
use Rattle.outside.specs.Links.{Back, DoorCall, DoorLinks, Next}
use Rattle.outside.specs.declared.source.Failed.{Failed}
use Rattle.office_http.specs.Visits.{Kept, LinkTold, Visit}
use Rattle.office_http.specs.declared.attending.LinkFault.{LinkFault}
use Rattle.command_desk.specs.DeskTold.{Door, Ports}
use Rattle.command_desk.specs.Serving.{AreAttended, after_turns, broken_of, served_of}
use Rattle.command_desk.specs.ServeOutcomes.{DoorFails, IsAtEnd}
use Rattle.command_desk.specs.declared.serving.Counts.{Counts}

-- the result says that one link was attended, that none is to come, or that the door failed; in the last two cases links and keeper are as
-- before
abbrev pub TakesTurn : Option (DoorLinks LinkTold) → Option (DoorLinks LinkTold) → Kept → Kept → Result (Option (Result ℕ LinkFault)) Failed → Type 0
TakesTurn links links_after before after (Ok (Some ended)) = (visit : Visit) × (visit.ended ≡ ended) × AreAttended links before (visit ∷ []) links_after after
TakesTurn links links_after before after (Ok None) = (links_after ≡ links) × (after ≡ before) × IfSome links (λ told. told.coming ≡ [])
TakesTurn links links_after before after (Err failed) = (links_after ≡ links) × (after ≡ before)

-- the calls of the door at a turn: a link was given, and given back; or the door failed to give one
abbrev pub CallsInTurn : Result (Option (Result ℕ LinkFault)) Failed → Option (List DoorCall) → Option (List DoorCall) → Type 0
CallsInTurn (Ok (Some ended)) before after = after ≡ called (called before (Next false)) Back
CallsInTurn (Ok None) before after = after ≡ called before (Next false)
CallsInTurn (Err failed) before after = after ≡ called before (Next true)

-- the counts are those of the visits
pub record AreCounted (visits : List Visit) (counts : Counts) : Type 0 where
  pub served : counts.served ≡ served_of visits
  pub broken : counts.broken ≡ broken_of visits

-- `turns` visits were made up to now, and are counted
pub record AreUnderWay (links : Option (DoorLinks LinkTold)) (before : Kept) (counts : Counts) (turns : ℕ) (links_now : Option (DoorLinks LinkTold)) (now : Kept) : Type 0 where
  pub visits : List Visit
  pub attended : AreAttended links before visits links_now now
  pub counted : AreCounted visits counts
  pub number : length visits ≡ turns

-- links were attended in the order in which they came, at most `connections` of them. With `Ok`, `IsAtEnd` holds and the visits are
-- counted; with `Err`, the door counted a fault, as it was to give a link after those. `calls` and `calls_after` are the door's calls
abbrev pub ServesDoor : ℕ → Door → Option (List DoorCall) → Option (List DoorCall) → Kept → Kept → Result Counts Failed → Type 0
ServesDoor connections door calls calls_after before after (Ok counts) =
    (visits : List Visit) × AreAttended door.before before visits door.after after × (length visits ≤ connections) × IsAtEnd connections door visits × AreCounted visits counts
ServesDoor connections door calls calls_after before after (Err failed) =
    (visits : List Visit) × AreAttended door.before before visits door.after after × (length visits ≤ connections) × HasFaulted door ×
    (calls_after ≡ called (after_turns (length visits) calls) (Next true))

-- the door was opened at `port`, and links were attended as `ServesDoor` says; or the door failed as `DoorFails` says
abbrev pub ServesAt : ℕ → ℕ → Door → Ports → Kept → Kept → Result Counts Failed → Type 0
ServesAt port connections door ports before after (Ok counts) = ServesDoor connections door ports.calls_before ports.calls_after before after (Ok counts) × (ports.after ≡ Some port)
ServesAt port connections door ports before after (Err failed) =
    (visits : List Visit) × AreAttended door.before before visits door.after after × (length visits ≤ connections) × HasFaulted door × DoorFails port visits ports
