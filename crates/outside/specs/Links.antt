-- A link is a source and a sink in one. A door gives links. This says what the calls of a door do to its links, and what a link and a door
-- in memory are. Builds on Faults and Memory. The contracts of doors and of links in memory cite it, and so does `command_desk`.
use Rattle.std.specs.Prelude.{ℕ, ◌+◌, ◌<◌, ◌++◌, ◌∷◌, Bool, List, [], length, min, drop, Option, Some, None, IfSome, if◌then◌else◌}
use Rattle.outside.specs.Faults.{raised}
use Rattle.outside.specs.Memory.{Calls, SourceState, SinkState, after_call, after_put, after_read, next_fails, no_calls}

-- what a door tells: the links that are still to come, how many were given, and those that were given back, in the order of their return
pub record DoorLinks (L : Type 0) : Type 0 where
  pub coming : List L
  pub given : ℕ
  pub back : List L

-- no link was given yet
abbrev pub none_given : {L : Type 0} → List L → DoorLinks L
none_given coming = record { coming = coming; given = 0; back = [] }

-- the first of the links, if there is one
abbrev pub first_of : {L : Type 0} → List L → Option L
first_of [] = None
first_of (link ∷ links) = Some link

-- a door's links after `next` gave the first that is to come, if there is one
abbrev pub after_next : {L : Type 0} → DoorLinks L → DoorLinks L
after_next links = record links { coming = drop 1 links.coming; given = links.given + min 1 (length links.coming) }

-- a door's links after one was given back
abbrev pub after_back : {L : Type 0} → DoorLinks L → L → DoorLinks L
after_back links link = record links { back = links.back ++ link ∷ [] }

-- if the door tells its links, at least one that was given has not come back
abbrev pub IsOneOut : {L : Type 0} → Option (DoorLinks L) → Type 0
IsOneOut links = IfSome links (λ told. length told.back < told.given)

-- a call that was made of a door: `listen` at a port, `next` or `back`; and whether it failed
pub data DoorCall : Type 0 where
  Listen : (port : ℕ) (failed : Bool) → DoorCall
  Next : (failed : Bool) → DoorCall
  Back : DoorCall

-- a link in memory: the bytes that are left, what was written, how many bytes it takes in all, how many reads were made, and its calls, of
-- which reads and puts are counted together
pub record LinkState : Type 0 where
  pub left : List ℕ
  pub written : List ℕ
  pub room : ℕ
  pub reads : ℕ
  pub calls : Calls

-- a link as a source
abbrev pub source_of : LinkState → SourceState
source_of link = record { left = link.left; calls = link.calls }

-- a link as a sink
abbrev pub sink_of : LinkState → SinkState
sink_of link = record { written = link.written; room = link.room; calls = link.calls }

-- a link from which nothing was read yet, and to which nothing was written
abbrev pub new_link : List ℕ → ℕ → List ℕ → LinkState
new_link bytes room failing = record { left = bytes; written = []; room = room; reads = 0; calls = no_calls failing }

-- the link after a read into a room of `size` bytes
abbrev pub link_after_read : LinkState → ℕ → LinkState
link_after_read link size = record link {
  left = (after_read (source_of link) size).left;
  reads = raised link.reads;
  calls = (after_read (source_of link) size).calls;
}

-- the link after a put of `piece`
abbrev pub link_after_put : LinkState → List ℕ → LinkState
link_after_put link piece = record link { written = (after_put (sink_of link) piece).written; calls = (after_put (sink_of link) piece).calls }

-- a door in memory: its links, the port at which it listens, if it does, and its calls, of which `listen` and `next` are counted together
pub record DoorState : Type 0 where
  pub links : DoorLinks LinkState
  pub port : Option ℕ
  pub calls : Calls

-- the door after a call of `listen` at `port`
abbrev pub door_after_listen : DoorState → ℕ → DoorState
door_after_listen door port = record door {
  port = if next_fails door.calls then door.port else Some port;
  calls = after_call door.calls (next_fails door.calls);
}

-- the door after a call of `next`, which gives a link unless the call is to fail
abbrev pub door_after_next : DoorState → DoorState
door_after_next door = record door {
  links = if next_fails door.calls then door.links else after_next door.links;
  calls = after_call door.calls (next_fails door.calls);
}

-- the door after a link was given back
abbrev pub door_after_back : DoorState → LinkState → DoorState
door_after_back door link = record door { links = after_back door.links link }
