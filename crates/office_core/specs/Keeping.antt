-- How a call of a keeper counts faults, and what it does to the course and the tables that the keeper tells. The contracts of the trait
-- `Keeper`, of the keepers of `office_keeper` and of the calls over a keeper use it.
use Rattle.std.specs.Prelude.{◌≡◌, ◌≤◌, ℕ, List, Option, Some, None, Result, Ok, Err, option_map, ⊤}
use Rattle.outside.specs.Faults.{Rose, called}
use Rattle.define_offices.specs.Commands.{Change}
use Rattle.define_offices.specs.Steps.{applied, apply}
use Rattle.define_offices.specs.Tables.{Tables}
use Rattle.office_core.specs.declared.keeper.KeeperStop.{KeeperStop}
use Rattle.office_core.specs.declared.keeper.KeeperStop.TheVariants.{Failed, OutOfMemory}

-- the call returned `Failed` and the count of faults rose, or it ended otherwise and the count stayed
abbrev pub HasCause : {T : Type 0} → ℕ → ℕ → Result T KeeperStop → Type 0
HasCause before now (Ok value) = now ≡ before
HasCause before now (Err Failed) = (before ≤ now) × Rose before now
HasCause before now (Err OutOfMemory) = now ≡ before

-- where a keeper is attached: at a path, or nowhere yet; or untold, if the keeper doesn't tell
pub data Place : Type 0 where
  Untold : Place
  Nowhere : Place
  At : (path : List ℕ) → Place

-- the place of a keeper after it was attached at `path`
abbrev pub at : Place → List ℕ → Place
at Untold path = Untold
at Nowhere path = At path
at (At other) path = At path

-- a call that was made of a keeper, and why it stopped, if it did
pub data KeeperCall : Type 0 where
  Attach : (path : List ℕ) (stop : Option KeeperStop) → KeeperCall
  Load : (stop : Option KeeperStop) → KeeperCall
  Store : (change : Change) (stop : Option KeeperStop) → KeeperCall

abbrev pub stop_of : {T : Type 0} → Result T KeeperStop → Option KeeperStop
stop_of (Ok value) = None
stop_of (Err stop) = Some stop

-- where a keeper is attached, and the calls that were made of it, in their order, if it tells them
pub record Course : Type 0 where
  pub place : Place
  pub calls : Option (List KeeperCall)

-- the place after a call: only an attach that doesn't stop changes it
abbrev pub place_after : Place → KeeperCall → Place
place_after place (Attach path None) = at place path
place_after place (Attach path (Some stop)) = place
place_after place (Load stop) = place
place_after place (Store change stop) = place

-- the course after one more call
abbrev pub with_call : Course → KeeperCall → Course
with_call course call = record { place = place_after course.place call; calls = called course.calls call }

-- the tables that a keeper tells after `change` was stored
abbrev pub stored : Option Tables → Change → Option Tables
stored kept change = option_map (λ tables. apply tables change) kept

-- the tables that a keeper tells after a change was stored, or after none
abbrev pub changed : Option Tables → Option Change → Option Tables
changed kept change = option_map (λ tables. applied tables change) kept

-- the keeper was given the change to store, if there is one; if there is none, it wasn't called, and nothing stops
abbrev pub StoresIt : Option Change → Result ⊤ KeeperStop → Course → Course → Type 0
StoresIt None result before after = (after ≡ before) × (stop_of result ≡ None)
StoresIt (Some change) result before after = after ≡ with_call before (Store change (stop_of result))
