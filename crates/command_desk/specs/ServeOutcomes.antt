-- How a call of `serve` ends. Builds on DeskTold and Serving, and the outcomes of the shell and of calls over a store. Turns, the contracts
-- of `serve` and of `office`, and the headline cite it.
use Rattle.std.specs.Prelude.{◌≡◌, ◌⊎◌, ◌≤◌, ℕ, true, false, List, [], length, Some, None, IfSome}
use Rattle.command_shell.specs.Lines.{door_fault_line, keeper_fault_line, want_of_memory_line}
use Rattle.command_shell.specs.Outcomes.{IsCutOff, IsPrinted, IsStopped}
use Rattle.command_shell.specs.Told.{HasFaulted, HasNoFault, IsUntouched}
use Rattle.command_stores.specs.StoreOutcomes.{HasStoredNothing, IsNotAttached}
use Rattle.office_core.specs.Keeping.{Attach, with_call}
use Rattle.outside.specs.Faults.{called}
use Rattle.outside.specs.Links.{Listen, Next}
use Rattle.command_stores.specs.StoreTold.{IsAttached, Keeper}
use Rattle.office_http.specs.Visits.{Kept, Visit, kept}
use Rattle.command_desk.specs.DeskTold.{DeskTold, Door, IsUnopened, Ports}
use Rattle.command_desk.specs.Serving.{AreAttended, after_turns, served_line}

-- what the keeper told once it was attached at `path`; `kept_after` is what it tells after the call
abbrev pub kept_before : List ℕ → Keeper → Kept
kept_before path keeper = kept keeper.object.before keeper.object.faults_before (with_call keeper.course_before (Attach path None))

abbrev pub kept_after : Keeper → Kept
kept_after keeper = kept keeper.object.after keeper.object.faults_after keeper.course_after

-- the keeper was attached at `path`, and links were attended, in the order in which the door gave them
pub record HasServed (path : List ℕ) (connections : ℕ) (told : DeskTold) (visits : List Visit) : Type 0 where
  pub attached : IsAttached path told.store.keeper
  pub attended : AreAttended told.door.before (kept_before path told.store.keeper) visits told.door.after (kept_after told.store.keeper)
  pub within : length visits ≤ connections

-- the call attended as many links as it may, or no link is still to come, as far as the door tells; the door counted no fault
pub record IsAtEnd (connections : ℕ) (door : Door) (visits : List Visit) : Type 0 where
  pub all : (length visits ≡ connections) ⊎ IfSome door.after (λ links. links.coming ≡ [])
  pub no_fault : HasNoFault door

-- the door failed at a call that `serve` makes of it, in the order of these calls
pub data DoorFails (port : ℕ) (visits : List Visit) (ports : Ports) : Type 0 where
  -- as it was to be opened at `port`, its first call. So no link was attended, and it listens where it did before the call, if it did
  ToListen : visits ≡ [] → ports.after ≡ ports.before → ports.calls_after ≡ called ports.calls_before (Listen port true) → DoorFails port visits ports
  -- as it was to give a link after those that were attended. It listens at `port`
  ToGive : ports.after ≡ Some port → ports.calls_after ≡ called (after_turns (length visits) (called ports.calls_before (Listen port false))) (Next true) → DoorFails port visits ports

-- how a call of `serve` ends over the store at `path`, which opens the door at `port` and attends at most `connections` links. A fault of
-- the keeper at a link is the reply 503 to that link, and a fault of a link is counted; neither ends the call
pub data ServeOutcome (path : List ℕ) (port connections : ℕ) (told : DeskTold) : Type 0 where
  -- 0: the line was told. The door listens at the port
  Done : (visits : List Visit) → told.ports.after ≡ Some port → HasServed path connections told visits → IsAtEnd connections told.door visits → IsPrinted 0 (served_line visits) told.store.call → ServeOutcome path port connections told
  -- 8: out counted a fault while the line was told. What the visits changed is kept
  WriteFault : (visits : List Visit) → told.ports.after ≡ Some port → HasServed path connections told visits → IsAtEnd connections told.door visits → IsCutOff (served_line visits) told.store.call → ServeOutcome path port connections told
  -- 9: the keeper counted a fault when it was attached, and the door wasn't opened
  KeeperFault : IsUnopened told → IsNotAttached path told.store.keeper → IsStopped 9 keeper_fault_line told.store.call → ServeOutcome path port connections told
  -- 10: the door counted a fault, at a call that was in its order. What the visits changed is kept
  DoorFault : (visits : List Visit) → DoorFails port visits told.ports → HasServed path connections told visits → HasFaulted told.door → IsStopped 10 door_fault_line told.store.call → ServeOutcome path port connections told
  -- 12: memory was wanting, and the door wasn't opened
  WantOfMemory : IsUnopened told → HasStoredNothing path told.store.keeper → IsStopped 12 want_of_memory_line told.store.call → ServeOutcome path port connections told

-- how a call of `serve` ends, which reads no input: the source is untouched
pub record SilentServeOutcome (path : List ℕ) (port connections : ℕ) (told : DeskTold) : Type 0 where
  pub source : IsUntouched told.store.call.source
  pub ends : ServeOutcome path port connections told
