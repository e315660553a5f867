-- How a call over a store ends, for whatever meaning its answers have. Builds on StoreTold and the outcomes of the shell. The contract of
-- every call over a store cites it, up to `office`.
use Rattle.std.specs.Prelude.{◌≡◌, ◌⊎◌, ℕ, List, Option, Some, None, Result, Ok, Err, option_map, ⊤}
use Rattle.command_shell.specs.Answers.{Prints, Saying, saying}
use Rattle.command_shell.specs.Lines.{keeper_fault_line, want_of_memory_line}
use Rattle.command_shell.specs.Outcomes.{IsCutOff, IsInput, IsReadFault, IsStopped, IsTold, IsToldOrCutOff, IsTooLong}
use Rattle.command_shell.specs.Told.{HasFaulted, HasNoFault, IsUntouched, Object, Told}
use Rattle.command_shell.specs.declared.answer.Answer.{Answer}
use Rattle.command_shell.specs.declared.status.Printed.{Printed}
use Rattle.define_offices.specs.Commands.{Change}
use Rattle.define_offices.specs.Steps.{applied}
use Rattle.define_offices.specs.Tables.{Tables}
use Rattle.office_core.specs.Acting.{IsLoaded}
use Rattle.office_core.specs.Keeping.{Attach, Course, Load, Store, with_call}
use Rattle.std.specs.declared.alloc.AllocError.{AllocError}
use Rattle.office_core.specs.declared.keeper.KeeperStop.{KeeperStop}
use Rattle.office_core.specs.declared.keeper.KeeperStop.TheVariants.{Failed, OutOfMemory}
use Rattle.command_stores.specs.StoreTold.{IsAttached, KeepsTables, Keeper, MayBeAttached, StoreTold}

-- which answers are right about tables, and with which change of the tables; the change is None if the tables stay
abbrev pub StoreMeaning : Type 1
StoreMeaning = Tables → Saying → Option Change → Type 0

-- the keeper was attached at `path` and its tables were loaded; the answer is right about them, and its change was stored
pub record IsAnswered (path : List ℕ) (Means : StoreMeaning) (keeper : Keeper) (answer : Saying) : Type 0 where
  pub attached : IsAttached path keeper
  pub tables : Tables
  pub loaded : IsLoaded keeper.object.before tables
  pub change : Option Change
  pub means : Means tables answer change
  -- the keeper tells the same tables as before, with the change applied
  pub stored : keeper.object.after ≡ option_map (λ kept. applied kept change) keeper.object.before
  pub no_fault : HasNoFault keeper.object

-- the keeper failed at a call that the command makes of it, in the order of these calls: to attach it at `path`, to load its tables, or to
-- store the change of a right answer about them
pub data FailsInOrder (path : List ℕ) (Means : StoreMeaning) (keeper : Keeper) : Type 0 where
  ToAttach : keeper.course_after ≡ with_call keeper.course_before (Attach path (Some Failed)) → FailsInOrder path Means keeper
  ToLoad : keeper.course_after ≡ with_call (with_call keeper.course_before (Attach path None)) (Load (Some Failed)) → FailsInOrder path Means keeper
  ToStore : (tables : Tables) (answer : Saying) (change : Change) → IsLoaded keeper.object.before tables → Means tables answer (Some change) →
      keeper.course_after ≡ with_call (with_call (with_call keeper.course_before (Attach path None)) (Load None)) (Store change (Some Failed)) → FailsInOrder path Means keeper

-- the keeper counted a fault, at a call that was in its order, and its tables are as before
pub record HasFailed (path : List ℕ) (Means : StoreMeaning) (keeper : Keeper) : Type 0 where
  pub faulted : HasFaulted keeper.object
  pub order : FailsInOrder path Means keeper
  pub place : MayBeAttached path keeper
  pub same : KeepsTables keeper

-- the keeper counted a fault when it was to be attached at `path`, and wasn't called again; its tables are as before
pub record IsNotAttached (path : List ℕ) (keeper : Keeper) : Type 0 where
  pub faulted : HasFaulted keeper.object
  pub call : keeper.course_after ≡ with_call keeper.course_before (Attach path (Some Failed))
  pub same : KeepsTables keeper

-- nothing was stored, and the keeper counted no fault
pub record HasStoredNothing (path : List ℕ) (keeper : Keeper) : Type 0 where
  pub no_fault : HasNoFault keeper.object
  pub place : MayBeAttached path keeper
  pub same : KeepsTables keeper

-- the answer is right, and its change was stored
pub record IsKept (Means : Saying → Option Change → Type 0) (object : Object Tables) (answer : Saying) : Type 0 where
  pub change : Option Change
  pub means : Means answer change
  pub stored : object.after ≡ option_map (λ kept. applied kept change) object.before
  pub no_fault : HasNoFault object

-- the keeper failed when it was to store the change of a right answer
abbrev pub FailsToStore : (Saying → Option Change → Type 0) → Course → Course → Type 0
FailsToStore Means before after = (answer : Saying) × (change : Change) × Means answer (Some change) × (after ≡ with_call before (Store change (Some Failed)))

-- what is done to a keeper whose tables were loaded. `Means` says which answers are right about them
abbrev pub SettlesLoaded : (Saying → Option Change → Type 0) → Keeper → Result Answer KeeperStop → Type 0
SettlesLoaded Means keeper (Ok answer) = IsKept Means keeper.object (saying answer)
SettlesLoaded Means keeper (Err Failed) = HasFaulted keeper.object × KeepsTables keeper × FailsToStore Means keeper.course_before keeper.course_after
SettlesLoaded Means keeper (Err OutOfMemory) = HasNoFault keeper.object × KeepsTables keeper

-- the keeper failed to load its tables, or to store the change of a right answer about them
abbrev pub FailsAttached : StoreMeaning → Keeper → Type 0
FailsAttached Means keeper =
    (keeper.course_after ≡ with_call keeper.course_before (Load (Some Failed)))
    ⊎ ((tables : Tables) × IsLoaded keeper.object.before tables × FailsToStore (Means tables) (with_call keeper.course_before (Load None)) keeper.course_after)

-- as `SettlesLoaded`, for a call that loads the tables first
abbrev pub SettlesAttached : StoreMeaning → Keeper → Result Answer KeeperStop → Type 0
SettlesAttached Means keeper (Ok answer) = (tables : Tables) × IsLoaded keeper.object.before tables × IsKept (Means tables) keeper.object (saying answer)
SettlesAttached Means keeper (Err Failed) = HasFaulted keeper.object × KeepsTables keeper × FailsAttached Means keeper
SettlesAttached Means keeper (Err OutOfMemory) = HasNoFault keeper.object × KeepsTables keeper

-- if the keeper failed, it did so as it was to be attached or to load its tables
abbrev pub FailsEarly : {T : Type 0} → List ℕ → Result T KeeperStop → Course → Course → Type 0
FailsEarly path (Ok value) before after = ⊤
FailsEarly path (Err Failed) before after =
    (after ≡ with_call before (Attach path (Some Failed))) ⊎ (after ≡ with_call (with_call before (Attach path None)) (Load (Some Failed)))
FailsEarly path (Err OutOfMemory) before after = ⊤

-- what a call over the store at `path` does to the keeper before it tells its answer
abbrev pub Settles : List ℕ → StoreMeaning → Keeper → Result Answer KeeperStop → Type 0
Settles path Means keeper (Ok answer) = IsAnswered path Means keeper (saying answer)
Settles path Means keeper (Err Failed) = HasFailed path Means keeper
Settles path Means keeper (Err OutOfMemory) = HasStoredNothing path keeper

-- what a call tells afterwards: the answer, whole or cut off, or why there is none
abbrev pub TellsSettled : Result Answer KeeperStop → Told → Type 0
TellsSettled (Ok answer) call = IsToldOrCutOff (saying answer) call
TellsSettled (Err Failed) call = IsStopped 9 keeper_fault_line call
TellsSettled (Err OutOfMemory) call = IsStopped 12 want_of_memory_line call

-- the answer, or `OutOfMemory` if there was no memory to make it
abbrev pub settled_by : Result Answer AllocError → Result Answer KeeperStop
settled_by (Ok answer) = Ok answer
settled_by (Err error) = Err OutOfMemory

-- how a call over the store at `path` ends
pub data StoreOutcome (path : List ℕ) (Means : StoreMeaning) (told : StoreTold) : Type 0 where
  -- the status of the answer: it was told, and its change is kept
  Answered : (answer : Saying) → IsAnswered path Means told.keeper answer → IsTold answer told.call → StoreOutcome path Means told
  -- 8: out counted a fault while the text of the answer was told, and its change is kept
  WriteFault : (printed : Printed) (text : List ℕ) → IsAnswered path Means told.keeper (Prints printed text) → IsCutOff text told.call → StoreOutcome path Means told
  -- 9: the keeper counted a fault, at a call that was in its order
  KeeperFault : HasFailed path Means told.keeper → IsStopped 9 keeper_fault_line told.call → StoreOutcome path Means told
  -- 12: memory was wanting, which is allowed at any time
  WantOfMemory : HasStoredNothing path told.keeper → IsStopped 12 want_of_memory_line told.call → StoreOutcome path Means told

-- the keeper was attached at `path`, its tables are as before, and it counted no fault
pub record IsOnlyAttached (path : List ℕ) (keeper : Keeper) : Type 0 where
  pub attached : IsAttached path keeper
  pub same : KeepsTables keeper
  pub no_fault : HasNoFault keeper.object

-- how a call that reads its source ends over the store at `path`. `Means` says for each text which answers are right. The keeper is
-- attached before the source is read, and the tables are loaded after that
pub data TextStoreOutcome (path : List ℕ) (Means : List ℕ → StoreMeaning) (told : StoreTold) : Type 0 where
  -- the text was read, and the call ends as one that reads nothing
  Read : (bytes : List ℕ) → IsInput told.call.source bytes → StoreOutcome path (Means bytes) told → TextStoreOutcome path Means told
  -- 3: the source held more bytes than an input may have
  TooLong : IsOnlyAttached path told.keeper → IsTooLong told.call → TextStoreOutcome path Means told
  -- 7: the source counted a fault
  ReadFault : IsOnlyAttached path told.keeper → IsReadFault told.call → TextStoreOutcome path Means told
  -- 9: the keeper counted a fault when it was attached, before the source was read
  NotAttached : IsUntouched told.call.source → IsNotAttached path told.keeper → IsStopped 9 keeper_fault_line told.call → TextStoreOutcome path Means told
  -- 12: memory was wanting before the text was read whole
  NoMemory : HasStoredNothing path told.keeper → IsStopped 12 want_of_memory_line told.call → TextStoreOutcome path Means told

-- how a call that reads no input ends over the store at `path`: the source is untouched
pub record SilentStoreOutcome (path : List ℕ) (Means : StoreMeaning) (told : StoreTold) : Type 0 where
  pub source : IsUntouched told.call.source
  pub ends : StoreOutcome path Means told
