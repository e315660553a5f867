-- What a call of `act` returns, and what it does to the tables that the keeper tells. The promises of `act` and `act_over` use it, and so
-- do those of the commands over a store, of `office_desk` and of `office_http`.
use Rattle.std.specs.Prelude.{◌≡◌, ◌⊎◌, ◌≤◌, ℕ, List, [], ◌∷◌, ◌++◌, IfSome, Option, Some, None, Result, Ok, Err, option_map, ⊤}
use Rattle.define_checks.specs.Reasons as reasons
use Rattle.define_runs.specs.Run.{Ending}
use Rattle.define_offices.specs.Commands as office
use Rattle.define_offices.specs.Commands.{Outcome, Refuses, Replies, Stops}
use Rattle.define_offices.specs.Facts.{IsTables}
use Rattle.define_offices.specs.Steps.{Comes, Folds, tables_after}
use Rattle.define_offices.specs.Tables.{Tables}
use Rattle.office_steps.specs.Replies.{seen_refusal, seen_reply}
use Rattle.office_core.specs.Deciding.{IsEnding}
use Rattle.office_core.specs.Keeping.{Course, Load, Store, with_call}
use Rattle.office_core.specs.declared.keeper.KeeperStop.{KeeperStop}
use Rattle.office_core.specs.declared.keeper.KeeperStop.TheVariants as keeper
use Rattle.office_steps.specs.declared.replies.Reply.{Reply}
use Rattle.outside.specs.Faults.{Rose}
use Rattle.office_core.specs.declared.stops.DecideStop.{DecideStop}
use Rattle.office_core.specs.declared.stops.DecideStop.TheVariants as decide
use Rattle.office_core.specs.declared.stops.ActStop.{ActStop}
use Rattle.office_core.specs.declared.stops.ActStop.TheVariants.{Refused, Solve, Unproved, KeeperFault, OutOfMemory}

abbrev pub stop_of_keeper : KeeperStop → ActStop
stop_of_keeper keeper.Failed = KeeperFault
stop_of_keeper keeper.OutOfMemory = OutOfMemory

-- tables that a keeper may load: the facts of `IsTables` hold of them, and if the keeper tells tables, they are these
pub record IsLoaded (kept : Option Tables) (tables : Tables) : Type 0 where
  pub is : IsTables tables
  pub same : IfSome kept (λ told. tables ≡ told)

-- the outcome of the command over the tables that were loaded. If the keeper tells its tables, they are changed as the outcome says
pub record HasOutcome (before : Option Tables) (command : office.Command) (outcome : Outcome) (after : Option Tables) : Type 0 where
  pub tables : Tables
  pub loaded : IsLoaded before tables
  pub comes : Comes tables command outcome
  pub leaves : after ≡ option_map (λ told. tables_after told outcome) before

-- the outcome of the command over these tables. If the keeper tells its tables, they are changed as the outcome says
pub record HasOutcomeOver (tables : Tables) (before : Option Tables) (command : office.Command) (outcome : Outcome) (after : Option Tables) : Type 0 where
  pub comes : Comes tables command outcome
  pub leaves : after ≡ option_map (λ told. tables_after told outcome) before

-- the command's outcome over the tables has a change, and the keeper failed when it was to store this change
abbrev pub FailsAtStore : Tables → office.Command → Course → Course → Type 0
FailsAtStore tables command before after =
    (change : office.Change) × (reply : office.Reply) × Comes tables command (Replies (Some change) reply) × (after ≡ with_call before (Store change (Some keeper.Failed)))

-- a reply, a refusal, a stop of the run or a refused proof is that of the command's outcome over these tables. After a fault of the keeper,
-- and if memory runs out, the tables that the keeper tells are as before
abbrev pub ActsOver : Tables → Option Tables → office.Command → Result Reply ActStop → Option Tables → Type 0
ActsOver tables before command (Ok reply) after =
    (change : Option office.Change) × HasOutcomeOver tables before command (Replies change (seen_reply reply)) after
ActsOver tables before command (Err (Refused refusal)) after = HasOutcomeOver tables before command (Refuses (seen_refusal refusal)) after
ActsOver tables before command (Err (Solve stopped)) after =
    (ending : Ending) × IsEnding stopped ending × HasOutcomeOver tables before command (Stops ending) after
ActsOver tables before command (Err (Unproved verdict)) after =
    (refusal : reasons.Refusal) × (verdict ≡ reasons.Refused refusal) × HasOutcomeOver tables before command (office.Unproved refusal) after
ActsOver tables before command (Err KeeperFault) after = after ≡ before
ActsOver tables before command (Err OutOfMemory) after = after ≡ before

-- the same as `ActsOver`, but over the tables that the keeper loads
abbrev pub ActsOn : Option Tables → office.Command → Result Reply ActStop → Option Tables → Type 0
ActsOn before command (Ok reply) after = (change : Option office.Change) × HasOutcome before command (Replies change (seen_reply reply)) after
ActsOn before command (Err (Refused refusal)) after = HasOutcome before command (Refuses (seen_refusal refusal)) after
ActsOn before command (Err (Solve stopped)) after = (ending : Ending) × IsEnding stopped ending × HasOutcome before command (Stops ending) after
ActsOn before command (Err (Unproved verdict)) after =
    (refusal : reasons.Refusal) × (verdict ≡ reasons.Refused refusal) × HasOutcome before command (office.Unproved refusal) after
ActsOn before command (Err KeeperFault) after = after ≡ before
ActsOn before command (Err OutOfMemory) after = after ≡ before

-- the call ended with an outcome of the command, and not because the keeper failed or memory ran out; so the command counts in the fold
abbrev pub IsDone : Result Reply ActStop → Type 0
IsDone (Ok reply) = ⊤
IsDone (Err (Refused refusal)) = ⊤
IsDone (Err (Solve stopped)) = ⊤
IsDone (Err (Unproved verdict)) = ⊤
IsDone (Err KeeperFault) = ⊥
IsDone (Err OutOfMemory) = ⊥

-- if the keeper tells the fold of a list of commands, and the call is done, it then tells the fold of the list with this command at its end
abbrev pub GoesOn : Option Tables → office.Command → Result Reply ActStop → Option Tables → Type 0
GoesOn before command result after = (commands : List office.Command) (kept : Tables) → before ≡ Some kept → Folds commands kept → IsDone result →
    (left : Tables) × (after ≡ Some left) × Folds (commands ++ command ∷ []) left

-- if the call stopped because the keeper failed, the keeper failed at its one call: to store the change of the command's outcome
abbrev pub FailsInOrderOver : Tables → office.Command → Result Reply ActStop → Course → Course → Type 0
FailsInOrderOver tables command (Ok reply) before after = ⊤
FailsInOrderOver tables command (Err (Refused refusal)) before after = ⊤
FailsInOrderOver tables command (Err (Solve stopped)) before after = ⊤
FailsInOrderOver tables command (Err (Unproved verdict)) before after = ⊤
FailsInOrderOver tables command (Err KeeperFault) before after = FailsAtStore tables command before after
FailsInOrderOver tables command (Err OutOfMemory) before after = ⊤

-- the same for a call that loads the tables first: the keeper failed to load them, or, after they were loaded, to store the change
abbrev pub FailsInOrder : Option Tables → office.Command → Result Reply ActStop → Course → Course → Type 0
FailsInOrder told command (Ok reply) before after = ⊤
FailsInOrder told command (Err (Refused refusal)) before after = ⊤
FailsInOrder told command (Err (Solve stopped)) before after = ⊤
FailsInOrder told command (Err (Unproved verdict)) before after = ⊤
FailsInOrder told command (Err KeeperFault) before after =
    (after ≡ with_call before (Load (Some keeper.Failed))) ⊎ ((tables : Tables) × IsLoaded told tables × FailsAtStore tables command (with_call before (Load None)) after)
FailsInOrder told command (Err OutOfMemory) before after = ⊤

-- if a run stopped the call, `may` holds
abbrev pub StopsOnlyIf : Type 0 → Result Reply ActStop → Type 0
StopsOnlyIf may (Ok reply) = ⊤
StopsOnlyIf may (Err (Refused refusal)) = ⊤
StopsOnlyIf may (Err (Solve stopped)) = may
StopsOnlyIf may (Err (Unproved verdict)) = ⊤
StopsOnlyIf may (Err KeeperFault) = ⊤
StopsOnlyIf may (Err OutOfMemory) = ⊤

-- the keeper counted a fault exactly if the call stopped because of one
abbrev pub HasFault : ℕ → ℕ → Result Reply ActStop → Type 0
HasFault before now (Ok reply) = now ≡ before
HasFault before now (Err (Refused refusal)) = now ≡ before
HasFault before now (Err (Solve stopped)) = now ≡ before
HasFault before now (Err (Unproved verdict)) = now ≡ before
HasFault before now (Err KeeperFault) = (before ≤ now) × Rose before now
HasFault before now (Err OutOfMemory) = now ≡ before

-- the stop of `act` for a stop of `decide`
abbrev pub stop_of_decision : DecideStop → ActStop
stop_of_decision (decide.Refused refusal) = Refused refusal
stop_of_decision (decide.Solve stopped) = Solve stopped
stop_of_decision (decide.Unproved verdict) = Unproved verdict
stop_of_decision decide.OutOfMemory = OutOfMemory
