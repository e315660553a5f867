-- What a command over a keeper does to the tables that the keeper tells, and to the keeper's count of faults.
use Rattle.std.proofs.Common.{◌≡◌, ℕ, List, [], ◌∷◌, ◌++◌, Option, Some, None, Result, Ok, Err, refl, subst, sym, ap, ◌∙◌, inl, inr}
use Rattle.std.specs.Prelude.{IfSome, IsErrAnd, option_map}
use Rattle.define_offices.specs.Commands as office
use Rattle.define_offices.specs.Commands.{Command, Outcome, Refuses, Replies, Stops}
use Rattle.define_offices.specs.Facts.{IsCommand, IsTables}
use Rattle.define_offices.specs.Steps.{Comes, Folds, applied, tables_after}
use Rattle.define_offices.specs.Tables.{Tables}
use Rattle.define_offices.proofs.Steps.{comes_keeps, folds_grow}
use Rattle.office_steps.specs.Replies.{seen_refusal, seen_reply}
use Rattle.office_steps.specs.declared.replies.Reply.{Reply}
use Rattle.office_core.specs.Acting.{ActsOn, ActsOver, FailsAtStore, FailsInOrder, FailsInOrderOver, GoesOn, HasFault, HasOutcome, HasOutcomeOver, IsDone, IsLoaded, StopsOnlyIf, stop_of_decision, stop_of_keeper}
use Rattle.office_core.specs.Deciding.{Decides, RunsOnlyIf}
use Rattle.office_core.specs.Keeping.{Course, HasCause, Load, StoresIt, changed, with_call}
use Rattle.office_core.specs.declared.keeper.KeeperStop.{KeeperStop}
use Rattle.office_core.specs.declared.keeper.KeeperStop.TheVariants as keeper
use Rattle.office_core.specs.declared.stops.ActStop.{ActStop}
use Rattle.office_core.specs.declared.stops.ActStop.TheVariants as act
use Rattle.office_core.specs.declared.stops.DecideStop.{DecideStop}
use Rattle.office_core.specs.declared.stops.DecideStop.TheVariants as decide

-- ---- the tables after a call

module _ (told : Option Tables) (loaded : Tables) (command : Command) (after : Option Tables) where
  -- if the command's outcome leaves the tables as they are, and the keeper's tables are unchanged, `HasOutcomeOver` holds
  stays_so : (outcome : Outcome) → ((tables : Tables) → tables_after tables outcome ≡ tables) → Comes loaded command outcome → after ≡ told → HasOutcomeOver loaded told command outcome after
  stays_so outcome stays comes unchanged = record { comes = comes; leaves = unchanged ∙ kept told }
    where
      kept : (tables : Option Tables) → tables ≡ option_map (λ t. tables_after t outcome) tables
      kept None = refl
      kept (Some t) = ap Some (sym (stays t))

  pub acts_done : (change : Option office.Change) (reply : Reply) → Comes loaded command (Replies change (seen_reply reply)) → after ≡ changed told change → ActsOver loaded told command (Ok reply) after
  acts_done change reply comes leaves = (change, record { comes = comes; leaves = leaves })

  pub acts_stopped : (stop : DecideStop) → Decides loaded command (Err stop) → after ≡ told → ActsOver loaded told command (Err (stop_of_decision stop)) after
  acts_stopped (decide.Refused refusal) decides unchanged =
      stays_so (Refuses (seen_refusal refusal)) (λ t. refl) (subst (Comes loaded command) decides.says decides.comes) unchanged
  acts_stopped (decide.Solve stopped) decides unchanged =
      let (ending, is_it, equal) = decides.says in
      (ending, is_it, stays_so (Stops ending) (λ t. refl) (subst (Comes loaded command) equal decides.comes) unchanged)
  acts_stopped (decide.Unproved verdict) decides unchanged =
      let (refusal, is_it, equal) = decides.says in
      (refusal, is_it, stays_so (office.Unproved refusal) (λ t. refl) (subst (Comes loaded command) equal decides.comes) unchanged)
  acts_stopped decide.OutOfMemory decides unchanged = unchanged

  has_outcome : (outcome : Outcome) → IsLoaded told loaded → HasOutcomeOver loaded told command outcome after → HasOutcome told command outcome after
  has_outcome outcome is has = record { tables = loaded; loaded = is; comes = has.comes; leaves = has.leaves }

  -- If `ActsOver` holds over the tables that were loaded from the keeper, `ActsOn` holds of the keeper.
  pub acts_on : (result : Result Reply ActStop) → IsLoaded told loaded → ActsOver loaded told command result after → ActsOn told command result after
  acts_on (Ok reply) is (change, has) = (change, has_outcome (Replies change (seen_reply reply)) is has)
  acts_on (Err (act.Refused refusal)) is has = has_outcome (Refuses (seen_refusal refusal)) is has
  acts_on (Err (act.Solve stopped)) is (ending, ends, has) = (ending, ends, has_outcome (Stops ending) is has)
  acts_on (Err (act.Unproved verdict)) is (refusal, says, has) = (refusal, says, has_outcome (office.Unproved refusal) is has)
  acts_on (Err act.KeeperFault) is same = same
  acts_on (Err act.OutOfMemory) is same = same

-- ---- `IsTables` holds after a change

pub change_keeps : (told : Option Tables) (loaded : Tables) (command : Command) (change : Option office.Change) (reply : office.Reply) → IsTables loaded → IsCommand command → IfSome told (λ kept. loaded ≡ kept) →
    Comes loaded command (Replies change reply) → IfSome told (λ kept. IsTables (applied kept change))
change_keeps None loaded command change reply keeps is same comes = tt
change_keeps (Some kept) loaded command change reply keeps is same comes =
    subst (λ t. IsTables (applied t change)) same (comes_keeps loaded keeps command (Replies change reply) is comes)

-- ---- the keeper's count of faults

pub failed_fault : (before now : ℕ) (stop : KeeperStop) → HasCause {T = Tables} before now (Err stop) → HasFault before now (Err (stop_of_keeper stop))
failed_fault before now keeper.Failed cause = cause
failed_fault before now keeper.OutOfMemory cause = cause

pub stopped_fault : (before now : ℕ) (stop : DecideStop) → now ≡ before → HasFault before now (Err (stop_of_decision stop))
stopped_fault before now (decide.Refused refusal) same = same
stopped_fault before now (decide.Solve stopped) same = same
stopped_fault before now (decide.Unproved verdict) same = same
stopped_fault before now decide.OutOfMemory same = same

-- ---- the tables that a list of commands and one more command leave

-- If some commands leave the tables that a keeper tells, these commands followed by `command` leave the tables after the outcome of
-- `command`.
grown : (commands : List Command) (command : Command) (kept : Tables) (outcome : Outcome) (after : Option Tables) → Folds commands kept → HasOutcome (Some kept) command outcome after →
    (left : Tables) × (after ≡ Some left) × Folds (commands ++ command ∷ []) left
grown commands command kept outcome after folds has = (
  tables_after kept outcome,
  has.leaves,
  folds_grow commands command kept (tables_after kept outcome) folds
      (record { outcome = outcome; comes = subst (λ t. Comes t command outcome) has.loaded.same has.comes; leaves = refl }),
)

goes : (kept : Tables) (command : Command) (result : Result Reply ActStop) (after : Option Tables) → ActsOn (Some kept) command result after → (commands : List Command) → Folds commands kept → IsDone result →
    (left : Tables) × (after ≡ Some left) × Folds (commands ++ command ∷ []) left
goes kept command (Ok reply) after (change, has) commands folds done = grown commands command kept (Replies change (seen_reply reply)) after folds has
goes kept command (Err (act.Refused refusal)) after has commands folds done = grown commands command kept (Refuses (seen_refusal refusal)) after folds has
goes kept command (Err (act.Solve stopped)) after (ending, is, has) commands folds done = grown commands command kept (Stops ending) after folds has
goes kept command (Err (act.Unproved verdict)) after (refusal, is, has) commands folds done = grown commands command kept (office.Unproved refusal) after folds has
goes kept command (Err act.KeeperFault) after acts commands folds done = absurd done
goes kept command (Err act.OutOfMemory) after acts commands folds done = absurd done

pub goes_on : (before : Option Tables) (command : Command) (result : Result Reply ActStop) (after : Option Tables) → ActsOn before command result after → GoesOn before command result after
goes_on before command result after acts commands kept is folds done =
    goes kept command result after (subst (λ b. ActsOn b command result after) is acts) commands folds done

-- ---- the keeper's course

-- if the keeper failed to store the change of a decision, it failed at the one call that the command is to make of it
failed_at_store : (tables : Tables) (command : Command) (change : Option office.Change) (reply : office.Reply) (stop : KeeperStop) (before after : Course) →
    Comes tables command (Replies change reply) → StoresIt change (Err stop) before after → FailsInOrderOver tables command (Err (stop_of_keeper stop)) before after
failed_at_store tables command None reply stop before after comes stores = absurd (cc (stores.1))
failed_at_store tables command (Some change) reply keeper.Failed before after comes stores = (change, reply, comes, stores)
failed_at_store tables command (Some change) reply keeper.OutOfMemory before after comes stores = tt

pub failed_so : (tables : Tables) (command : Command) (change : Option office.Change) (reply : office.Reply) (stop : KeeperStop) (result : Result Reply ActStop) (before after : Course) →
    IsErrAnd result (λ e. e ≡ stop_of_keeper stop) → Comes tables command (Replies change reply) → StoresIt change (Err stop) before after → FailsInOrderOver tables command result before after
failed_so tables command change reply stop (Ok done) before after is comes stores = tt
failed_so tables command change reply stop (Err e) before after is comes stores =
    subst (λ (s : ActStop). FailsInOrderOver tables command (Err s) before after) (sym is) (failed_at_store tables command change reply stop before after comes stores)

pub no_store : (tables : Tables) (command : Command) (stop : DecideStop) (course : Course) → FailsInOrderOver tables command (Err (stop_of_decision stop)) course course
no_store tables command (decide.Refused refusal) course = tt
no_store tables command (decide.Solve stopped) course = tt
no_store tables command (decide.Unproved verdict) course = tt
no_store tables command decide.OutOfMemory course = tt

pub stopped_only_if : (may : Type 0) (stop : DecideStop) → RunsOnlyIf may (Err stop) → StopsOnlyIf may (Err (stop_of_decision stop))
stopped_only_if may (decide.Refused refusal) runs = tt
stopped_only_if may (decide.Solve stopped) runs = runs
stopped_only_if may (decide.Unproved verdict) runs = tt
stopped_only_if may decide.OutOfMemory runs = tt

-- a call that loads the tables first fails in its order, if it did so over the tables that were loaded
pub loaded_first : (told : Option Tables) (tables : Tables) (command : Command) (result : Result Reply ActStop) (before loaded after : Course) → IsLoaded told tables →
    loaded ≡ with_call before (Load None) → FailsInOrderOver tables command result loaded after → FailsInOrder told command result before after
loaded_first told tables command (Ok reply) before loaded after is now fails = tt
loaded_first told tables command (Err (act.Refused refusal)) before loaded after is now fails = tt
loaded_first told tables command (Err (act.Solve stopped)) before loaded after is now fails = tt
loaded_first told tables command (Err (act.Unproved verdict)) before loaded after is now fails = tt
loaded_first told tables command (Err act.KeeperFault) before loaded after is now fails = inr (tables, is, subst (λ (c : Course). FailsAtStore tables command c after) now fails)
loaded_first told tables command (Err act.OutOfMemory) before loaded after is now fails = tt

not_loaded : (told : Option Tables) (command : Command) (stop : KeeperStop) (before after : Course) → after ≡ with_call before (Load (Some stop)) →
    FailsInOrder told command (Err (stop_of_keeper stop)) before after
not_loaded told command keeper.Failed before after now = inl now
not_loaded told command keeper.OutOfMemory before after now = tt

pub not_loaded_so : (told : Option Tables) (command : Command) (stop : KeeperStop) (result : Result Reply ActStop) (before after : Course) → IsErrAnd result (λ e. e ≡ stop_of_keeper stop) →
    after ≡ with_call before (Load (Some stop)) → FailsInOrder told command result before after
not_loaded_so told command stop (Ok done) before after is now = tt
not_loaded_so told command stop (Err e) before after is now =
    subst (λ (s : ActStop). FailsInOrder told command (Err s) before after) (sym is) (not_loaded told command stop before after now)
