-- How an import ends follows from what it does to the keeper, and from what it tells.
use Rattle.std.proofs.Common.{◌≡◌, ◌∙◌, inl, inr, ℕ, List, Option, Some, None, Result, Ok, Err, refl, sym, ap, subst}
use Rattle.std.specs.Prelude.{IfOk, ⊤}
use Rattle.std.specs.declared.alloc.AllocError.{AllocError}
use Rattle.define_imports.specs.Cells.{Fault}
use Rattle.define_offices.specs.Commands.{Command}
use Rattle.define_offices.specs.Tables.{Tables}
use Rattle.office_core.specs.Acting.{IsLoaded}
use Rattle.office_core.specs.Keeping.{Attach, Course, HasCause, Load, Store, with_call}
use Rattle.office_core.specs.declared.keeper.KeeperStop.{KeeperStop}
use Rattle.office_core.specs.declared.keeper.KeeperStop.TheVariants.{Failed, OutOfMemory}
use Rattle.outside.specs.Faults.{Rose}
use Rattle.outside.specs.declared.reading.ReadStop.{ReadStop}
use Rattle.outside.specs.declared.reading.ReadStop.TheVariants as unread
use Rattle.command_shell.specs.Answers.{saying}
use Rattle.command_shell.specs.Outcomes.{HasNoInput, IsInput, TellsNoInput}
use Rattle.command_shell.specs.Told.{IsUntouched, Told, object}
use Rattle.command_shell.specs.declared.answer.Answer.{Answer}
use Rattle.command_meanings.specs.Imports.{Does, HasFault, ImportMeans, ReadsFile, fault_answer}
use Rattle.command_meanings.specs.declared.office.Import.{Import}
use Rattle.command_meanings.specs.Steps.{StepMeans}
use Rattle.command_stores.specs.StoreOutcomes.{NoMemory, NotAttached, Read, ReadFault, SettlesAttached, SettlesLoaded, StoreMeaning, TellsSettled, TextStoreOutcome, TooLong, settled_by}
use Rattle.command_stores.specs.StoreTold.{Keeper, keeper_told, store_told}
use Rattle.command_stores.proofs.Answering.{ends, settles_attached, unchanged}

module _ (it : Import) (bytes : List ℕ) (tables : Tables) (before loaded : Option Tables) (faults faults_loaded : ℕ) (course course_loaded : Course) (is : IsLoaded before tables) (same : loaded ≡ before)
    (none : faults_loaded ≡ faults) (now : course_loaded ≡ with_call course (Load None)) where
  -- If the file is read as a command, doing the command over the tables does the import.
  pub does_import : (command : Command) (after : Option Tables) (faults_after : ℕ) (course_after : Course) (settled : Result Answer KeeperStop) → ReadsFile it tables bytes (Ok command) →
      SettlesLoaded (StepMeans command tables) (keeper_told (object loaded after faults_loaded faults_after) course_loaded course_after) settled →
      SettlesAttached (ImportMeans it bytes) (keeper_told (object before after faults faults_after) course course_after) settled
  does_import command after faults_after course_after (Ok answer) reads kept =
      (tables, is, record { change = kept.change; means = Does command reads kept.means; stored = rw (sym same) kept.stored; no_fault = kept.no_fault ∙ none })
  does_import command after faults_after course_after (Err Failed) reads (faulted, left, (answer, change, means, call)) = (
    subst (λ f. Rose f faults_after) none faulted,
    left ∙ same,
    inr (tables, is, (answer, change, Does command reads means, call ∙ ap (λ (c : Course). with_call c (Store change (Some Failed))) now)),
  )
  does_import command after faults_after course_after (Err OutOfMemory) reads (no_fault, left) = (no_fault ∙ none, left ∙ same)

  -- If the file has a fault, the line of the fault is right, and nothing is stored.
  pub faulty_file : (fault : Fault) (made : Result Answer AllocError) (settled : Result Answer KeeperStop) → ReadsFile it tables bytes (Err fault) →
      IfOk made (λ answer. saying answer ≡ fault_answer fault) → settled ≡ settled_by made →
      SettlesAttached (ImportMeans it bytes) (keeper_told (object before loaded faults faults_loaded) course course_loaded) settled
  faulty_file fault (Ok answer) settled reads tells equal =
      subst (SettlesAttached (ImportMeans it bytes) (keeper_told (object before loaded faults faults_loaded) course course_loaded)) (sym equal)
      (tables, is, record { change = None; means = HasFault fault reads tells refl; stored = same ∙ unchanged before; no_fault = none })
  faulty_file fault (Err error) settled reads tells equal =
      subst (SettlesAttached (ImportMeans it bytes) (keeper_told (object before loaded faults faults_loaded) course course_loaded)) (sym equal) (none, same)

-- If the tables could not be loaded, the import settles with the stop of the keeper.
pub import_not_loaded : (Means : StoreMeaning) (before after : Option Tables) (faults faults_after : ℕ) (course course_after : Course) (stop : KeeperStop) → after ≡ before →
    HasCause {T = Tables} faults faults_after (Err stop) → course_after ≡ with_call course (Load (Some stop)) →
    SettlesAttached Means (keeper_told (object before after faults faults_after) course course_after) (Err stop)
import_not_loaded Means before after faults faults_after course course_after Failed same cause now = (cause.1, same, inl now)
import_not_loaded Means before after faults faults_after course course_after OutOfMemory same cause now = (cause, same)

-- ---- a call that reads its source

module _ (path : List ℕ) (Means : List ℕ → StoreMeaning) (call : Told) (before after : Option Tables) (faults faults_after : ℕ) (course course_after : Course) where
  abbrev kept : Keeper
  kept = keeper_told (object before after faults faults_after) course course_after

  -- If the keeper could not be attached, the call ends as `TextStoreOutcome` says.
  pub not_attached : (stop : KeeperStop) → IsUntouched call.source → after ≡ before → course_after ≡ with_call course (Attach path (Some stop)) → HasCause {T = ⊤} faults faults_after (Err stop) →
      TellsSettled (Err stop) call → TextStoreOutcome path Means (store_told call kept)
  not_attached Failed alone same now cause stopped = NotAttached alone (record { faulted = cause.1; call = now; same = same }) stopped
  not_attached OutOfMemory alone same now cause stopped = NoMemory (record { no_fault = cause; place = inr (ap (λ (c : Course). c.place) now); same = same }) stopped

  -- If the keeper was attached, and the input was too long, or the source counted a fault, or memory was wanting, the call ends as
  -- `TextStoreOutcome` says.
  pub no_file : (stop : ReadStop) → after ≡ before → course_after ≡ with_call course (Attach path None) → faults_after ≡ faults → HasNoInput stop call.source → TellsNoInput stop call →
      TextStoreOutcome path Means (store_told call kept)
  no_file unread.TooLong same now none (held, no_fault) stopped =
      TooLong (record { attached = ap (λ (c : Course). c.place) now; same = same; no_fault = none }) (record { held = held; no_fault = no_fault; stopped = stopped })
  no_file unread.Fault same now none faulted stopped =
      ReadFault (record { attached = ap (λ (c : Course). c.place) now; same = same; no_fault = none }) (record { faulted = faulted; stopped = stopped })
  no_file unread.OutOfMemory same now none no_fault stopped = NoMemory (record { no_fault = none; place = inl (ap (λ (c : Course). c.place) now); same = same }) stopped

  -- If the file was read, the call ends as one over the store.
  pub file_read : (bytes : List ℕ) (attached : Option Tables) (faults_attached : ℕ) (course_attached : Course) (settled : Result Answer KeeperStop) → IsInput call.source bytes → attached ≡ before →
      faults_attached ≡ faults → course_attached ≡ with_call course (Attach path None) → course_after.place ≡ course_attached.place →
      SettlesAttached (Means bytes) (keeper_told (object attached after faults_attached faults_after) course_attached course_after) settled → TellsSettled settled call → TextStoreOutcome path Means (store_told call kept)
  file_read bytes attached faults_attached course_attached settled input same none now stays settles tells =
      Read bytes input
      (ends path (Means bytes) kept call settled
      (settles_attached path (Means bytes) before attached after faults faults_attached faults_after course course_attached course_after same none settled now stays settles) tells)
