-- How a call ends follows from what it does to the keeper, and from what it tells.
use Rattle.std.proofs.Common.{◌≡◌, ◌∙◌, inl, inr, ℕ, List, Option, Some, None, Result, Ok, Err, Vec, Global, refl, sym, ap, subst}
use Rattle.std.specs.Prelude.{IfOk, IfSome, OnOk, option_map}
use Rattle.std.specs.declared.alloc.AllocError.{AllocError}
use Rattle.define_checks.specs.Reasons as reasons
use Rattle.define_checks.specs.Reasons.{Verdict}
use Rattle.define_runs.specs.Run.{Ending}
use Rattle.leximin_run.specs.declared.stops.Stop.{Stop}
use Rattle.command_meanings.specs.Check.{refused_line}
use Rattle.command_shell.specs.Lines.{no_panel_line}
use Rattle.command_shell.specs.declared.status.Printed.TheVariants as printed
use Rattle.office_core.specs.Deciding.{IsEnding}
use Rattle.office_core.specs.declared.stops.ActStop.TheVariants as act
use Rattle.office_steps.specs.declared.pools.PoolStop.{PoolStop}
use Rattle.office_steps.specs.declared.pools.PoolStop.TheVariants as pool
use Rattle.office_steps.specs.declared.replies.Reply.TheVariants as reply
use Rattle.outside.specs.Faults.{Rose}
use Rattle.command_shell.specs.Answers.{Prints, Saying, Stops as StopsBy, saying}
use Rattle.command_shell.specs.Outcomes.{IsToldOrCutOff}
use Rattle.command_shell.specs.declared.answer.Answer.{Answer}
use Rattle.command_shell.specs.Told.{Object, Told, object}
use Rattle.define_offices.specs.Commands.{Change, Command, Lines, NoPanel, Outcome, Refusal, Refuses, Replies, Reply as OfficeReply, Stops, Unproved}
use Rattle.define_offices.specs.Facts.{IsCommand}
use Rattle.define_offices.specs.Steps.{Comes, applied, tables_after}
use Rattle.define_offices.specs.Tables.{Tables}
use Rattle.office_core.specs.Acting.{ActsOver, FailsAtStore, HasOutcomeOver, IsLoaded}
use Rattle.office_core.specs.Keeping.{Attach, Course, HasCause, Load, Store, at, stop_of, with_call}
use Rattle.office_core.specs.declared.keeper.KeeperStop.{KeeperStop}
use Rattle.office_core.specs.declared.keeper.KeeperStop.TheVariants.{Failed, OutOfMemory}
use Rattle.command_meanings.specs.Steps.{StepMeans, TellsOutcome, TellsStop, TextMeans, change_of, refused_by, stored_text, text_or_refusal}
use Rattle.command_stores.specs.NoTexts.{refusal_of}
use Rattle.command_meanings.specs.declared.office.StoreText.{StoreText}
use Rattle.office_reports.specs.Rounds.{TellsReport}
use Rattle.office_steps.specs.Replies.{seen_refusal}
use Rattle.office_steps.specs.declared.replies.Refusal as code
use Rattle.command_stores.specs.StoreOutcomes.{Answered, FailsAttached, FailsEarly, FailsInOrder, HasFailed, IsAnswered, IsKept, HasStoredNothing, KeeperFault, Settles, SettlesAttached, SettlesLoaded, StoreMeaning, StoreOutcome, TellsSettled, ToAttach, ToLoad, ToStore, WantOfMemory, WriteFault, settled_by}
use Rattle.command_stores.specs.StoreTold.{Keeper, MayBeAttached, StoreTold, keeper_told, store_told}

-- If the answer is right and is told, whole or cut off, the call ends with it.
pub answered : (path : List ℕ) (Means : StoreMeaning) (told : StoreTold) (answer : Saying) → IsAnswered path Means told.keeper answer → IsToldOrCutOff answer told.call → StoreOutcome path Means told
answered path Means told (Prints printed text) is (inl whole) = Answered (Prints printed text) is whole
answered path Means told (Prints printed text) is (inr cut) = WriteFault printed text is cut
answered path Means told (StopsBy cause line) is stopped = Answered (StopsBy cause line) is stopped

-- If a call settles, and then tells how, it ends as `StoreOutcome` says.
pub ends : (path : List ℕ) (Means : StoreMeaning) (kept : Keeper) (call : Told) (settled : Result Answer KeeperStop) → Settles path Means kept settled → TellsSettled settled call → StoreOutcome path Means (store_told call kept)
ends path Means kept call (Ok answer) settles tells = answered path Means (store_told call kept) (saying answer) settles tells
ends path Means kept call (Err Failed) settles tells = KeeperFault settles tells
ends path Means kept call (Err OutOfMemory) settles tells = WantOfMemory settles tells

-- If no change is stored, the tables are as before.
pub unchanged : (kept : Option Tables) → kept ≡ option_map (λ tables. applied tables None) kept
unchanged None = refl
unchanged (Some tables) = refl

-- ---- attaching and loading

pub may_attach : (path : List ℕ) (stop : KeeperStop) (object : Object Tables) (before after : Course) → after ≡ with_call before (Attach path (Some stop)) → MayBeAttached path (keeper_told object before after)
may_attach path stop object before after now = inr (ap (λ (c : Course). c.place) now)

pub may_load : (path : List ℕ) (stop : Option KeeperStop) (object : Object Tables) (before between after : Course) → between ≡ with_call before (Attach path None) → after ≡ with_call between (Load stop) →
    MayBeAttached path (keeper_told object before after)
may_load path stop object before between after there now = inl (ap (λ (c : Course). c.place) now ∙ ap (λ (c : Course). c.place) there)

pub early_attach : (T : Type 0) (path : List ℕ) (stop : KeeperStop) (before after : Course) → after ≡ with_call before (Attach path (Some stop)) → FailsEarly {T = T} path (Err stop) before after
early_attach T path Failed before after now = inl now
early_attach T path OutOfMemory before after now = tt

pub early_load : {T : Type 0} (path : List ℕ) (result : Result T KeeperStop) (before between after : Course) → between ≡ with_call before (Attach path None) → after ≡ with_call between (Load (stop_of result)) →
    FailsEarly path result before after
early_load path (Ok value) before between after there now = tt
early_load path (Err Failed) before between after there now = inr (now ∙ ap (λ (c : Course). with_call c (Load (Some Failed))) there)
early_load path (Err OutOfMemory) before between after there now = tt

pub both_done : {T : Type 0} (path : List ℕ) (result : Result T KeeperStop) (before between after : Course) → between ≡ with_call before (Attach path None) → after ≡ with_call between (Load (stop_of result)) →
    OnOk result (after ≡ with_call (with_call before (Attach path None)) (Load None))
both_done path (Ok value) before between after there now = now ∙ ap (λ (c : Course). with_call c (Load None)) there
both_done path (Err stop) before between after there now = tt

-- ---- what is done after the tables were loaded

-- If the call attached the keeper and loaded its tables, what was done to the keeper since then is what the whole call does to it.
module _ (path : List ℕ) (Means : StoreMeaning) (before loaded after : Option Tables) (faults faults_loaded faults_after : ℕ) (course course_loaded course_after : Course)
    (same : loaded ≡ before) (none : faults_loaded ≡ faults) where
  abbrev kept : Keeper
  kept = keeper_told (object before after faults faults_after) course course_after

  abbrev over : Keeper
  over = keeper_told (object loaded after faults_loaded faults_after) course_loaded course_after

  failed : FailsInOrder path Means kept → course_after.place ≡ at course.place path → Rose faults_loaded faults_after × (after ≡ loaded) → HasFailed path Means kept
  failed order there (faulted, left) = record { faulted = subst (λ f. Rose f faults_after) none faulted; order = order; place = inl there; same = left ∙ same }

  wanting : course_after.place ≡ at course.place path → (faults_after ≡ faults_loaded) × (after ≡ loaded) → HasStoredNothing path kept
  wanting there (no_fault, left) = record { no_fault = no_fault ∙ none; place = inl there; same = left ∙ same }

  answered_over : (tables : Tables) (answer : Saying) → course_after.place ≡ at course.place path → IsLoaded before tables → IsKept (Means tables) (object loaded after faults_loaded faults_after) answer →
      IsAnswered path Means kept answer
  answered_over tables answer there is it = record {
    attached = there;
    tables = tables;
    loaded = is;
    change = it.change;
    means = it.means;
    stored = rw (sym same) it.stored;
    no_fault = it.no_fault ∙ none;
  }

  pub settles_over : (tables : Tables) (settled : Result Answer KeeperStop) → course_loaded ≡ with_call (with_call course (Attach path None)) (Load None) → course_after.place ≡ course_loaded.place →
      IsLoaded before tables → SettlesLoaded (Means tables) over settled → Settles path Means kept settled
  settles_over tables (Ok answer) now stays is it = answered_over tables (saying answer) (stays ∙ ap (λ (c : Course). c.place) now) is it
  settles_over tables (Err Failed) now stays is (faulted, left, (answer, change, means, call)) =
      failed (ToStore tables answer change is means (call ∙ ap (λ (c : Course). with_call c (Store change (Some Failed))) now)) (stays ∙ ap (λ (c : Course). c.place) now) (faulted, left)
  settles_over tables (Err OutOfMemory) now stays is it = wanting (stays ∙ ap (λ (c : Course). c.place) now) it

  attached_order : course_loaded ≡ with_call course (Attach path None) → FailsAttached Means over → FailsInOrder path Means kept
  attached_order now (inl call) = ToLoad (call ∙ ap (λ (c : Course). with_call c (Load (Some Failed))) now)
  attached_order now (inr (tables, is, (answer, change, means, call))) =
      ToStore tables answer change (subst (λ t. IsLoaded t tables) same is) means (call ∙ ap (λ (c : Course). with_call (with_call c (Load None)) (Store change (Some Failed))) now)

  pub settles_attached : (settled : Result Answer KeeperStop) → course_loaded ≡ with_call course (Attach path None) → course_after.place ≡ course_loaded.place → SettlesAttached Means over settled →
      Settles path Means kept settled
  settles_attached (Ok answer) now stays (tables, is, it) = answered_over tables (saying answer) (stays ∙ ap (λ (c : Course). c.place) now) (subst (λ t. IsLoaded t tables) same is) it
  settles_attached (Err Failed) now stays (faulted, left, order) = failed (attached_order now order) (stays ∙ ap (λ (c : Course). c.place) now) (faulted, left)
  settles_attached (Err OutOfMemory) now stays it = wanting (stays ∙ ap (λ (c : Course). c.place) now) it

-- If the tables could not be loaded, the call settles with the stop of the keeper.
pub not_loaded : (path : List ℕ) (Means : StoreMeaning) (before after : Option Tables) (faults faults_after : ℕ) (course course_after : Course) (stop : KeeperStop) →
    MayBeAttached path (keeper_told (object before after faults faults_after) course course_after) → after ≡ before → HasCause {T = Tables} faults faults_after (Err stop) →
    FailsEarly {T = Tables} path (Err stop) course course_after → Settles path Means (keeper_told (object before after faults faults_after) course course_after) (Err stop)
not_loaded path Means before after faults faults_after course course_after Failed may same cause (inl call) = record { faulted = cause.1; order = ToAttach call; place = may; same = same }
not_loaded path Means before after faults faults_after course course_after Failed may same cause (inr call) = record { faulted = cause.1; order = ToLoad call; place = may; same = same }
not_loaded path Means before after faults faults_after course course_after OutOfMemory may same cause early = record { no_fault = cause; place = may; same = same }

-- ---- the outcome of a command over these tables

-- The tables after an outcome are the tables before it, with the outcome's change applied.
leaves_so : (outcome : Outcome) (before after : Option Tables) → after ≡ option_map (λ kept. tables_after kept outcome) before → after ≡ option_map (λ kept. applied kept (change_of outcome)) before
leaves_so (Replies change reply) before after leaves = leaves
leaves_so (Refuses refusal) before after leaves = leaves
leaves_so (Stops ending) before after leaves = leaves
leaves_so (Unproved refusal) before after leaves = leaves

-- If an outcome leaves all tables unchanged, the keeper's tables are as before.
as_before : (before after : Option Tables) (left : Tables → Tables) → ((tables : Tables) → left tables ≡ tables) → after ≡ option_map left before → after ≡ before
as_before None after left stays is = is
as_before (Some tables) after left stays is = is ∙ ap Some (stays tables)

module _ (command : Command) (tables : Tables) (before after : Option Tables) (faults faults_after : ℕ) (course course_after : Course) (is_command : IsCommand command) (none : faults_after ≡ faults) where
  abbrev loaded : Keeper
  loaded = keeper_told (object before after faults faults_after) course course_after

  abbrev means : Saying → Option Change → Type 0
  means = StepMeans command tables

  right : (outcome : Outcome) (answer : Saying) → HasOutcomeOver tables before command outcome after → TellsOutcome command outcome answer → IsKept means loaded.object answer
  right outcome answer has tells = record {
    change = change_of outcome;
    means = record { is_command = is_command; outcome = outcome; comes = has.comes; tells = tells; changes = refl };
    stored = leaves_so outcome before after has.leaves;
    no_fault = none;
  }

  -- If the reply is a text, printing it is right.
  pub replied : (text : Vec ℕ Global) → ActsOver tables before command (Ok (reply.Lines text)) after → IsKept means loaded.object (Prints printed.Done text.items)
  replied text (change, has) = right (Replies change (Lines text.items)) (Prints printed.Done text.items) has refl

  -- If the reply is that there is no panel, the line of this reply is right.
  pub no_panel : (answer : Answer) → saying answer ≡ Prints printed.NoPanel no_panel_line → ActsOver tables before command (Ok reply.NoPanel) after → IsKept means loaded.object (saying answer)
  no_panel answer is (change, has) = right (Replies change NoPanel) (saying answer) has is

  nothing_stored : (outcome : Outcome) → ((tables : Tables) → tables_after tables outcome ≡ tables) → HasOutcomeOver tables before command outcome after → (faults_after ≡ faults) × (after ≡ before)
  nothing_stored outcome unchanged has = (none, as_before before after (λ tables. tables_after tables outcome) unchanged has.leaves)

  -- If a rule refuses, the line of the refusal is right.
  pub refused : (refusal : code.Refusal) (made : Result Answer AllocError) (settled : Result Answer KeeperStop) → ActsOver tables before command (Err (act.Refused refusal)) after →
      IfOk made (λ answer. saying answer ≡ refused_by (seen_refusal refusal)) → settled ≡ settled_by made → SettlesLoaded means loaded settled
  refused refusal (Ok answer) settled has tells equal = subst (SettlesLoaded means loaded) (sym equal) (right (Refuses (seen_refusal refusal)) (saying answer) has tells)
  refused refusal (Err error) settled has tells equal = subst (SettlesLoaded means loaded) (sym equal) (nothing_stored (Refuses (seen_refusal refusal)) (λ tables. refl) has)

  -- If the run stops, the line of the run's end is right.
  pub stopped : (stopped : Stop) (made : Result Answer AllocError) (settled : Result Answer KeeperStop) → ActsOver tables before command (Err (act.Solve stopped)) after →
      ((ending : Ending) → IsEnding stopped ending → IfOk made (λ answer. TellsStop command ending (saying answer))) → settled ≡ settled_by made → SettlesLoaded means loaded settled
  stopped stop (Ok answer) settled (ending, is, has) tells equal = subst (SettlesLoaded means loaded) (sym equal) (right (Stops ending) (saying answer) has (tells ending is))
  stopped stop (Err error) settled (ending, is, has) tells equal = subst (SettlesLoaded means loaded) (sym equal) (nothing_stored (Stops ending) (λ tables. refl) has)

  -- If a proof is refused, the line of the refusal is right.
  pub unproved : (verdict : Verdict) (made : Result Answer AllocError) (settled : Result Answer KeeperStop) → ActsOver tables before command (Err (act.Unproved verdict)) after →
      ((refusal : reasons.Refusal) → verdict ≡ reasons.Refused refusal → IfOk made (λ answer. saying answer ≡ Prints printed.Refused (refused_line refusal))) → settled ≡ settled_by made →
      SettlesLoaded means loaded settled
  unproved verdict (Ok answer) settled (refusal, is, has) tells equal = subst (SettlesLoaded means loaded) (sym equal) (right (Unproved refusal) (saying answer) has (tells refusal is))
  unproved verdict (Err error) settled (refusal, is, has) tells equal = subst (SettlesLoaded means loaded) (sym equal) (nothing_stored (Unproved refusal) (λ tables. refl) has)

-- If the keeper failed to store the change of the command's outcome, there is a right answer that has this change.
told_change : (command : Command) (tables : Tables) (change : Change) (reply : OfficeReply) → IsCommand command → Comes tables command (Replies (Some change) reply) →
    (answer : Saying) × StepMeans command tables answer (Some change)
told_change command tables change (Lines text) is comes = (Prints printed.Done text, record { is_command = is; outcome = Replies (Some change) (Lines text); comes = comes; tells = refl; changes = refl })
told_change command tables change NoPanel is comes = (Prints printed.NoPanel no_panel_line, record { is_command = is; outcome = Replies (Some change) NoPanel; comes = comes; tells = refl; changes = refl })

pub faulty : (command : Command) (tables : Tables) (before after : Option Tables) (faults faults_after : ℕ) (course course_after : Course) → IsCommand command → Rose faults faults_after → after ≡ before →
    FailsAtStore tables command course course_after → SettlesLoaded (StepMeans command tables) (keeper_told (object before after faults faults_after) course course_after) (Err Failed)
faulty command tables before after faults faults_after course course_after is rose same (change, reply, comes, call) =
    let (answer, means) = told_change command tables change reply is comes in (rose, same, (answer, change, means, call))

-- ---- a text that is made of the tables

-- If there is no text, the refusal is the right answer.
pub refused_so : (is : Result (List ℕ) Refusal) (why : PoolStop) (made : Result Answer AllocError) → TellsReport is (Err why) → IfOk made (λ answer. IfSome (refusal_of why) (λ refusal. saying answer ≡ refused_by refusal)) →
    (why ≡ pool.OutOfMemory → OnOk made ⊥) → IfOk made (λ answer. saying answer ≡ text_or_refusal is)
refused_so is (pool.NoRound last) (Ok answer) tells says never = says ∙ ap text_or_refusal (sym tells)
refused_so is (pool.Incomplete what) (Ok answer) tells says never = says ∙ ap text_or_refusal (sym tells)
refused_so is pool.OutOfMemory (Ok answer) tells says never = absurd (never refl)
refused_so is why (Err error) tells says never = tt

-- If nothing is stored, and the answer is the text or the refusal, or no memory was left to make it, the call settles by `TextMeans`.
pub text_settles : (it : StoreText) (tables : Tables) (kept : Option Tables) (faults : ℕ) (course : Course) (made : Result Answer AllocError) (settled : Result Answer KeeperStop) →
    IfOk made (λ answer. saying answer ≡ text_or_refusal (stored_text it.text it.round tables)) → settled ≡ settled_by made →
    SettlesLoaded (TextMeans it tables) (keeper_told (object kept kept faults faults) course course) settled
text_settles it tables kept faults course (Ok answer) settled is equal =
    subst (SettlesLoaded (TextMeans it tables) (keeper_told (object kept kept faults faults) course course)) (sym equal)
    (record { change = None; means = record { is = is; stays = refl }; stored = unchanged kept; no_fault = refl })
text_settles it tables kept faults course (Err error) settled is equal =
    subst (SettlesLoaded (TextMeans it tables) (keeper_told (object kept kept faults faults) course course)) (sym equal) (refl, refl)
