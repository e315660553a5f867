-- How a right call ends, status by status; and that the tables of the store are as before unless its status is 0 or 8.
use Rattle.std.proofs.Common.{◌≡◌, ◌∙◌, ℕ, List, Option, Some, None, refl, sym}
use Rattle.std.specs.Prelude.{◌≢◌, IsFalse}
use Rattle.std.proofs.lemmas.Bool.{false≢true}
use Rattle.define_offices.specs.Commands.{Change}
use Rattle.define_offices.specs.Tables.{Tables}
use Rattle.command_shell.specs.Answers.{Prints, Saying, status_of}
use Rattle.command_shell.specs.Outcomes as ends
use Rattle.command_shell.specs.Outcomes.{IsAboutSource, IsInput, Outcome, TextOutcome}
use Rattle.command_stores.specs.StoreOutcomes as over
use Rattle.command_stores.specs.StoreOutcomes.{IsAnswered, StoreMeaning, StoreOutcome, TextStoreOutcome}
use Rattle.command_stores.specs.StoreTold.{IsLeftAlone, KeepsTables, StoreTold}
use Rattle.command_office.specs.declared.asked.Asked.{Asked}
use Rattle.command_office.specs.declared.asked.Asked.TheVariants as asks
use Rattle.command_office.specs.Office.{AnswersRightly}
use Rattle.command_office.specs.About.{uses_store}
use Rattle.command_office.specs.Headline.{Answered, CutOff, Ends, IsRightAnswer, KeeperFault, ReadFault, TooLong, Usage, WantOfMemory}
use Rattle.command_office.proofs.Quiet.{import_quiet, round_quiet, step_quiet, unchanged}
use Rattle.command_office.proofs.Reading.{its_status}

module _ (it : Option Asked) (told : StoreTold) where
  abbrev Right : Saying → Type 0
  Right answer = IsRightAnswer it told answer

  -- ---- calls without a store

  outcome_ends : {R : Saying → Type 0} → ((answer : Saying) → R answer → Right answer) → Outcome R told.call → Ends it told
  outcome_ends right (ends.Answered answer is tells) = Answered answer (right answer is) tells
  outcome_ends right (ends.WriteFault printed text is cut) = CutOff printed text (right (Prints printed text) is) cut
  outcome_ends right (ends.WantOfMemory want) = WantOfMemory want

  text_ends : {Means : List ℕ → Saying → Type 0} → ((answer : Saying) → IsAboutSource Means told.call.source answer → Right answer) → TextOutcome Means told.call → Ends it told
  text_ends right (ends.Ends outcome) = outcome_ends right outcome
  text_ends right (ends.TooLong long) = TooLong long
  text_ends right (ends.ReadFault fault) = ReadFault fault

  -- ---- calls over a store

  store_ends : {Means : StoreMeaning} (path : List ℕ) → ((answer : Saying) → IsAnswered path Means told.keeper answer → Right answer) → StoreOutcome path Means told → Ends it told
  store_ends path right (over.Answered answer is tells) = Answered answer (right answer is) tells
  store_ends path right (over.WriteFault printed text is cut) = CutOff printed text (right (Prints printed text) is) cut
  store_ends path right (over.KeeperFault failed stopped) = KeeperFault failed.faulted stopped
  store_ends path right (over.WantOfMemory nothing stopped) = WantOfMemory stopped

  file_ends : {Means : List ℕ → StoreMeaning} (path : List ℕ) → ((bytes : List ℕ) → IsInput told.call.source bytes → (answer : Saying) → IsAnswered path (Means bytes) told.keeper answer → Right answer) →
      TextStoreOutcome path Means told → Ends it told
  file_ends path right (over.Read bytes input outcome) = store_ends path (right bytes input) outcome
  file_ends path right (over.TooLong only long) = TooLong long
  file_ends path right (over.ReadFault only fault) = ReadFault fault
  file_ends path right (over.NotAttached alone failed stopped) = KeeperFault failed.faulted stopped
  file_ends path right (over.NoMemory nothing stopped) = WantOfMemory stopped

  -- if only answers of status 0 come with a change, the tables are as before unless the status is 0 or 8
  store_stays : {Means : StoreMeaning} (path : List ℕ) → ((tables : Tables) (answer : Saying) (change : Option Change) → status_of answer ≢ 0 → Means tables answer change → change ≡ None) →
      StoreOutcome path Means told → told.call.status ≢ 0 → told.call.status ≢ 8 → KeepsTables told.keeper
  store_stays path quiet (over.Answered answer is tells) n0 n8 =
      unchanged told.keeper.object.before told.keeper.object.after is.change (quiet is.tables answer is.change (λ e. n0 (its_status answer told.call tells ∙ e)) is.means) is.stored
  store_stays path quiet (over.WriteFault printed text is cut) n0 n8 = absurd (n8 cut.status)
  store_stays path quiet (over.KeeperFault failed stopped) n0 n8 = failed.same
  store_stays path quiet (over.WantOfMemory nothing stopped) n0 n8 = nothing.same

  file_stays : {Means : List ℕ → StoreMeaning} (path : List ℕ) →
      ((bytes : List ℕ) (tables : Tables) (answer : Saying) (change : Option Change) → status_of answer ≢ 0 → Means bytes tables answer change → change ≡ None) →
      TextStoreOutcome path Means told → told.call.status ≢ 0 → told.call.status ≢ 8 → KeepsTables told.keeper
  file_stays path quiet (over.Read bytes input outcome) n0 n8 = store_stays path (quiet bytes) outcome n0 n8
  file_stays path quiet (over.TooLong only long) n0 n8 = only.same
  file_stays path quiet (over.ReadFault only fault) n0 n8 = only.same
  file_stays path quiet (over.NotAttached alone failed stopped) n0 n8 = failed.same
  file_stays path quiet (over.NoMemory nothing stopped) n0 n8 = nothing.same

-- ---- every call

module _ (told : StoreTold) where
  pub call_ends : (it : Option Asked) → AnswersRightly it told → Ends it told
  call_ends None right = Usage refl right.call
  call_ends (Some (asks.Text command)) right = text_ends (Some (asks.Text command)) told (λ answer is. is) right.call
  call_ends (Some (asks.Prove it)) right = text_ends (Some (asks.Prove it)) told (λ answer is. is) right.call
  call_ends (Some (asks.Lottery it)) right = text_ends (Some (asks.Lottery it)) told (λ answer is. is) right.call
  call_ends (Some (asks.SharedLottery it)) right = text_ends (Some (asks.SharedLottery it)) told (λ answer is. is) right.call
  call_ends (Some (asks.Legs it)) right = text_ends (Some (asks.Legs it)) told (λ answer is. is) right.call
  call_ends (Some (asks.Make it)) right = outcome_ends (Some (asks.Make it)) told (λ answer is. is) right.call.ends
  call_ends (Some (asks.Step store step)) right = store_ends (Some (asks.Step store step)) told store (λ answer is. is) right.ends
  call_ends (Some (asks.Import store file)) right = file_ends (Some (asks.Import store file)) told store (λ bytes input answer is. (bytes, input, is)) right
  call_ends (Some (asks.ProveRound store it)) right = store_ends (Some (asks.ProveRound store it)) told store (λ answer is. is) right.ends
  call_ends (Some (asks.StoreText store text)) right = store_ends (Some (asks.StoreText store text)) told store (λ answer is. is) right.ends
  call_ends (Some (asks.Serve store serve)) right = absurd right.call

  pub call_stays : (it : Option Asked) → AnswersRightly it told → told.call.status ≢ 0 → told.call.status ≢ 8 → KeepsTables told.keeper
  call_stays (Some (asks.Step store step)) right = store_stays (Some (asks.Step store step)) told store (λ tables answer change n0 means. step_quiet tables answer change n0 step means) right.ends
  call_stays (Some (asks.Import store file)) right =
      file_stays (Some (asks.Import store file)) told store (λ bytes tables answer change n0 means. import_quiet tables answer change n0 file bytes means) right
  call_stays (Some (asks.ProveRound store it)) right = store_stays (Some (asks.ProveRound store it)) told store (λ tables answer change n0 means. round_quiet tables answer change n0 it.round means) right.ends
  call_stays (Some (asks.StoreText store text)) right = store_stays (Some (asks.StoreText store text)) told store (λ tables answer change n0 means. means.stays) right.ends
  call_stays other right = λ n0 n8. right.keeper.object.same

  pub call_alone : (it : Option Asked) → AnswersRightly it told → IsFalse (uses_store it) → IsLeftAlone told.keeper
  call_alone (Some (asks.Step store step)) right free = absurd (false≢true (sym free))
  call_alone (Some (asks.Import store file)) right free = absurd (false≢true (sym free))
  call_alone (Some (asks.ProveRound store it)) right free = absurd (false≢true (sym free))
  call_alone (Some (asks.StoreText store text)) right free = absurd (false≢true (sym free))
  call_alone other right free = right.keeper
