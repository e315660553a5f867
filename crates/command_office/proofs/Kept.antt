-- Every call that is right keeps the promises of the headline.
use Rattle.std.proofs.Common.{◌≡◌, ◌∙◌, ℕ, List, Option, Some, ap, sym, subst, inr}
use Rattle.command_desk.specs.DeskTold.{DeskTold}
use Rattle.command_desk.specs.ServeOutcomes as serves
use Rattle.command_desk.specs.ServeOutcomes.{SilentServeOutcome}
use Rattle.office_core.specs.Keeping.{Course}
use Rattle.command_shell.specs.declared.status.Printed.TheVariants.{Done, NoPanel}
use Rattle.command_shell.specs.Answers.{Prints}
use Rattle.command_shell.specs.Outcomes.{IsTold}
use Rattle.command_stores.specs.StoreTold.{StoreTold}
use Rattle.command_office.specs.Asked.{asked}
use Rattle.command_office.specs.declared.asked.Asked.{Asked}
use Rattle.command_office.specs.declared.asked.Asked.TheVariants as asks
use Rattle.command_office.specs.Office.{AnswersRightly, Asks, EndsRightly, LeavesDoor, LeavesStore, NoMemory, OfficeIsRight, WantsMemory}
use Rattle.command_office.specs.Headline.{Answered, CutOff, Ends, Headline, IsRightAnswer, KeeperFault, Keeps, Promises, ReadFault, TooLong, Usage, WantOfMemory}
use Rattle.command_office.proofs.Checkers.{certificate_is_exact, cover_is_exact, verify_is_exact}
use Rattle.command_office.proofs.Ending.{call_alone, call_ends, call_stays}
use Rattle.command_office.proofs.Exact.{exactly}
use Rattle.command_office.proofs.Found.{done, drawn, none}
use Rattle.command_office.proofs.Reading.{is_done, is_no_panel, its_status}

module _ (told : StoreTold) (it : Option Asked) where
  -- a call of status 0 told an answer of status 0
  pub if_done : {Holds : Type 0} → ((text : List ℕ) → IsRightAnswer it told (Prints Done text) → IsTold (Prints Done text) told.call → Holds) → Ends it told → told.call.status ≡ 0 → Holds
  if_done holds (Answered answer right is) s =
      let (text, so) = is_done answer (sym (its_status answer told.call is) ∙ s) in
      holds text (subst (IsRightAnswer it told) so right) (subst (λ own. IsTold own told.call) so is)
  if_done holds (CutOff printed text right cut) s = absurd (cc (cut.status, s))
  if_done holds (Usage nothing usage) s = absurd (cc (usage.stopped.status, s))
  if_done holds (TooLong long) s = absurd (cc (long.stopped.status, s))
  if_done holds (ReadFault fault) s = absurd (cc (fault.stopped.status, s))
  if_done holds (KeeperFault faulted stopped) s = absurd (cc (stopped.status, s))
  if_done holds (WantOfMemory stopped) s = absurd (cc (stopped.status, s))

  if_none : {Holds : Type 0} → ((text : List ℕ) → IsRightAnswer it told (Prints NoPanel text) → Holds) → Ends it told → told.call.status ≡ 1 → Holds
  if_none holds (Answered answer right is) s =
      let (text, so) = is_no_panel answer (sym (its_status answer told.call is) ∙ s) in
      holds text (subst (IsRightAnswer it told) so right)
  if_none holds (CutOff printed text right cut) s = absurd (cc (cut.status, s))
  if_none holds (Usage nothing usage) s = absurd (cc (usage.stopped.status, s))
  if_none holds (TooLong long) s = absurd (cc (long.stopped.status, s))
  if_none holds (ReadFault fault) s = absurd (cc (fault.stopped.status, s))
  if_none holds (KeeperFault faulted stopped) s = absurd (cc (stopped.status, s))
  if_none holds (WantOfMemory stopped) s = absurd (cc (stopped.status, s))

  call_keeps : AnswersRightly it told → Keeps it told
  call_keeps right = let ends = call_ends told it right in record {
    ends = ends;
    lottery = if_done (λ text answer is. done told it text answer is) ends;
    no_panel = if_none (λ text answer. none told it text answer) ends;
    exactly = λ nodes pool has from n8 n9 n12. exactly told nodes pool it right has from n8 n9 n12;
    certificate = λ nodes has bundle is_bundle from n5 n8 n12. certificate_is_exact it told nodes right has bundle is_bundle from n5 n8 n12;
    proof = λ verify is proof is_proof from n8 n12. verify_is_exact told.call (subst (λ one. AnswersRightly one told) is right).call proof is_proof from n8 n12;
    cover = λ check is cover is_cover from n8 n12. cover_is_exact told.call (subst (λ one. AnswersRightly one told) is right).call cover is_cover from n8 n12;
    draw = if_done (λ text answer is. drawn told it text answer) ends;
    stays = call_stays told it right;
    alone = call_alone told it right;
  }

  -- memory was wanting while the words were read
  wants_keep : LeavesStore WantsMemory told → Keeps it told
  wants_keep want = let twelve = want.call.stopped.status in record {
    ends = WantOfMemory want.call.stopped;
    lottery = λ s. absurd (cc (twelve, s));
    no_panel = λ s. absurd (cc (twelve, s));
    exactly = λ nodes pool has from n8 n9 n12. absurd (n12 twelve);
    certificate = λ nodes has bundle is_bundle from n5 n8 n12. absurd (n12 twelve);
    proof = λ verify is proof is_proof from n8 n12. absurd (n12 twelve);
    cover = λ check is cover is_cover from n8 n12. absurd (n12 twelve);
    draw = λ s. absurd (cc (twelve, s));
    stays = λ n0 n8. want.keeper.object.same;
    alone = λ free. want.keeper;
  }

serve_wants : (path : List ℕ) (port connections : ℕ) (told : DeskTold) → LeavesDoor (LeavesStore WantsMemory) told → SilentServeOutcome path port connections told
serve_wants path port connections told want = record {
  source = want.call.call.source;
  ends = serves.WantOfMemory want.door (record { no_fault = want.call.keeper.object.no_fault; place = inr (ap (λ (c : Course). c.place) want.call.keeper.course); same = want.call.keeper.object.same }) want.call.call.stopped;
}

asks_promise : (told : DeskTold) (it : Option Asked) → EndsRightly it told → Promises it told
asks_promise told (Some (asks.Serve path serve)) right = right
asks_promise told other right = (right.door, call_keeps told.store other right.call)

wants_promise : (told : DeskTold) (it : Option Asked) → LeavesDoor (LeavesStore WantsMemory) told → Promises it told
wants_promise told (Some (asks.Serve path serve)) want = serve_wants path serve.port serve.connections told want
wants_promise told other want = (want.door, wants_keep told.store other want.call)

pub keeps : (words : List (List ℕ)) (told : DeskTold) → OfficeIsRight words told → Headline words told
keeps words told (Asks right) = asks_promise told (asked words) right
keeps words told (NoMemory want) = wants_promise told (asked words) want
