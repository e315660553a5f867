-- Over many calls of `office` the tables of the store are the fold of the commands that the calls did.
use Rattle.std.proofs.Common.{◌≡◌, ◌∙◌, ℕ, Bool, true, false, cond, List, [], ◌∷◌, ◌++◌, Option, Some, None, Result, Ok, Err, refl, ap, sym, subst, inl, inr}
use Rattle.std.specs.Prelude.{IfSome, bytes_eq, codes, option_map}
use Rattle.std.specs.List.{AllByRecursion}
use Rattle.define_desk.specs.Desk.{BundlePage, DrawPage, OwnPage, Page, SeatPage, WithdrawalPage, leaving, page_of, served_by, served_page, withdrawal, withdrawal_by}
use Rattle.define_desk.specs.Replies.{Reply, not_allowed}
use Rattle.define_desk.specs.Requests.{Asking, Asks, NoRequest, Request, TooLarge}
use Rattle.define_draws.specs.Seal.{seal_of}
use Rattle.define_offices.specs.Commands.{Change, Command, Keep, Outcome, Refuses, Replies, Solve, Stops, Unproved}
use Rattle.define_offices.specs.Deciding.{place_of_hash, with_hash, withdraw_at}
use Rattle.define_offices.specs.Facts.{IsCommand}
use Rattle.define_offices.specs.Steps.{AtOnce, Comes, LeadThrough, applied, tables_after}
use Rattle.define_offices.specs.Tables.{Entry, Tables, first_tables}
use Rattle.office_core.specs.Acting.{IsLoaded}
use Rattle.office_http.specs.Visits.{CutOff, EndsBy, FromBytes, FromTables, IsReply, Kept, NoMemory as WantsMemory, RepliesTo, Unavailable, Unread as BrokeUnread, Visit}
use Rattle.office_http.specs.declared.attending.LinkFault.{LinkFault}
use Rattle.command_shell.specs.Answers.{Prints, Saying, Stops as StopsBy, status_of}
use Rattle.command_shell.specs.Told.{HeldAll}
use Rattle.command_shell.specs.declared.status.Cause.TheVariants.{Input, Rule}
use Rattle.command_meanings.specs.Prove.{lottery_limits}
use Rattle.command_meanings.specs.Imports.{Does, HasFault, ImportMeans, NoRules}
use Rattle.command_meanings.specs.ProvedRounds.{AsSolve, Keeps as KeepsProof, ProvesRound}
use Rattle.command_meanings.specs.Steps.{StepMeans, TextMeans, change_of}
use Rattle.command_stores.specs.StoreOutcomes.{Answered as Tells, KeeperFault, NoMemory, NotAttached, Read, ReadFault, StoreOutcome, TextStoreOutcome, TooLong, WantOfMemory, WriteFault}
use Rattle.command_meanings.specs.declared.office.Import.{Import}
use Rattle.command_meanings.specs.declared.office.StoreText.{StoreText}
use Rattle.command_desk.specs.DeskTold.{DeskTold}
use Rattle.command_desk.specs.ServeOutcomes.{Done as ServedDone, DoorFault, HasServed, KeeperFault as NoKeeper, ServeOutcome, WantOfMemory as WantsRoom, WriteFault as CutLine}
use Rattle.command_desk.specs.Serving.{AreVisits}
use Rattle.command_office.specs.Asked.{asked}
use Rattle.command_office.specs.Office.{Asks as AsksFor, EndsRightly, LeavesDoor, LeavesStore, NoMemory as NoWords, OfficeIsRight, WantsMemory as WantsWords}
use Rattle.command_office.specs.Steps.{step_command}
use Rattle.command_office.specs.declared.asked.Asked.{Asked}
use Rattle.command_office.specs.declared.asked.Asked.TheVariants as asks
use Rattle.command_office.specs.Records.{AreCalls, AreDone, Call, CallsAreRecorded, CommandsOf, DidIt, DidNone, DidOne, IsOfRound, IsReadFrom, Served, ServedAll, Unread, Unserved, VisitDid, VisitsDid, desk_commands, is_one_of, key_commands, page_commands, row_commands}
use Rattle.command_office.proofs.Reading.{its_status}
use Rattle.define_offices.proofs.Certified.{folds_are_greatest}

-- ---- lists of commands

through_both : (before : Tables) (first second : List Command) (between after : Tables) → LeadThrough before first between → LeadThrough between second after → LeadThrough before (first ++ second) after
through_both before [] second between after one two = subst (λ t. LeadThrough t second after) one two
through_both before (command ∷ first) second between after (next, (leads, rest)) two = (next, (leads, through_both next first second between after rest two))

all_both : (first second : List Command) → AllByRecursion IsCommand first → AllByRecursion IsCommand second → AllByRecursion IsCommand (first ++ second)
all_both [] second one two = two
all_both (command ∷ first) second (is, rest) two = (is, all_both first second rest two)

-- what commands of some calls do to the tables
record Leading (before : Tables) (commands : List Command) (after : Tables) : Type 0 where
  are : AllByRecursion IsCommand commands
  leads : LeadThrough before commands after

lead_none : (before after : Tables) → after ≡ before → Leading before [] after
lead_none before after same = record { are = tt; leads = same }

lead_both : (before : Tables) (first second : List Command) (between after : Tables) → Leading before first between → Leading between second after → Leading before (first ++ second) after
lead_both before first second between after one two =
    record { are = all_both first second one.are two.are; leads = through_both before first second between after one.leads two.leads }

some_same : {T : Type 0} (one other : T) → Some one ≡ Some other → one ≡ other
some_same one other h = cc

-- ---- a call over the store that did one command

after_change : (tables : Tables) (outcome : Outcome) → applied tables (change_of outcome) ≡ tables_after tables outcome
after_change tables (Replies change reply) = refl
after_change tables (Refuses refusal) = refl
after_change tables (Stops ending) = refl
after_change tables (Unproved refusal) = refl

-- the tables that the keeper tells before and after the call
module _ (before left : Tables) (told_before told_after : Option Tables) (b : told_before ≡ Some before) (a : told_after ≡ Some left) where
  same_tables : told_after ≡ told_before → left ≡ before
  same_tables h = some_same left before (sym a ∙ h ∙ b)

  loaded_is : (tables : Tables) → IsLoaded told_before tables → tables ≡ before
  loaded_is tables is = subst (λ told. IfSome told (λ kept. tables ≡ kept)) b is.same

  stored_is : (change : Option Change) → told_after ≡ option_map (λ kept. applied kept change) told_before → left ≡ applied before change
  stored_is change h = some_same left (applied before change) (sym a ∙ h ∙ ap (λ told. option_map (λ kept. applied kept change) told) b)

  did_step : (command : Command) (tables : Tables) (answer : Saying) (change : Option Change) → IsLoaded told_before tables → StepMeans command tables answer change →
      told_after ≡ option_map (λ kept. applied kept change) told_before → Leading before (command ∷ []) left
  did_step command tables answer change is means stored =
      let comes = subst (λ t. Comes t command means.outcome) (loaded_is tables is) means.comes in
      let leaves = stored_is change stored ∙ ap (λ c. applied before c) means.changes ∙ after_change before means.outcome in
      record { are = (means.is_command, tt); leads = (left, (record { outcome = means.outcome; comes = comes; leaves = leaves }, refl)) }

  stayed : (change : Option Change) → change ≡ None → told_after ≡ option_map (λ kept. applied kept change) told_before → left ≡ before
  stayed change none stored = stored_is change stored ∙ ap (λ c. applied before c) none

-- ---- what the desk does

-- the commands of the desk lead to the tables that it leaves
row_leads : (tables : Tables) (key : List ℕ) (row : Option Entry) →
    Leading tables (row_commands key row) (withdrawal_by tables row (withdraw_at tables (place_of_hash tables.register (seal_of key) 0))).tables
row_leads tables key None = lead_none tables tables refl
row_leads tables key (Some entry) =
    let outcome = withdraw_at tables (place_of_hash tables.register (seal_of key) 0) in
    record { are = (tt, tt); leads = (tables_after tables outcome, (record { outcome = outcome; comes = AtOnce refl; leaves = refl }, refl)) }

keys_lead : (tables : Tables) (keys : List (List ℕ)) → Leading tables (key_commands tables keys) (withdrawal tables keys).tables
keys_lead tables [] = lead_none tables tables refl
keys_lead tables (key ∷ []) = row_leads tables key (with_hash tables.register (seal_of key))
keys_lead tables (key ∷ other ∷ keys) = lead_none tables tables refl

page_leads : (tables : Tables) (request : Request) (page : Option Page) → Leading tables (page_commands tables request page) (served_page tables request page).tables
page_leads tables request None = lead_none tables tables refl
page_leads tables request (Some (BundlePage round)) = lead_none tables tables refl
page_leads tables request (Some (DrawPage round)) = lead_none tables tables refl
page_leads tables request (Some OwnPage) = lead_none tables tables refl
page_leads tables request (Some SeatPage) = lead_none tables tables refl
page_leads tables request (Some WithdrawalPage) = by (bytes_eq request.method (codes "POST"))
  where
    by : (test : Bool) → Leading tables (cond test (key_commands tables request.keys) []) (cond test (withdrawal tables request.keys) (leaving tables (not_allowed (codes "POST")))).tables
    by true = keys_lead tables request.keys
    by false = lead_none tables tables refl

desk_leads : (tables : Tables) (asking : Asking) → Leading tables (desk_commands tables asking) (served_by tables asking).tables
desk_leads tables TooLarge = lead_none tables tables refl
desk_leads tables NoRequest = lead_none tables tables refl
desk_leads tables (Asks request) = page_leads tables request (page_of request.path)

-- ---- visits

-- what a visit did, and the tables that the keeper tells afterwards
record VisitLeads (visit : Visit) (before : Tables) : Type 0 where
  left : Tables
  told : visit.keeper_after.tables ≡ Some left
  commands : List Command
  did : VisitDid visit commands
  leading : Leading before commands left

replied : (visit : Visit) (before : Tables) (reply : Reply) → visit.keeper.tables ≡ Some before → RepliesTo visit.link.left visit.keeper visit.keeper_after reply → VisitLeads visit before
replied visit before reply b is = by is.is
  where
    by : IsReply is.bytes visit.keeper.tables visit.keeper_after.tables reply → VisitLeads visit before
    by (FromTables tables left loaded (asking, asked, equal) leaves) =
        let same : tables ≡ before = subst (λ told. IfSome told (λ kept. tables ≡ kept)) b loaded.same in
        let to : (served_by before asking).tables ≡ left = sym (ap (λ s. s.tables) equal ∙ ap (λ t. (served_by t asking).tables) same) in
        record {
          left = left;
          told = leaves ∙ ap (λ told. option_map (λ t. left) told) b;
          commands = desk_commands before asking;
          did = Served is.bytes asking before b is.all asked refl;
          leading = subst (Leading before (desk_commands before asking)) to (desk_leads before asking);
        }
    by (FromBytes serves same) =
        let (asking, asked, equal) = serves before in
        record {
          left = before;
          told = same ∙ b;
          commands = desk_commands before asking;
          did = Served is.bytes asking before b is.all asked refl;
          leading = subst (Leading before (desk_commands before asking)) (sym (ap (λ s. s.tables) equal)) (desk_leads before asking);
        }
    by (Unavailable request asked e same) =
        record { left = before; told = same ∙ b; commands = []; did = Unserved reply is (inl e) refl; leading = lead_none before before refl }
    by (WantsMemory e same) = record { left = before; told = same ∙ b; commands = []; did = Unserved reply is (inr e) refl; leading = lead_none before before refl }

ended : (visit : Visit) (before : Tables) (end : Result ℕ LinkFault) → visit.keeper.tables ≡ Some before → EndsBy visit end → VisitLeads visit before
ended visit before (Ok status) b ends = replied visit before ends.reply b ends.is
ended visit before (Err fault) b (BrokeUnread rose unwritten same) =
    record { left = before; told = ap (λ (k : Kept). k.tables) same ∙ b; commands = []; did = Unread rose unwritten refl; leading = lead_none before before refl }
ended visit before (Err fault) b (CutOff rose reply is part) = replied visit before reply b is

record VisitsLead (visits : List Visit) (before : Tables) (after : Kept) : Type 0 where
  left : Tables
  told : after.tables ≡ Some left
  commands : List Command
  did : VisitsDid visits commands
  leading : Leading before commands left

all_visits : (kept : Kept) (visits : List Visit) (after : Kept) (before : Tables) → kept.tables ≡ Some before → AreVisits kept visits after → VisitsLead visits before after
all_visits kept [] after before b same =
    record { left = before; told = ap (λ (k : Kept). k.tables) same ∙ b; commands = []; did = refl; leading = lead_none before before refl }
all_visits kept (visit ∷ visits) after before b (found, is, rest) =
    let one = ended visit before visit.ended (ap (λ (k : Kept). k.tables) found ∙ b) is.ends in
    let others = all_visits visit.keeper_after visits after one.left one.told rest in
    record {
      left = others.left;
      told = others.told;
      commands = one.commands ++ others.commands;
      did = (one.commands, others.commands, one.did, others.did, refl);
      leading = lead_both before one.commands others.commands one.left others.left one.leading others.leading;
    }

-- ---- calls

-- the commands that a call did, and where they lead
record Did (it : Option Asked) (told : DeskTold) (before left : Tables) : Type 0 where
  commands : List Command
  done : CommandsOf it told commands
  leading : Leading before commands left

module _ (told : DeskTold) (before left : Tables) (b : told.store.keeper.object.before ≡ Some before) (a : told.store.keeper.object.after ≡ Some left) where
  same_left : told.store.keeper.object.after ≡ told.store.keeper.object.before → left ≡ before
  same_left h = same_tables before left _ _ b a h

  -- no command was done, and the tables stay
  none_did : {By : Command → Type 0} (undone : List ℕ) → left ≡ before → is_one_of undone told.store.call.status ≡ true →
      (commands : List Command) × DidOne By undone told.store commands × Leading before commands left
  none_did undone same status = ([], DidNone refl status, lead_none before left same)

  -- ---- commands of the office

  step_did : (path : List ℕ) (command : Command) → StoreOutcome path (StepMeans command) told.store →
      (commands : List Command) × DidOne (λ c. c ≡ command) (9 ∷ 12 ∷ []) told.store commands × Leading before commands left
  step_did path command (Tells answer is tells) =
      (command ∷ [], DidIt command refl is.means.is_command refl, did_step before left _ _ b a command is.tables answer is.change is.loaded is.means is.stored)
  step_did path command (WriteFault printed text is cut) =
      (command ∷ [], DidIt command refl is.means.is_command refl, did_step before left _ _ b a command is.tables (Prints printed text) is.change is.loaded is.means is.stored)
  step_did path command (KeeperFault failed stopped) = none_did _ (same_left failed.same) (ap (is_one_of (9 ∷ 12 ∷ [])) stopped.status)
  step_did path command (WantOfMemory nothing stopped) = none_did _ (same_left nothing.same) (ap (is_one_of (9 ∷ 12 ∷ [])) stopped.status)

  -- ---- imports

  abbrev undone_import : List ℕ
  undone_import = 3 ∷ 6 ∷ 7 ∷ 9 ∷ 12 ∷ []

  file_did : (file : Import) (bytes : List ℕ) (tables : Tables) (answer : Saying) (change : Option Change) → HeldAll told.store.call.source bytes → IsLoaded told.store.keeper.object.before tables →
      told.store.keeper.object.after ≡ option_map (λ kept. applied kept change) told.store.keeper.object.before →
      ((line : List ℕ) → answer ≡ StopsBy Input line → is_one_of undone_import told.store.call.status ≡ true) →
      ((line : List ℕ) → answer ≡ StopsBy Rule line → is_one_of undone_import told.store.call.status ≡ true) → ImportMeans file bytes tables answer change →
      (commands : List Command) × DidOne (IsReadFrom file told.store) undone_import told.store commands × Leading before commands left
  file_did file bytes tables answer change held loaded stored faulty ruled (Does command reads means) =
      (command ∷ [], DidIt command (bytes, held, (tables, loaded, reads)) means.is_command refl, did_step before left _ _ b a command tables answer change loaded means stored)
  file_did file bytes tables answer change held loaded stored faulty ruled (HasFault fault reads is none) = none_did _ (stayed before left _ _ b a change none stored) (faulty _ is)
  file_did file bytes tables answer change held loaded stored faulty ruled (NoRules is lacks so none) = none_did _ (stayed before left _ _ b a change none stored) (ruled _ so)

  read_did : (path : List ℕ) (file : Import) (bytes : List ℕ) → HeldAll told.store.call.source bytes → StoreOutcome path (ImportMeans file bytes) told.store →
      (commands : List Command) × DidOne (IsReadFrom file told.store) undone_import told.store commands × Leading before commands left
  read_did path file bytes held (Tells answer is tells) =
      let status = its_status answer told.store.call tells in
      file_did file bytes is.tables answer is.change held is.loaded is.stored (λ line so. ap (is_one_of undone_import) (status ∙ ap status_of so))
      (λ line so. ap (is_one_of undone_import) (status ∙ ap status_of so)) is.means
  read_did path file bytes held (WriteFault printed text is cut) =
      file_did file bytes is.tables (Prints printed text) is.change held is.loaded is.stored (λ line so. absurd (cc (so))) (λ line so. absurd (cc (so))) is.means
  read_did path file bytes held (KeeperFault failed stopped) = none_did _ (same_left failed.same) (ap (is_one_of undone_import) stopped.status)
  read_did path file bytes held (WantOfMemory nothing stopped) = none_did _ (same_left nothing.same) (ap (is_one_of undone_import) stopped.status)

  import_did : (path : List ℕ) (file : Import) → TextStoreOutcome path (ImportMeans file) told.store →
      (commands : List Command) × DidOne (IsReadFrom file told.store) undone_import told.store commands × Leading before commands left
  import_did path file (Read bytes input outcome) = read_did path file bytes input.held outcome
  import_did path file (TooLong only long) = none_did _ (same_left only.same) (ap (is_one_of undone_import) long.stopped.status)
  import_did path file (ReadFault only fault) = none_did _ (same_left only.same) (ap (is_one_of undone_import) fault.stopped.status)
  import_did path file (NotAttached alone failed stopped) = none_did _ (same_left failed.same) (ap (is_one_of undone_import) stopped.status)
  import_did path file (NoMemory nothing stopped) = none_did _ (same_left nothing.same) (ap (is_one_of undone_import) stopped.status)

  -- ---- proofs of rounds

  abbrev undone_proof : List ℕ
  undone_proof = 9 ∷ 12 ∷ []

  round_did : (round : ℕ) (tables : Tables) (answer : Saying) (change : Option Change) → IsLoaded told.store.keeper.object.before tables →
      told.store.keeper.object.after ≡ option_map (λ kept. applied kept change) told.store.keeper.object.before → ProvesRound round tables answer change →
      (commands : List Command) × DidOne (IsOfRound round) undone_proof told.store commands × Leading before commands left
  round_did round tables answer change loaded stored (KeepsProof pool proof is same valid means) = (
    Keep round proof ∷ [],
    DidIt (Keep round proof) (inl (proof, refl)) means.is_command refl,
    did_step before left _ _ b a (Keep round proof) tables answer change loaded means stored,
  )
  round_did round tables answer change loaded stored (AsSolve means) = (
    Solve round lottery_limits ∷ [],
    DidIt (Solve round lottery_limits) (inr refl) means.is_command refl,
    did_step before left _ _ b a (Solve round lottery_limits) tables answer change loaded means stored,
  )

  proof_did : (path : List ℕ) (round : ℕ) → StoreOutcome path (ProvesRound round) told.store →
      (commands : List Command) × DidOne (IsOfRound round) undone_proof told.store commands × Leading before commands left
  proof_did path round (Tells answer is tells) = round_did round is.tables answer is.change is.loaded is.stored is.means
  proof_did path round (WriteFault printed text is cut) = round_did round is.tables (Prints printed text) is.change is.loaded is.stored is.means
  proof_did path round (KeeperFault failed stopped) = none_did _ (same_left failed.same) (ap (is_one_of undone_proof) stopped.status)
  proof_did path round (WantOfMemory nothing stopped) = none_did _ (same_left nothing.same) (ap (is_one_of undone_proof) stopped.status)

  -- ---- texts of the tables, and the desk

  text_stays : (path : List ℕ) (text : StoreText) → StoreOutcome path (TextMeans text) told.store → left ≡ before
  text_stays path text (Tells answer is tells) = stayed before left _ _ b a is.change is.means.stays is.stored
  text_stays path text (WriteFault printed line is cut) = stayed before left _ _ b a is.change is.means.stays is.stored
  text_stays path text (KeeperFault failed stopped) = same_left failed.same
  text_stays path text (WantOfMemory nothing stopped) = same_left nothing.same

  served_did : (path : List ℕ) (connections : ℕ) (visits : List Visit) → HasServed path connections told visits →
      (commands : List Command) × ServedAll path connections told commands × Leading before commands left
  served_did path connections visits has =
      let all = all_visits _ visits _ before b has.attended.chain in
      (all.commands, inl (visits, has, all.did), subst (Leading before all.commands) (some_same all.left left (sym all.told ∙ a)) all.leading)

  serve_did : (path : List ℕ) (port connections : ℕ) → ServeOutcome path port connections told → (commands : List Command) × ServedAll path connections told commands × Leading before commands left
  serve_did path port connections (ServedDone visits opened has end printed) = served_did path connections visits has
  serve_did path port connections (CutLine visits opened has end cut) = served_did path connections visits has
  serve_did path port connections (NoKeeper unopened failed stopped) = ([], inr (unopened, refl), lead_none before left (same_left failed.same))
  serve_did path port connections (DoorFault visits fails has faulted stopped) = served_did path connections visits has
  serve_did path port connections (WantsRoom unopened nothing stopped) = ([], inr (unopened, refl), lead_none before left (same_left nothing.same))

  -- ---- every call

  asks_did : (it : Option Asked) → EndsRightly it told → Did it told before left
  asks_did None right = record { commands = []; done = refl; leading = lead_none before left (same_left right.call.keeper.object.same) }
  asks_did (Some (asks.Text it)) right = record { commands = []; done = refl; leading = lead_none before left (same_left right.call.keeper.object.same) }
  asks_did (Some (asks.Prove it)) right = record { commands = []; done = refl; leading = lead_none before left (same_left right.call.keeper.object.same) }
  asks_did (Some (asks.Lottery it)) right = record { commands = []; done = refl; leading = lead_none before left (same_left right.call.keeper.object.same) }
  asks_did (Some (asks.SharedLottery it)) right = record { commands = []; done = refl; leading = lead_none before left (same_left right.call.keeper.object.same) }
  asks_did (Some (asks.Legs it)) right = record { commands = []; done = refl; leading = lead_none before left (same_left right.call.keeper.object.same) }
  asks_did (Some (asks.Make it)) right = record { commands = []; done = refl; leading = lead_none before left (same_left right.call.keeper.object.same) }
  asks_did (Some (asks.Step store step)) right =
      let (commands, did, leading) = step_did store (step_command step) right.call.ends in record { commands = commands; done = did; leading = leading }
  asks_did (Some (asks.Import store file)) right = let (commands, did, leading) = import_did store file right.call in record { commands = commands; done = did; leading = leading }
  asks_did (Some (asks.ProveRound store proving)) right =
      let (commands, did, leading) = proof_did store proving.round right.call.ends in record { commands = commands; done = did; leading = leading }
  asks_did (Some (asks.StoreText store text)) right = record { commands = []; done = refl; leading = lead_none before left (text_stays store text right.call.ends) }
  asks_did (Some (asks.Serve store serve)) right =
      let (commands, did, leading) = serve_did store serve.port serve.connections right.ends in record { commands = commands; done = did; leading = leading }

  -- if memory was wanting before the words asked for anything, no command was done
  wants_did : (it : Option Asked) → LeavesDoor (LeavesStore WantsWords) told → Did it told before left
  wants_did it want = by it
    where
      same : left ≡ before
      same = same_left want.call.keeper.object.same

      by : (it : Option Asked) → Did it told before left
      by None = record { commands = []; done = refl; leading = lead_none before left same }
      by (Some (asks.Text it)) = record { commands = []; done = refl; leading = lead_none before left same }
      by (Some (asks.Prove it)) = record { commands = []; done = refl; leading = lead_none before left same }
      by (Some (asks.Lottery it)) = record { commands = []; done = refl; leading = lead_none before left same }
      by (Some (asks.SharedLottery it)) = record { commands = []; done = refl; leading = lead_none before left same }
      by (Some (asks.Legs it)) = record { commands = []; done = refl; leading = lead_none before left same }
      by (Some (asks.Make it)) = record { commands = []; done = refl; leading = lead_none before left same }
      by (Some (asks.Step store step)) =
          record { commands = []; done = DidNone refl (ap (is_one_of (9 ∷ 12 ∷ [])) want.call.call.stopped.status); leading = lead_none before left same }
      by (Some (asks.Import store file)) = record { commands = []; done = DidNone refl (ap (is_one_of undone_import) want.call.call.stopped.status); leading = lead_none before left same }
      by (Some (asks.ProveRound store proving)) =
          record { commands = []; done = DidNone refl (ap (is_one_of undone_proof) want.call.call.stopped.status); leading = lead_none before left same }
      by (Some (asks.StoreText store text)) = record { commands = []; done = refl; leading = lead_none before left same }
      by (Some (asks.Serve store serve)) = record { commands = []; done = inr (want.door, refl); leading = lead_none before left same }

call_did : (call : Call) (before left : Tables) → OfficeIsRight call.words call.told → call.told.store.keeper.object.before ≡ Some before → call.told.store.keeper.object.after ≡ Some left →
    Did (asked call.words) call.told before left
call_did call before left (AsksFor right) b a = asks_did call.told before left b a (asked call.words) right
call_did call before left (NoWords want) b a = wants_did call.told before left b a (asked call.words) want

calls_did : (before : Tables) (calls : List Call) (after : Tables) → AreCalls before calls after → (commands : List Command) × AreDone calls commands × Leading before commands after
calls_did before [] after same = ([], refl, lead_none before after same)
calls_did before (call ∷ calls) after (left, right, b, a, rest) =
    let one = call_did call before left right b a in
    let (later, done, leading) = calls_did left calls after rest in
    (one.commands ++ later, (one.commands, later, one.done, done, refl), lead_both before one.commands later left after one.leading leading)

pub calls_are_recorded : CallsAreRecorded
calls_are_recorded calls tables are =
    let (commands, done, leading) = calls_did first_tables calls tables are in
    record { commands = commands; done = done; are = leading.are; folds = leading.leads; greatest = folds_are_greatest commands tables leading.are leading.leads }
