-- The record of an office over many calls. If each call of a list satisfies the contract of `office`, and each finds the tables of the store
-- as the one before left them, from the first tables on, then the tables at the end are what a list of commands leaves: those that the calls
-- did, each by its words, its file or a visit of its desk. So the lottery of each bundle that is kept is leximin greatest. The law of
-- src/promises.rt says so of every list of calls.
use Rattle.std.specs.Prelude.{◌≡◌, ◌⊎◌, ◌==◌, ◌++◌, ◌∷◌, ℕ, Bool, IfSome, IsTrue, List, [], None, Ok, Option, Some, bytes_eq, codes, if◌then◌else◌}
use Rattle.std.specs.List.{AllByRecursion, list_any}
use Rattle.outside.specs.Faults.{Rose}
use Rattle.define_proofs.specs.ProofVerdict.{Proof}
use Rattle.define_desk.specs.Desk.{Page, WithdrawalPage, page_of}
use Rattle.define_desk.specs.Replies.{Reply, out_of_memory, unavailable}
use Rattle.define_desk.specs.Requests.{AreAsking, Asking, Asks, NoRequest, Request, TooLarge}
use Rattle.define_draws.specs.Seal.{seal_of}
use Rattle.define_offices.specs.Commands.{Command, Keep, Solve, Withdraw}
use Rattle.define_offices.specs.Deciding.{with_hash}
use Rattle.define_offices.specs.Facts.{AreGreatest, IsCommand}
use Rattle.define_offices.specs.Steps.{Folds}
use Rattle.define_offices.specs.Tables.{Entry, Tables, first_tables}
use Rattle.command_meanings.specs.Prove.{lottery_limits}
use Rattle.office_core.specs.Acting.{IsLoaded}
use Rattle.office_http.specs.Visits.{RepliesTo, Visit}
use Rattle.command_shell.specs.Told.{HeldAll}
use Rattle.command_meanings.specs.Imports.{ReadsFile}
use Rattle.command_stores.specs.StoreTold.{StoreTold}
use Rattle.command_meanings.specs.declared.office.Import.{Import}
use Rattle.command_desk.specs.DeskTold.{DeskTold, IsUnopened}
use Rattle.command_desk.specs.ServeOutcomes.{HasServed}
use Rattle.command_office.specs.Asked.{asked}
use Rattle.command_office.specs.Office.{OfficeIsRight}
use Rattle.command_office.specs.Steps.{step_command}
use Rattle.command_office.specs.declared.asked.Asked.{Asked}
use Rattle.command_office.specs.declared.asked.Asked.TheVariants as asks

-- one call of `office`: its words, and what it did
pub record Call : Type 0 where
  pub words : List (List ℕ)
  pub told : DeskTold

-- each call is right, its keeper tells its tables, and finds them as the call before left them
abbrev pub AreCalls : Tables → List Call → Tables → Type 0
AreCalls before [] after = after ≡ before
AreCalls before (call ∷ calls) after =
    (left : Tables) × OfficeIsRight call.words call.told × (call.told.store.keeper.object.before ≡ Some before) × (call.told.store.keeper.object.after ≡ Some left) × AreCalls left calls after

-- ---- the command of a call

abbrev pub is_one_of : List ℕ → ℕ → Bool
is_one_of statuses number = list_any (λ status. number == status) statuses

-- the call did one command, which `By` says; or none, and then its status is one of these. A command that changed the tables is done also
-- if its answer was cut off (status 8)
pub data DidOne (By : Command → Type 0) (undone : List ℕ) (told : StoreTold) (commands : List Command) : Type 0 where
  DidIt : (command : Command) → By command → IsCommand command → commands ≡ command ∷ [] → DidOne By undone told commands
  DidNone : commands ≡ [] → IsTrue (is_one_of undone told.call.status) → DidOne By undone told commands

-- the file that the source held is read as this command
abbrev pub IsReadFrom : Import → StoreTold → Command → Type 0
IsReadFrom file told command =
    (bytes : List ℕ) × HeldAll told.call.source bytes × ((tables : Tables) × IsLoaded told.keeper.object.before tables × ReadsFile file tables bytes (Ok command))

-- a proof is kept for the round; or the command is a solve of it with the limits that it has without words
abbrev pub IsOfRound : ℕ → Command → Type 0
IsOfRound round command = ((proof : Proof) × (command ≡ Keep round proof)) ⊎ (command ≡ Solve round lottery_limits)

-- ---- the commands of a desk

abbrev pub row_commands : List ℕ → Option Entry → List Command
row_commands key None = []
row_commands key (Some entry) = Withdraw key ∷ []

abbrev pub key_commands : Tables → List (List ℕ) → List Command
key_commands tables [] = []
key_commands tables (key ∷ []) = row_commands key (with_hash tables.register (seal_of key))
key_commands tables (key ∷ other ∷ keys) = []

abbrev pub page_commands : Tables → Request → Option Page → List Command
page_commands tables request (Some WithdrawalPage) = if bytes_eq request.method (codes "POST") then key_commands tables request.keys else []
page_commands tables request other = []

-- the commands that the desk does for what was asked: a withdrawal, if it is asked for with exactly one key, and a volunteer has the key
abbrev pub desk_commands : Tables → Asking → List Command
desk_commands tables TooLarge = []
desk_commands tables NoRequest = []
desk_commands tables (Asks request) = page_commands tables request (page_of request.path)

-- the visit did the desk's commands for the bytes that came over its link; or none, because the link broke while it was read, or the reply
-- is that the keeper failed or that memory ran out. A withdrawal is done also if its reply was cut off
pub data VisitDid (visit : Visit) (commands : List Command) : Type 0 where
  Served : (bytes : List ℕ) (asking : Asking) (tables : Tables) → visit.keeper.tables ≡ Some tables → IfSome visit.link.left (λ told. bytes ≡ told) → AreAsking bytes asking →
      commands ≡ desk_commands tables asking → VisitDid visit commands
  Unread : Rose visit.link.faults visit.link_after.faults → visit.link_after.written ≡ visit.link.written → commands ≡ [] → VisitDid visit commands
  Unserved : (reply : Reply) → RepliesTo visit.link.left visit.keeper visit.keeper_after reply → (reply ≡ unavailable) ⊎ (reply ≡ out_of_memory) → commands ≡ [] → VisitDid visit commands

abbrev pub VisitsDid : List Visit → List Command → Type 0
VisitsDid [] commands = commands ≡ []
VisitsDid (visit ∷ visits) commands = (these : List Command) × (later : List Command) × VisitDid visit these × VisitsDid visits later × (commands ≡ these ++ later)

abbrev pub ServedAll : List ℕ → ℕ → DeskTold → List Command → Type 0
ServedAll path connections told commands = ((visits : List Visit) × HasServed path connections told visits × VisitsDid visits commands) ⊎ (IsUnopened told × (commands ≡ []))

-- ---- the commands of calls

abbrev pub CommandsOf : Option Asked → DeskTold → List Command → Type 0
CommandsOf (Some (asks.Step store step)) told commands = DidOne (λ command. command ≡ step_command step) (9 ∷ 12 ∷ []) told.store commands
CommandsOf (Some (asks.Import store file)) told commands = DidOne (IsReadFrom file told.store) (3 ∷ 6 ∷ 7 ∷ 9 ∷ 12 ∷ []) told.store commands
CommandsOf (Some (asks.ProveRound store proving)) told commands = DidOne (IsOfRound proving.round) (9 ∷ 12 ∷ []) told.store commands
CommandsOf (Some (asks.Serve store serve)) told commands = ServedAll store serve.connections told commands
CommandsOf other told commands = commands ≡ []

-- the commands of these calls, in their order
abbrev pub AreDone : List Call → List Command → Type 0
AreDone [] commands = commands ≡ []
AreDone (call ∷ calls) commands =
    (these : List Command) × (later : List Command) × CommandsOf (asked call.words) call.told these × AreDone calls later × (commands ≡ these ++ later)

-- the tables at the end are the fold of the commands that the calls did, each within its limits; and the lottery of each bundle that they
-- keep is leximin greatest over the bundle's pool
pub record IsRecord (calls : List Call) (tables : Tables) : Type 0 where
  pub commands : List Command
  pub done : AreDone calls commands
  pub are : AllByRecursion IsCommand commands
  pub folds : Folds commands tables
  pub greatest : AreGreatest tables

abbrev pub CallsAreRecorded : Type 0
CallsAreRecorded = (calls : List Call) (tables : Tables) → AreCalls first_tables calls tables → IsRecord calls tables
