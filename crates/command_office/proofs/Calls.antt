-- If the words ask for a command, an outcome that is right for the command is right for the words.
use Rattle.std.proofs.Common.{◌≡◌, ℕ, List, Option, Some, refl, subst, sym}
use Rattle.command_desk.specs.DeskTold.{DeskTold, desk_told, ports}
use Rattle.command_desk.specs.ServeOutcomes.{SilentServeOutcome}
use Rattle.office_http.specs.Visits.{LinkTold}
use Rattle.outside.specs.Links.{DoorCall, DoorLinks}
use Rattle.command_shell.specs.Told.{Told, object}
use Rattle.command_meanings.specs.Imports.{ImportMeans}
use Rattle.command_meanings.specs.Steps.{StepMeans, TextMeans}
use Rattle.command_stores.specs.StoreOutcomes.{SilentStoreOutcome, TextStoreOutcome}
use Rattle.command_meanings.specs.ProvedRounds.{ProvesRound}
use Rattle.command_meanings.specs.declared.office.Import.{Import}
use Rattle.command_meanings.specs.declared.office.StoreText.{StoreText}
use Rattle.define_offices.specs.Commands.{Command}
use Rattle.command_stores.specs.StoreTold.{StoreTold, keeper_told, store_told}
use Rattle.define_offices.specs.Tables.{Tables}
use Rattle.office_core.specs.Keeping.{Course}
use Rattle.command_office.specs.Office.{EndsRightly, LeavesDoor, LeavesStore}
use Rattle.command_office.specs.declared.asked.Asked.{Asked}

-- if a call is right, and the keeper's tables, faults and course are as before, the call leaves the store alone
pub leaves : (Right : Told → Type 0) (call : Told) (kept : Option Tables) (faults : ℕ) (course : Course) → Right call → LeavesStore Right (store_told call (keeper_told (object kept kept faults faults) course course))
leaves Right call kept faults course right = record { keeper = record { object = record { same = refl; no_fault = refl }; course = refl }; call = right }

-- if a call is right, and the door's links, faults, port and calls are as before, the call leaves the door alone
pub shut : (Right : StoreTold → Type 0) (call : StoreTold) (links : Option (DoorLinks LinkTold)) (faults : ℕ) (port : Option ℕ) (calls : Option (List DoorCall)) → Right call →
    LeavesDoor Right (desk_told call (object links links faults faults) (ports port port calls calls))
shut Right call links faults port calls right = record { door = record { links = record { same = refl; no_fault = refl }; port = refl; uncalled = refl }; call = right }

pub as_asked : (asked it : Asked) (told : DeskTold) → asked ≡ it → EndsRightly (Some it) told → EndsRightly (Some asked) told
as_asked asked it told is right = subst (λ one. EndsRightly (Some one) told) (sym is) right

-- what is right for a command over the store at a path is right for an equal command and path
pub steps_so : (path store : List ℕ) (one other : Command) (told : StoreTold) → path ≡ store → one ≡ other → SilentStoreOutcome path (StepMeans one) told → SilentStoreOutcome store (StepMeans other) told
steps_so path store one other told same equal right =
    subst (λ it. SilentStoreOutcome store (StepMeans it) told) equal (subst (λ p. SilentStoreOutcome p (StepMeans one) told) same right)

pub imports_so : (path store : List ℕ) (import : Import) (told : StoreTold) → path ≡ store → TextStoreOutcome path (ImportMeans import) told → TextStoreOutcome store (ImportMeans import) told
imports_so path store import told same right = subst (λ p. TextStoreOutcome p (ImportMeans import) told) same right

pub proofs_so : (path store : List ℕ) (round : ℕ) (told : StoreTold) → path ≡ store → SilentStoreOutcome path (ProvesRound round) told → SilentStoreOutcome store (ProvesRound round) told
proofs_so path store round told same right = subst (λ p. SilentStoreOutcome p (ProvesRound round) told) same right

pub texts_so : (path store : List ℕ) (text : StoreText) (told : StoreTold) → path ≡ store → SilentStoreOutcome path (TextMeans text) told → SilentStoreOutcome store (TextMeans text) told
texts_so path store text told same right = subst (λ p. SilentStoreOutcome p (TextMeans text) told) same right

pub serves_so : (path store : List ℕ) (port connections : ℕ) (told : DeskTold) → path ≡ store → SilentServeOutcome path port connections told → SilentServeOutcome store port connections told
serves_so path store port connections told same right = subst (λ p. SilentServeOutcome p port connections told) same right
