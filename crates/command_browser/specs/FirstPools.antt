-- What `tell_first_pool` tells: the text of the pool of round 1, after a charter, rules and a register were imported into an empty office.
-- Builds on how imports read files (`define_imports`) and on the steps of an office (`define_offices`). The contract of `tell_first_pool`
-- cites it.
use Rattle.std.specs.Prelude.{◌≡◌, ℕ, List, [], ◌∷◌, codes, Option, Result, Ok, Err, ⊤}
use Rattle.define_bundles.specs.PoolText.{spelling}
use Rattle.define_imports.specs.Cells.{Fault}
use Rattle.define_imports.specs.Charters.{read_charter}
use Rattle.define_imports.specs.Registers.{ReadsRows}
use Rattle.define_imports.specs.Rules.{ReadsRules}
use Rattle.define_offices.specs.Commands.{Change, Command, Given, Refusal, Refuses, Register, Replies, Reply, SetCharter, SetRules}
use Rattle.define_offices.specs.Pools.{pool_of}
use Rattle.define_offices.specs.Steps.{Comes, applied}
use Rattle.define_offices.specs.Tables.{Charter, Tables, first_tables}
use Rattle.define_pools.specs.Pool.{Category, Pool}
use Rattle.office_steps.specs.Replies.{seen_refusal}
use Rattle.office_steps.specs.declared.stops.OfficeStop.{OfficeStop}
use Rattle.office_steps.specs.declared.stops.OfficeStop.TheVariants.{Refused, OutOfMemory}
use Rattle.command_shell.specs.Lines.{input_line, line}
use Rattle.office_import.specs.Answers.{IsFault}
use Rattle.office_import.specs.declared.stops.ImportStop.{ImportStop}
use Rattle.command_browser.specs.declared.first_pools.Files.{Files}

-- ---- the files

-- the files are read as this charter, these rules, and these rows of a register of the rules
pub record AreRead (charter rules register : List ℕ) (its : Charter) (categories : List Category) (rows : List Given) : Type 0 where
  pub charter_read : read_charter charter ≡ Ok its
  pub rules_read : ReadsRules rules (Ok categories)
  pub register_read : ReadsRows categories register (Ok rows)

-- the fault of the first file that has one. A register is read by the rules
pub data HasFault (charter rules register : List ℕ) (fault : Fault) : Type 0 where
  OfCharter : read_charter charter ≡ Err fault → HasFault charter rules register fault
  OfRules : (its : Charter) → read_charter charter ≡ Ok its → ReadsRules rules (Err fault) → HasFault charter rules register fault
  OfRegister : (its : Charter) (categories : List Category) → read_charter charter ≡ Ok its → ReadsRules rules (Ok categories) → ReadsRows categories register (Err fault) →
      HasFault charter rules register fault

-- the line that an import prints of a faulty file
abbrev pub fault_line : Fault → List ℕ
fault_line fault = input_line (record { line = fault.place; kind = fault.kind })

-- what the code may return for the files; running out of memory is allowed at any time
abbrev pub ReadsFiles : List ℕ → List ℕ → List ℕ → Result Files ImportStop → Type 0
ReadsFiles charter rules register (Ok files) = AreRead charter rules register files.charter files.rules files.rows
ReadsFiles charter rules register (Err stop) = IsFault (HasFault charter rules register) stop

-- ---- the imports

-- the command is done, and leads from the tables `before` to `after`
pub record IsDone (before : Tables) (command : Command) (after : Tables) : Type 0 where
  pub change : Option Change
  pub reply : Reply
  pub comes : Comes before command (Replies change reply)
  pub leaves : after ≡ applied before change

-- what the code may return for a command; running out of memory is allowed at any time
abbrev pub DoesOrStops : Tables → Command → Result Tables OfficeStop → Type 0
DoesOrStops before command (Ok after) = IsDone before command after
DoesOrStops before command (Err (Refused refusal)) = Comes before command (Refuses (seen_refusal refusal))
DoesOrStops before command (Err OutOfMemory) = ⊤

-- the imports lead from the first tables to these, and none is refused
pub record AreImported (its : Charter) (categories : List Category) (rows : List Given) (tables : Tables) : Type 0 where
  pub chartered : Tables
  pub ruled : Tables
  pub charter : IsDone first_tables (SetCharter its) chartered
  pub rules : IsDone chartered (SetRules categories) ruled
  pub register : IsDone ruled (Register rows) tables

-- an import is refused, and those before it are done
pub data AreRefused (its : Charter) (categories : List Category) (rows : List Given) : Type 0 where
  AtCharter : (refusal : Refusal) → Comes first_tables (SetCharter its) (Refuses refusal) → AreRefused its categories rows
  AtRules : (chartered : Tables) (refusal : Refusal) → IsDone first_tables (SetCharter its) chartered → Comes chartered (SetRules categories) (Refuses refusal) →
      AreRefused its categories rows
  AtRegister : (chartered ruled : Tables) (refusal : Refusal) → IsDone first_tables (SetCharter its) chartered → IsDone chartered (SetRules categories) ruled →
      Comes ruled (Register rows) (Refuses refusal) → AreRefused its categories rows

-- what the code may return for the imports; running out of memory is allowed at any time
abbrev pub ImportsOrStops : Charter → List Category → List Given → Result Tables OfficeStop → Type 0
ImportsOrStops its categories rows (Ok tables) = AreImported its categories rows tables
ImportsOrStops its categories rows (Err (Refused refusal)) = AreRefused its categories rows
ImportsOrStops its categories rows (Err OutOfMemory) = ⊤

-- ---- the text

-- the line that there is no pool, since an import is refused
abbrev pub refused_line : List ℕ
refused_line = line (codes "rule" ∷ codes "imports" ∷ [])

-- the text is that of the pool of round 1, or the line that this round has none
pub data TellsRound (tables : Tables) (text : List ℕ) : Type 0 where
  Spells : (pool : Pool) → pool_of tables 1 ≡ Ok pool → text ≡ spelling pool → TellsRound tables text
  HasNone : (refusal : Refusal) → pool_of tables 1 ≡ Err refusal → text ≡ refused_line → TellsRound tables text

-- the text about what was read: that of the pool after the imports, or the line that one is refused
pub data TellsImports (its : Charter) (categories : List Category) (rows : List Given) (text : List ℕ) : Type 0 where
  Imports : (tables : Tables) → AreImported its categories rows tables → TellsRound tables text → TellsImports its categories rows text
  RefusesOne : AreRefused its categories rows → text ≡ refused_line → TellsImports its categories rows text

-- the text about three files
pub data TellsFirstPool (charter rules register text : List ℕ) : Type 0 where
  Reads : (its : Charter) (categories : List Category) (rows : List Given) → AreRead charter rules register its categories rows → TellsImports its categories rows text →
      TellsFirstPool charter rules register text
  IsFaulty : (fault : Fault) → HasFault charter rules register fault → text ≡ fault_line fault → TellsFirstPool charter rules register text
