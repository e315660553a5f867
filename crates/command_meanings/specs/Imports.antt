-- What the import commands and `keep` answer. The file from the source is read as a command of the office, and the answer is the outcome
-- of that command; or the file has a fault; or it is to be read as a register, and there are no rules. Builds on `define_imports` and
-- Steps. The contract of `office` cites it with one line for all imports.
use Rattle.std.specs.Prelude.{◌≡◌, ℕ, nat_le, if◌then◌else◌, List, Option, Some, None, Result, Ok, Err}
use Rattle.command_shell.specs.Answers.{Saying, Stops as StopsBy}
use Rattle.command_shell.specs.Lines.{input_line}
use Rattle.command_shell.specs.declared.status.Cause.TheVariants.{Input}
use Rattle.define_proofs.specs.ProofVerdict.{Proof}
use Rattle.define_imports.specs.Cells.{Fault}
use Rattle.define_imports.specs.Charters.{read_charter}
use Rattle.define_imports.specs.Registers.{ReadsRows}
use Rattle.define_imports.specs.Rules.{ReadsRules}
use Rattle.define_offices.specs.Commands.{Change, Command, Given, Incomplete, Keep, Register, SetBounds, SetCharter, SetRules}
use Rattle.define_lines.specs.Lines as lines
use Rattle.define_offices.specs.declared.Part.TheVariants as part
use Rattle.define_offices.specs.Tables.{Tables}
use Rattle.define_pools.specs.Pool.{Category}
use Rattle.define_proofs.specs.ProofReading.{read_proof}
use Rattle.command_meanings.specs.declared.office.Import.{Import}
use Rattle.command_meanings.specs.declared.office.Import.TheVariants as import
use Rattle.command_meanings.specs.Steps.{StepMeans, refused_by}

-- the content of a file as a command, or the same fault
abbrev pub as_command : {Content : Type 0} → (Content → Command) → Result Content Fault → Result Command Fault
as_command command (Ok content) = Ok (command content)
as_command command (Err fault) = Err fault

-- the file is read as a register of these rules; if there are no rules, no file is read
abbrev pub ReadsRegister : Option (List Category) → List ℕ → Result Command Fault → Type 0
ReadsRegister None bytes read = ⊥
ReadsRegister (Some rules) bytes read = (said : Result (List Given) Fault) × ReadsRows rules bytes said × (read ≡ as_command Register said)

-- the command that keeps the proof for the round, or the fault of the proof's text; the place of the fault is its line
abbrev pub keeping : ℕ → Result Proof lines.Fault → Result Command Fault
keeping round (Ok proof) = Ok (Keep round proof)
keeping round (Err fault) = Err (record { place = fault.line; kind = fault.kind })

-- the command for rules: they are set for the assembly, or, from round 2 on, as bounds of this round
abbrev pub rules_for : ℕ → List Category → Command
rules_for round rules = if nat_le 2 round then SetBounds round rules else SetRules rules

-- the file is read as this command of the office, or has this first fault
abbrev pub ReadsFile : Import → Tables → List ℕ → Result Command Fault → Type 0
ReadsFile import.Charter tables bytes read = read ≡ as_command SetCharter (read_charter bytes)
ReadsFile (import.Rules round) tables bytes read = (said : Result (List Category) Fault) × ReadsRules bytes said × (read ≡ as_command (rules_for round) said)
ReadsFile import.Register tables bytes read = ReadsRegister tables.rules bytes read
ReadsFile (import.Proof round) tables bytes read = read ≡ keeping round (read_proof bytes)

-- the answer to a faulty file: the line `input` with the place and the kind of the fault
abbrev pub fault_answer : Fault → Saying
fault_answer fault = StopsBy Input (input_line (record { line = fault.place; kind = fault.kind }))

-- the answers that are right about a file and the tables, with the change of the tables
pub data ImportMeans (it : Import) (bytes : List ℕ) (tables : Tables) (answer : Saying) (change : Option Change) : Type 0 where
  -- the file is read as a command, and the answer and the change are those of its outcome
  Does : (command : Command) → ReadsFile it tables bytes (Ok command) → StepMeans command tables answer change → ImportMeans it bytes tables answer change
  -- status 3: the file's first fault
  HasFault : (fault : Fault) → ReadsFile it tables bytes (Err fault) → answer ≡ fault_answer fault → change ≡ None → ImportMeans it bytes tables answer change
  -- status 6: a register is imported and there are no rules, so the file isn't judged
  NoRules : it ≡ import.Register → tables.rules ≡ None → answer ≡ refused_by (Incomplete part.Rules) → change ≡ None → ImportMeans it bytes tables answer change

-- about a given file, over given tables, an import has at most one answer, with at most one change
abbrev pub ImportsAnswerOnce : Type 0
ImportsAnswerOnce = (it : Import) (bytes : List ℕ) (tables : Tables) (answer other : Saying) (change other_change : Option Change) →
    ImportMeans it bytes tables answer change → ImportMeans it bytes tables other other_change → (answer ≡ other) × (change ≡ other_change)
