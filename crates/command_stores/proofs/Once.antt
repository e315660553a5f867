-- A command has at most one answer over given tables.
use Rattle.std.proofs.Common.{◌≡◌, ◌∙◌, ℕ, List, Option, Some, None, Result, Ok, Err, sym, ap, subst}
use Rattle.command_shell.specs.Answers.{Saying}
use Rattle.define_runs.specs.Run as run
use Rattle.define_runs.specs.Run.{Ending, Limits}
use Rattle.define_offices.specs.Commands.{Change, Command, Given, SetCharter, SetRules, Register, Solve, Keep, Seal, Draw, Drop, NextRound, Show, Withdraw, SetBounds, TryDraw, Undrop, Reopen, WithdrawId, Lines, NoPanel, Outcome, Refuses, Replies, Stops, Unproved}
use Rattle.define_offices.specs.Tables.{Tables}
use Rattle.define_offices.proofs.Steps.{one_outcome}
use Rattle.define_imports.specs.Cells.{Fault}
use Rattle.define_imports.specs.Registers.{ReadsRows}
use Rattle.define_imports.specs.Rules.{ReadsRules}
use Rattle.define_pools.specs.Pool.{Category}
use Rattle.command_meanings.specs.declared.office.Import.{Import}
use Rattle.command_meanings.specs.declared.office.Import.TheVariants as import
use Rattle.command_meanings.specs.Imports.{Does, HasFault, ImportMeans, NoRules, ReadsFile, ReadsRegister, as_command, fault_answer, rules_for}
use Rattle.command_meanings.specs.Steps.{StepMeans, TellsEnding, TellsOutcome, TellsStop, change_of}

-- A run's end is told by at most one answer.
ending_once : (limits : Limits) (ending : Ending) (answer other : Saying) → TellsEnding limits ending answer → TellsEnding limits ending other → answer ≡ other
ending_once limits (run.TooWide stood pass) answer other one two = one ∙ sym two
ending_once limits (run.TotalPasses stood pass) answer other one two = one ∙ sym two
ending_once limits (run.PivotsSpent stood) answer other one two = one ∙ sym two
ending_once limits (run.NodesSpent stood) answer other one two = one ∙ sym two
ending_once limits (run.Found last found) answer other one two = absurd one
ending_once limits run.NoPanel answer other one two = absurd one

stop_once : (command : Command) (ending : Ending) (answer other : Saying) → TellsStop command ending answer → TellsStop command ending other → answer ≡ other
stop_once (Solve round limits) ending answer other one two = ending_once limits ending answer other one two
stop_once (SetCharter charter) ending answer other one two = absurd one
stop_once (SetRules rules) ending answer other one two = absurd one
stop_once (Register rows) ending answer other one two = absurd one
stop_once (Keep round proof) ending answer other one two = absurd one
stop_once (Seal round tickets) ending answer other one two = absurd one
stop_once (Draw round given digits) ending answer other one two = absurd one
stop_once (Drop round id) ending answer other one two = absurd one
stop_once (NextRound after) ending answer other one two = absurd one
stop_once (Show round) ending answer other one two = absurd one
stop_once (Withdraw key) ending answer other one two = absurd one
stop_once (SetBounds round bounds) ending answer other one two = absurd one
stop_once (TryDraw round given digits) ending answer other one two = absurd one
stop_once (Undrop round id) ending answer other one two = absurd one
stop_once (Reopen round) ending answer other one two = absurd one
stop_once (WithdrawId id) ending answer other one two = absurd one

-- An outcome is told by at most one answer.
outcome_once : (command : Command) (outcome : Outcome) (answer other : Saying) → TellsOutcome command outcome answer → TellsOutcome command outcome other → answer ≡ other
outcome_once command (Replies change (Lines text)) answer other one two = one ∙ sym two
outcome_once command (Replies change NoPanel) answer other one two = one ∙ sym two
outcome_once command (Refuses refusal) answer other one two = one ∙ sym two
outcome_once command (Stops ending) answer other one two = stop_once command ending answer other one two
outcome_once command (Unproved refusal) answer other one two = one ∙ sym two

pub answers_once : (command : Command) (tables : Tables) (answer other : Saying) (change other_change : Option Change) →
    StepMeans command tables answer change → StepMeans command tables other other_change → (answer ≡ other) × (change ≡ other_change)
answers_once command tables answer other change other_change one two =
    let same = one_outcome tables command one.outcome two.outcome one.comes two.comes in (
      outcome_once command two.outcome answer other (subst (λ outcome. TellsOutcome command outcome answer) same one.tells) two.tells,
      one.changes ∙ (ap change_of same ∙ sym two.changes),
    )

-- ---- imports, given that a file is read in at most one way as rules, and in at most one way as rows
module _ (one_rules : (bytes : List ℕ) (first second : Result (List Category) Fault) → ReadsRules bytes first → ReadsRules bytes second → first ≡ second)
    (one_rows : (rules : List Category) (bytes : List ℕ) (first second : Result (List Given) Fault) → ReadsRows rules bytes first → ReadsRows rules bytes second → first ≡ second) where
  -- Over given tables, a file is read as at most one command, or as at most one fault.
  one_file : (it : Import) (tables : Tables) (bytes : List ℕ) (first second : Result Command Fault) → ReadsFile it tables bytes first → ReadsFile it tables bytes second → first ≡ second
  one_file import.Charter tables bytes first second one two = one ∙ sym two
  one_file (import.Proof round) tables bytes first second one two = one ∙ sym two
  one_file (import.Rules round) tables bytes first second (said, reads, is) (other, reads_other, is_other) =
      is ∙ (ap (as_command (rules_for round)) (one_rules bytes said other reads reads_other) ∙ sym is_other)
  one_file import.Register tables bytes first second one two = one_register tables.rules bytes first second one two
    where
      one_register : (rules : Option (List Category)) (bytes : List ℕ) (first second : Result Command Fault) → ReadsRegister rules bytes first → ReadsRegister rules bytes second → first ≡ second
      one_register None bytes first second one two = absurd one
      one_register (Some rules) bytes first second (said, reads, is) (other, reads_other, is_other) =
          is ∙ (ap (as_command Register) (one_rows rules bytes said other reads reads_other) ∙ sym is_other)

  -- If there are no rules, no file is read as a register.
  no_register : (it : Import) (tables : Tables) (bytes : List ℕ) (read : Result Command Fault) → it ≡ import.Register → tables.rules ≡ None → ReadsFile it tables bytes read → ⊥
  no_register it tables bytes read is none reads =
      subst (λ rules. ReadsRegister rules bytes read) none (subst (λ it. ReadsFile it tables bytes read) is reads)

  pub imports_once : (it : Import) (bytes : List ℕ) (tables : Tables) (answer other : Saying) (change other_change : Option Change) →
      ImportMeans it bytes tables answer change → ImportMeans it bytes tables other other_change → (answer ≡ other) × (change ≡ other_change)
  imports_once it bytes tables answer other change other_change (Does command reads means) (Does other_command other_reads other_means) =
      let equal = one_file it tables bytes (Ok command) (Ok other_command) reads other_reads in
      let same : command ≡ other_command = cc in
      answers_once other_command tables answer other change other_change (subst (λ c. StepMeans c tables answer change) same means) other_means
  imports_once it bytes tables answer other change other_change (Does command reads means) (HasFault fault faulty is none) =
      let equal = one_file it tables bytes (Ok command) (Err fault) reads faulty in absurd (cc)
  imports_once it bytes tables answer other change other_change (Does command reads means) (NoRules register none is stays) =
      absurd (no_register it tables bytes (Ok command) register none reads)
  imports_once it bytes tables answer other change other_change (HasFault fault faulty is none) (Does command reads means) =
      let equal = one_file it tables bytes (Ok command) (Err fault) reads faulty in absurd (cc)
  imports_once it bytes tables answer other change other_change (HasFault fault faulty is none) (HasFault other_fault other_faulty other_is other_none) =
      let equal = one_file it tables bytes (Err fault) (Err other_fault) faulty other_faulty in
      let same : fault ≡ other_fault = cc in
      (is ∙ (ap fault_answer same ∙ sym other_is), none ∙ sym other_none)
  imports_once it bytes tables answer other change other_change (HasFault fault faulty is none) (NoRules register no_rules other_is stays) =
      absurd (no_register it tables bytes (Err fault) register no_rules faulty)
  imports_once it bytes tables answer other change other_change (NoRules register none is stays) (Does command reads means) =
      absurd (no_register it tables bytes (Ok command) register none reads)
  imports_once it bytes tables answer other change other_change (NoRules register none is stays) (HasFault fault faulty other_is other_stays) =
      absurd (no_register it tables bytes (Err fault) register none faulty)
  imports_once it bytes tables answer other change other_change (NoRules register none is stays) (NoRules other_register other_none other_is other_stays) =
      (is ∙ sym other_is, stays ∙ sym other_stays)
