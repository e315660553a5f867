-- Which outcome of a command of the office an answer tells, and that only an answer of status 0 comes with a change of the tables.
use Rattle.std.proofs.Common.{◌≡◌, ◌∙◌, ℕ, Bool, true, ◌==◌, List, [], ◌∷◌, Option, Some, None, Result, Ok, Err, refl, ap, sym, subst}
use Rattle.std.specs.Prelude.{◌≢◌, option_map}
use Rattle.std.specs.List.{list_any}
use Rattle.std.proofs.lemmas.Bool.{false≢true}
use Rattle.define_proofs.specs.ProofVerdict.{Proof}
use Rattle.define_runs.specs.Run as run
use Rattle.define_runs.specs.Run.{Ending, Limits}
use Rattle.define_offices.specs.Commands.{Change, Command, Keep, Lines, NoPanel, Outcome, Refuses, Replies, Solve, Stops, Unproved}
use Rattle.define_offices.specs.Steps.{Comes, applied}
use Rattle.define_offices.specs.Tables.{Tables}
use Rattle.command_shell.specs.declared.status.Cause.TheVariants.{Input}
use Rattle.command_shell.specs.declared.status.Printed.TheVariants.{Done, NoPanel as NonePrinted, Refused as Rejected}
use Rattle.command_shell.specs.Answers.{Saying, Prints, Stops as StopsBy, status_of}
use Rattle.command_meanings.specs.Imports.{Does, HasFault, ImportMeans, NoRules, keeping}
use Rattle.command_meanings.specs.Prove.{lottery_limits}
use Rattle.command_meanings.specs.ProvedRounds.{AsSolve, Keeps as KeepsProof, ProvesRound}
use Rattle.command_meanings.specs.declared.office.Import.{Import}
use Rattle.command_meanings.specs.declared.office.Import.TheVariants as imports
use Rattle.command_meanings.specs.Steps.{StepMeans, TellsEnding, TellsOutcome, TellsStop, change_of}
use Rattle.command_office.specs.declared.steps.Step.{Step}
use Rattle.command_office.specs.declared.steps.Step.TheVariants as steps
use Rattle.command_office.specs.Steps.{step_command}
use Rattle.define_proofs.specs.ProofReading.{read_proof}
use Rattle.define_lines.specs.Lines as lines
use Rattle.command_office.proofs.KeptRounds.{keep_comes, keep_none_stays}
use Rattle.command_office.proofs.Plain.{file_plain, is_plain, is_plain_command, is_plain_import, plain_comes}
use Rattle.command_office.proofs.SolvedRounds.{none_stays}

pub unchanged : (before after : Option Tables) (change : Option Change) → change ≡ None → after ≡ option_map (λ kept. applied kept change) before → after ≡ before
unchanged before after (Some change) none h = absurd (cc)
unchanged None after None none h = h
unchanged (Some tables) after None none h = h

ending_not_printed : (limits : Limits) (ending : Ending) (answer : Saying) → (status_of answer ≡ 4 → ⊥) → (status_of answer ≡ 5 → ⊥) → TellsEnding limits ending answer → ⊥
ending_not_printed limits (run.TooWide stood pass) answer n4 n5 h = n4 (ap status_of h)
ending_not_printed limits (run.TotalPasses stood pass) answer n4 n5 h = n4 (ap status_of h)
ending_not_printed limits (run.PivotsSpent stood) answer n4 n5 h = n5 (ap status_of h)
ending_not_printed limits (run.NodesSpent stood) answer n4 n5 h = n5 (ap status_of h)
ending_not_printed limits (run.Found last found) answer n4 n5 h = h
ending_not_printed limits run.NoPanel answer n4 n5 h = h

-- only an answer of status 4 or 5 tells that a run stops
stop_not_printed : (command : Command) (ending : Ending) (answer : Saying) → (status_of answer ≡ 4 → ⊥) → (status_of answer ≡ 5 → ⊥) → TellsStop command ending answer → ⊥
stop_not_printed (Solve round limits) ending answer n4 n5 h = ending_not_printed limits ending answer n4 n5 h
stop_not_printed other ending answer n4 n5 h = h

-- the statuses of plain outcomes
abbrev is_plainly_said : ℕ → Bool
is_plainly_said number = list_any (λ status. number == status) (0 ∷ 6 ∷ [])

module _ (command : Command) where
  pub told_text : (outcome : Outcome) (text : List ℕ) → TellsOutcome command outcome (Prints Done text) → outcome ≡ Replies (change_of outcome) (Lines text)
  told_text (Replies change (Lines own)) text h = cc
  told_text (Replies change NoPanel) text h = absurd (cc)
  told_text (Refuses refusal) text h = absurd (cc)
  told_text (Stops ending) text h = absurd (stop_not_printed command ending (Prints Done text) (λ e. absurd (cc)) (λ e. absurd (cc)) h)
  told_text (Unproved refusal) text h = absurd (cc)

  pub told_none : (outcome : Outcome) (text : List ℕ) → TellsOutcome command outcome (Prints NonePrinted text) → outcome ≡ Replies (change_of outcome) NoPanel
  told_none (Replies change (Lines own)) text h = absurd (cc)
  told_none (Replies change NoPanel) text h = refl
  told_none (Refuses refusal) text h = absurd (cc)
  told_none (Stops ending) text h = absurd (stop_not_printed command ending (Prints NonePrinted text) (λ e. absurd (cc)) (λ e. absurd (cc)) h)
  told_none (Unproved refusal) text h = absurd (cc)

  -- a plain outcome is told by an answer of status 0 or 6
  told_plain : (allowed : ℕ → Bool) → allowed 0 ≡ true → allowed 6 ≡ true → (outcome : Outcome) (answer : Saying) → is_plain outcome ≡ true → TellsOutcome command outcome answer →
      allowed (status_of answer) ≡ true
  told_plain allowed done rule (Replies change (Lines own)) answer plain h = ap (λ a. allowed (status_of a)) h ∙ done
  told_plain allowed done rule (Refuses refusal) answer plain h = ap (λ a. allowed (status_of a)) h ∙ rule
  told_plain allowed done rule other answer plain h = absurd (false≢true plain)

  -- only an answer of status 0 or 1 comes with a change
  pub told_change : (outcome : Outcome) (answer : Saying) → status_of answer ≢ 0 → status_of answer ≢ 1 → TellsOutcome command outcome answer → change_of outcome ≡ None
  told_change (Replies change (Lines own)) answer n0 n1 h = absurd (n0 (ap status_of h))
  told_change (Replies change NoPanel) answer n0 n1 h = absurd (n1 (ap status_of h))
  told_change (Refuses refusal) answer n0 n1 h = refl
  told_change (Stops ending) answer n0 n1 h = refl
  told_change (Unproved refusal) answer n0 n1 h = refl

-- ---- what is told by an answer of status 0 or 1

module _ (command : Command) (tables : Tables) (change : Option Change) where
  pub comes_text : (text : List ℕ) → StepMeans command tables (Prints Done text) change → Comes tables command (Replies change (Lines text))
  comes_text text means =
      subst (λ c. Comes tables command (Replies c (Lines text))) (sym means.changes) (subst (Comes tables command) (told_text command means.outcome text means.tells) means.comes)

  pub comes_none : (text : List ℕ) (means : StepMeans command tables (Prints NonePrinted text) change) → Comes tables command (Replies (change_of means.outcome) NoPanel)
  comes_none text means = subst (Comes tables command) (told_none command means.outcome text means.tells) means.comes

-- ---- only an answer of status 0 comes with a change

module _ (command : Command) (tables : Tables) (change : Option Change) where
  plain_quiet : is_plain_command command ≡ true → (answer : Saying) → StepMeans command tables answer change → status_of answer ≢ 0 → change ≡ None
  plain_quiet plain answer means n0 =
      means.changes ∙ told_change command means.outcome answer n0 (λ e. false≢true (ap is_plainly_said (sym e) ∙ told_plain command is_plainly_said refl refl means.outcome answer (plain_comes tables command means.outcome plain means.comes) means.tells)) means.tells

  -- if a reply that there is no panel changes nothing, only an answer of status 0 comes with a change
  by_none : ((none : Option Change) → Comes tables command (Replies none NoPanel) → none ≡ None) → (answer : Saying) → StepMeans command tables answer change → status_of answer ≢ 0 → change ≡ None
  by_none quiet (Prints NonePrinted text) means n0 = means.changes ∙ quiet (change_of means.outcome) (comes_none command tables change text means)
  by_none quiet (Prints Done text) means n0 = absurd (n0 refl)
  by_none quiet (Prints Rejected text) means n0 = means.changes ∙ told_change command means.outcome (Prints Rejected text) n0 (λ e. absurd (cc)) means.tells
  by_none quiet (StopsBy Input line) means n0 = means.changes ∙ told_change command means.outcome (StopsBy Input line) n0 (λ e. absurd (cc)) means.tells
  by_none quiet other means n0 = means.changes ∙ told_change command means.outcome other n0 (λ e. absurd (cc)) means.tells

module _ (tables : Tables) (answer : Saying) (change : Option Change) (n0 : status_of answer ≢ 0) where
  solve_quiet : (round : ℕ) (limits : Limits) → StepMeans (Solve round limits) tables answer change → change ≡ None
  solve_quiet round limits means = by_none (Solve round limits) tables change (none_stays tables round limits) answer means n0

  keep_quiet : (round : ℕ) (proof : Proof) → StepMeans (Keep round proof) tables answer change → change ≡ None
  keep_quiet round proof means =
      by_none (Keep round proof) tables change (λ none comes. keep_none_stays tables round proof none (keep_comes tables round proof (Replies none NoPanel) comes)) answer means n0

  pub step_quiet : (step : Step) → StepMeans (step_command step) tables answer change → change ≡ None
  step_quiet (steps.Solve round limits workers) means = solve_quiet round limits means
  step_quiet other means = plain_quiet (step_command other) tables change refl answer means n0

  pub round_quiet : (round : ℕ) → ProvesRound round tables answer change → change ≡ None
  round_quiet round (KeepsProof pool proof is of valid means) = keep_quiet round proof means
  round_quiet round (AsSolve means) = solve_quiet round lottery_limits means

  -- the command that a proof is read as is the keeping of it
  read_quiet : (round : ℕ) (result : Result Proof lines.Fault) (command : Command) → Ok command ≡ keeping round result → StepMeans command tables answer change → change ≡ None
  read_quiet round (Ok proof) command h means = let e : command ≡ Keep round proof = cc in keep_quiet round proof (subst (λ c. StepMeans c tables answer change) e means)
  read_quiet round (Err fault) command h means = absurd (cc)

  file_quiet : (import : Import) (bytes : List ℕ) → is_plain_import import ≡ true → ImportMeans import bytes tables answer change → change ≡ None
  file_quiet import bytes plain (Does command reads means) = plain_quiet command tables change (file_plain import tables bytes command plain reads) answer means n0
  file_quiet import bytes plain (HasFault fault reads is none) = none
  file_quiet import bytes plain (NoRules register none is kept) = kept

  pub import_quiet : (import : Import) (bytes : List ℕ) → ImportMeans import bytes tables answer change → change ≡ None
  import_quiet (imports.Proof round) bytes (Does command reads means) = read_quiet round (read_proof bytes) command reads means
  import_quiet (imports.Proof round) bytes (HasFault fault reads is none) = none
  import_quiet (imports.Proof round) bytes (NoRules register none is kept) = kept
  import_quiet imports.Charter bytes means = file_quiet imports.Charter bytes refl means
  import_quiet (imports.Rules round) bytes means = file_quiet (imports.Rules round) bytes refl means
  import_quiet imports.Register bytes means = file_quiet imports.Register bytes refl means
