-- What the commands of the office answer, which is the outcome of the step over the tables; and the texts that are made of the tables.
-- Builds on `define_offices`, Report of `define_offices`, RoundPages and Lines. The contract of `office` cites it
-- with one line for all commands and one for all texts.
use Rattle.std.specs.Prelude.{◌≡◌, ℕ, List, [], ◌∷◌, Option, Some, None, Result, Ok, Err}
use Rattle.command_shell.specs.Answers.{Prints, Saying, Stops as StopsBy}
use Rattle.command_shell.specs.Lines.{no_panel_line}
use Rattle.command_shell.specs.declared.status.Cause.TheVariants.{Rule, Spent, Wide}
use Rattle.command_shell.specs.declared.status.Printed.TheVariants as printed
use Rattle.command_meanings.specs.Check.{refused_line}
use Rattle.command_meanings.specs.Lines.{nodes_spent_line, pivots_spent_line, total_line, wide_line}
use Rattle.define_lines.specs.Lines.{text_of}
use Rattle.define_pools.specs.Pool.{Pool}
use Rattle.define_bundles.specs.PoolText.{spelling}
use Rattle.define_runs.specs.Run as run
use Rattle.define_runs.specs.Run.{Ending, Limits}
use Rattle.define_offices.specs.Commands.{Change, Command, Solve, Lines, NoPanel, Outcome, Refuses, Refusal, Replies, Stops, Unproved}
use Rattle.define_offices.specs.Facts.{IsCommand}
use Rattle.define_offices.specs.Lines.{rule_line}
use Rattle.define_offices.specs.Pools.{pool_of}
use Rattle.define_offices.specs.Steps.{Comes}
use Rattle.define_offices.specs.Tables.{Tables}
use Rattle.define_offices.specs.Report.{report_of}
use Rattle.command_meanings.specs.RoundPages.{page_of}
use Rattle.command_meanings.specs.declared.office.StoreText.{StoreText}
use Rattle.command_meanings.specs.declared.office.RoundText.{RoundText}
use Rattle.command_meanings.specs.declared.office.RoundText.TheVariants as text

-- the answer to a refusal: the line `rule`, its name and its values
abbrev pub refused_by : Refusal → Saying
refused_by refusal = StopsBy Rule (text_of (rule_line refusal ∷ []))

-- the answer to a run that stops early under these limits. No answer is right for `Found` and `NoPanel`, since such a run doesn't stop
-- early
abbrev pub TellsEnding : Limits → Ending → Saying → Type 0
TellsEnding limits (run.TooWide stood pass) answer = answer ≡ StopsBy Wide (wide_line stood pass)
TellsEnding limits (run.TotalPasses stood pass) answer = answer ≡ StopsBy Wide (total_line pass)
TellsEnding limits (run.PivotsSpent stood) answer = answer ≡ StopsBy Spent (pivots_spent_line limits.pivots (Some stood))
TellsEnding limits (run.NodesSpent stood) answer = answer ≡ StopsBy Spent (nodes_spent_line limits.nodes stood)
TellsEnding limits (run.Found last found) answer = ⊥
TellsEnding limits run.NoPanel answer = ⊥

-- the answer to a run that stops. Only a solve makes a run, so no answer is right for another command
abbrev pub TellsStop : Command → Ending → Saying → Type 0
TellsStop (Solve round limits) ending answer = TellsEnding limits ending answer
TellsStop other ending answer = ⊥

-- the answer to a command with this outcome
abbrev pub TellsOutcome : Command → Outcome → Saying → Type 0
-- status 0
TellsOutcome command (Replies change (Lines text)) answer = answer ≡ Prints printed.Done text
-- status 1
TellsOutcome command (Replies change NoPanel) answer = answer ≡ Prints printed.NoPanel no_panel_line
-- status 6
TellsOutcome command (Refuses refusal) answer = answer ≡ refused_by refusal
-- status 4 or 5
TellsOutcome command (Stops ending) answer = TellsStop command ending answer
-- status 11
TellsOutcome command (Unproved refusal) answer = answer ≡ Prints printed.Refused (refused_line refusal)

-- the change of the tables that an outcome makes
abbrev pub change_of : Outcome → Option Change
change_of (Replies change reply) = change
change_of (Refuses refusal) = None
change_of (Stops ending) = None
change_of (Unproved refusal) = None

-- the answer and the change are those of the command's outcome over the tables
pub record StepMeans (command : Command) (tables : Tables) (answer : Saying) (change : Option Change) : Type 0 where
  -- the numbers and names of the command are within their limits
  pub is_command : IsCommand command
  pub outcome : Outcome
  pub comes : Comes tables command outcome
  pub tells : TellsOutcome command outcome answer
  pub changes : change ≡ change_of outcome

-- over given tables a command has at most one answer, with at most one change
abbrev pub StepsAnswerOnce : Type 0
StepsAnswerOnce = (command : Command) (tables : Tables) (answer other : Saying) (change other_change : Option Change) →
    StepMeans command tables answer change → StepMeans command tables other other_change → (answer ≡ other) × (change ≡ other_change)

-- ---- texts that are made of the tables of a store, and change nothing

-- the answer is the text, or the refusal
abbrev pub text_or_refusal : Result (List ℕ) Refusal → Saying
text_or_refusal (Ok text) = Prints printed.Done text
text_or_refusal (Err refusal) = refused_by refusal

-- the text of a pool, or why there is none
abbrev pub pool_text : Result Pool Refusal → Result (List ℕ) Refusal
pool_text (Ok pool) = Ok (spelling pool)
pool_text (Err refusal) = Err refusal

-- the text about a round that is made of the tables, or why there is none
abbrev pub stored_text : RoundText → ℕ → Tables → Result (List ℕ) Refusal
stored_text text.Report round tables = report_of tables round
stored_text text.Pool round tables = pool_text (pool_of tables round)
stored_text text.Page round tables = page_of tables round

-- the answer is this text of the tables, or the refusal if there is none; and the tables stay
pub record TextMeans (it : StoreText) (tables : Tables) (answer : Saying) (change : Option Change) : Type 0 where
  pub is : answer ≡ text_or_refusal (stored_text it.text it.round tables)
  pub stays : change ≡ None
