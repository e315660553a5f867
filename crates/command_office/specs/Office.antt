-- The contract of `office`: what a call of the program may do, for its words. Each command has a meaning, which says what is right at each
-- of its statuses: those of commands that read one text are in `TextMeans` (command_texts). What is the same for all commands is defined in
-- the shell (`command_shell/specs`): faults of source, out and errs, want of memory, a text that is too long, and which of out and errs stay
-- untouched (`Outcomes`); and a text outside its format (`Subjects`).
use Rattle.std.specs.Prelude.{ℕ, List, [], ◌∷◌, codes, Option, Some, None}
use Rattle.command_meanings.specs.Legs.{LegsMeans}
use Rattle.command_meanings.specs.Lottery.{LotteryMeans}
use Rattle.command_meanings.specs.Make.{MakeMeans}
use Rattle.command_meanings.specs.Prove.{ProvesWithin}
use Rattle.command_meanings.specs.Sharing.{SharedLotteryMeans}
use Rattle.command_shell.specs.Answers.{IsRight, IsTheAnswer, RightAnswers}
use Rattle.command_shell.specs.Formats.{pool_format, pool_or_bundle_format}
use Rattle.command_shell.specs.Lines.{line, want_of_memory_line}
use Rattle.command_shell.specs.Outcomes.{IsStopped, SilentOutcome, TextOutcome}
use Rattle.command_shell.specs.Subjects.{About, Format}
use Rattle.command_shell.specs.Told.{Told, IsUntouched}
use Rattle.command_meanings.specs.Imports.{ImportMeans}
use Rattle.command_meanings.specs.ProvedRounds.{ProvesRound}
use Rattle.command_meanings.specs.Steps.{StepMeans, TextMeans as StoreTextMeans}
use Rattle.command_stores.specs.StoreOutcomes.{SilentStoreOutcome, TextStoreOutcome}
use Rattle.command_stores.specs.StoreTold.{IsLeftAlone, StoreTold}
use Rattle.command_desk.specs.DeskTold.{DeskTold, IsUnopened}
use Rattle.command_desk.specs.ServeOutcomes.{SilentServeOutcome}
use Rattle.command_texts.specs.TextMeans.{OneAnswer, TextMeans}
use Rattle.command_office.specs.Asked.{asked}
use Rattle.command_office.specs.Steps.{step_command}
use Rattle.command_office.specs.declared.asked.Asked.{Asked}
use Rattle.command_office.specs.declared.asked.Asked.TheVariants as asks

-- the call told the one answer that is right about what the source held, whole or cut off by a fault of out; or the source held too much or
-- counted a fault; or memory was wanting
abbrev pub Answers : {Value : Type 0} → Format Value → (Value → RightAnswers) → Told → Type 0
Answers format Means told = TextOutcome (OneAnswer format Means) told

-- the outcome of words that ask for nothing: they have none of the program's forms, have options that don't go together, or ask for help
pub record IsUsage (told : Told) : Type 0 where
  pub source : IsUntouched told.source
  -- status 2: errs got a text. That it is `clap`'s, or the program's own if options don't go together, is tested, not proved
  pub text : List ℕ
  pub stopped : IsStopped 2 text told

-- the outcomes that a call may have if its words ask for nothing, or for a command that uses no store
abbrev pub AnswersAlone : Option Asked → Told → Type 0
AnswersAlone None told = IsUsage told
-- all commands that read one text and start no threads
AnswersAlone (Some (asks.Text it)) told = TextOutcome (TextMeans it) told
-- of several proofs each may be told; every other answer has its cause
AnswersAlone (Some (asks.Prove it)) told = TextOutcome (About pool_or_bundle_format (ProvesWithin it.nodes)) told
-- the number of workers is no part of this meaning, so what is told is the same with any number. That holds for `legs`, for `make`
-- and for a solve over a store too
AnswersAlone (Some (asks.Lottery it)) told = Answers pool_format (LotteryMeans it.limits) told
-- More than one answer may be right with `--share`. It is that of `lottery`, unless a pricing of `lottery` spends its budget
-- (`sharing_answers_as_lottery` of `command_meanings`)
AnswersAlone (Some (asks.SharedLottery it)) told = TextOutcome (About pool_format (λ pool. IsRight (SharedLotteryMeans it.limits pool))) told
AnswersAlone (Some (asks.Legs it)) told = Answers pool_format (LegsMeans it.limits) told
AnswersAlone (Some (asks.Make it)) told = SilentOutcome (IsTheAnswer (MakeMeans it.seed it.volunteers it.limits)) told
AnswersAlone other told = ⊥

-- a call that uses no store leaves the keeper alone
pub record LeavesStore (Right : Told → Type 0) (told : StoreTold) : Type 0 where
  pub keeper : IsLeftAlone told.keeper
  pub call : Right told.call

-- the outcomes that a call may have if its words ask for nothing, or for a command that opens no desk
abbrev pub AnswersRightly : Option Asked → StoreTold → Type 0
-- all commands of the office: the answer is the outcome of the command over the store's tables. At most one answer is right
-- (`steps_answer_once` of `command_stores`)
AnswersRightly (Some (asks.Step store step)) told = SilentStoreOutcome store (StepMeans (step_command step)) told
-- all imports, and `keep`, which solves an open round by a given proof. The answer is about the file that the source held. At most one
-- answer is right (`imports_answer_once`)
AnswersRightly (Some (asks.Import store import)) told = TextStoreOutcome store (ImportMeans import) told
-- a proof of the pool of an open round, which the round keeps, or else the outcome of a solve
AnswersRightly (Some (asks.ProveRound store proving)) told = SilentStoreOutcome store (ProvesRound proving.round) told
-- all texts that are made of the store's tables
AnswersRightly (Some (asks.StoreText store text)) told = SilentStoreOutcome store (StoreTextMeans text) told
AnswersRightly other told = LeavesStore (AnswersAlone other) told

-- a call that opens no desk leaves the door alone
pub record LeavesDoor (Right : StoreTold → Type 0) (told : DeskTold) : Type 0 where
  pub door : IsUnopened told
  pub call : Right told.store

-- the outcomes that a call may have if its words ask for this command, or for nothing
abbrev pub EndsRightly : Option Asked → DeskTold → Type 0
-- each link that the door gave was attended by the desk over the store's tables
EndsRightly (Some (asks.Serve store serve)) told = SilentServeOutcome store serve.port serve.connections told
EndsRightly other told = LeavesDoor (AnswersRightly other) told

-- status 12: memory was wanting while the words were read, so the source is untouched
pub record WantsMemory (told : Told) : Type 0 where
  pub source : IsUntouched told.source
  pub stopped : IsStopped 12 want_of_memory_line told

-- the outcomes that a call with these words may have
pub data OfficeIsRight (words : List (List ℕ)) (told : DeskTold) : Type 0 where
  Asks : EndsRightly (asked words) told → OfficeIsRight words told
  NoMemory : LeavesDoor (LeavesStore WantsMemory) told → OfficeIsRight words told

-- the line that errs gets if a word isn't UTF-8. `office` isn't called then, since its words are strings
abbrev pub words_not_utf8_line : List ℕ
words_not_utf8_line = line (codes "error: invalid UTF-8 was detected in one or more arguments" ∷ [])
