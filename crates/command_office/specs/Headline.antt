-- The headline: what `office` promises, on one page; `main` calls it and has no contract. `office` ensures `Headline` of every call (command_office, src/top_call.rt). Its premises, and how
-- to read the signs, are in docs/PROMISES.md. The law `headline` (src/promises.rt) derives it from the exact contract, `OfficeIsRight`; `OfSeveralCalls`, at the end, is a law there too.
-- `Headline` and `Keeps`, below, say what is promised; what stands before them are the words that they use.
--
-- One step behind this page: pools, quota panels, lotteries and certificates, and what leximin greatest says part by part (define_pools); when a proof or a cover is valid
-- (define_proofs, define_covers); the stated run, also with `--share` (define_runs); what the words ask for (`asked`); how an answer is told (`Outcomes`); each command's
-- meaning, status by status (`TextMeans`, `ProvesWithin`, `LotteryMeans`, `SharedLotteryMeans`, `LegsMeans`, `MakeMeans`; over a store `StepMeans`, `ImportMeans`, `ProvesRound`).
-- `told` is what the call did: its status, and its source, out, errs and keeper before and after it. Lotteries have whole weights, and are compared with such alone. What a clause says of
-- bytes or tables it says of an object that tells them, as one in memory does: of a terminal, a file, a pipe or a store on disk it is true of some bytes and tables, and no contract can
-- say that they are the real ones. Not promised: that a call doesn't end with 12; how long it takes; that `prove` finds a lottery or a proof within its limits, or how it spends them.
use Rattle.std.specs.Prelude.{◌≡◌, ◌≢◌, ◌↔◌, ◌⊎◌, ◌≤◌, ℕ, IsTrue, IsFalse, List, [], Option, Some, None, Ok, option_and_then, option_map, ⊤}
use Rattle.define_proofs.specs.ProofVerdict.{OfLottery, Proof, verdict}
use Rattle.define_proofs.specs.TreeLines.{TreeLine}
use Rattle.define_bundles.specs.BundleText.{Bundle, IsBundle, bundle_spelling, bundle_text}
use Rattle.define_checks.specs.Reasons.{Valid}
use Rattle.define_covers.specs.CoverText.{IsCover, cover_spelling}
use Rattle.define_covers.specs.Covers.{Cover}
use Rattle.define_covers.specs.CoverVerdict.{verdict as cover_verdict}
use Rattle.define_draws.specs.Draw.{Drawn, draw}
use Rattle.define_draws.specs.Seal.{is_seal}
use Rattle.define_pools.specs.Leximin.{IsLeximin}
use Rattle.define_made_pools.specs.MadePools.{made_pool}
use Rattle.define_made_pools.specs.Summary.{summary_text}
use Rattle.define_offices.specs.Commands.{SolvedWith}
use Rattle.define_offices.specs.Pools.{drawn_lottery}
use Rattle.define_offices.specs.Steps.{apply}
use Rattle.define_offices.specs.Tables.{Round, Tables, bundle_of, named_round, tickets_of}
use Rattle.define_pools.specs.Certificate.{Answer, Certifies}
use Rattle.define_pools.specs.Lottery.{Lottery}
use Rattle.define_pools.specs.Pool.{Pool, panels}
use Rattle.define_proofs.specs.ProofText.{IsProof, proof_spelling}
use Rattle.define_rows.specs.Table.{Table}
use Rattle.define_runs.specs.Run.{Ending, RunEnds, RunFinds}
use Rattle.define_draws.specs.Short.{shortened}
use Rattle.office_core.specs.Acting.{IsLoaded}
use Rattle.command_shell.specs.declared.status.Printed.{Printed}
use Rattle.command_shell.specs.Answers.{IsRight, IsTheAnswer, Prints, Saying}
use Rattle.command_shell.specs.Formats.{pool_format, pool_or_bundle_format}
use Rattle.command_shell.specs.Lines.{keeper_fault_line, want_of_memory_line}
use Rattle.command_shell.specs.Outcomes.{IsAboutSource, IsCutOff, IsInput, IsReadFault, IsStopped, IsTold, IsTooLong}
use Rattle.command_shell.specs.Subjects.{About}
use Rattle.command_shell.specs.Told.{Gains, HasFaulted}
use Rattle.command_bundles.specs.declared.check_cover.CheckCover.{CheckCover}
use Rattle.command_meanings.specs.Legs.{LegsMeans}
use Rattle.command_meanings.specs.Lottery.{LotteryMeans}
use Rattle.command_meanings.specs.Make.{MakeMeans, sizes_of}
use Rattle.command_meanings.specs.Panel.{visits_of}
use Rattle.command_meanings.specs.Prove.{ProvesWithin}
use Rattle.define_draws.specs.Lines.{bundle_seal}
use Rattle.command_meanings.specs.Sharing.{MayFind, SharedLotteryMeans}
use Rattle.command_proofs.specs.declared.verify.Verify.{Verify}
use Rattle.command_texts.specs.TextMeans.{OneAnswer, TextMeans}
use Rattle.command_texts.specs.declared.commands.TextCommand.TheVariants as texts
use Rattle.command_meanings.specs.Imports.{ImportMeans}
use Rattle.command_meanings.specs.ProvedRounds.{ProvesRound}
use Rattle.command_meanings.specs.Steps.{StepMeans, TextMeans as StoreTextMeans}
use Rattle.command_stores.specs.StoreOutcomes.{IsAnswered}
use Rattle.command_stores.specs.StoreTold.{IsLeftAlone, KeepsTables, StoreTold}
use Rattle.command_meanings.specs.declared.office.Import.TheVariants as imports
use Rattle.command_desk.specs.DeskTold.{DeskTold, IsUnopened}
use Rattle.command_desk.specs.ServeOutcomes.{SilentServeOutcome}
use Rattle.command_office.specs.Asked.{asked}
use Rattle.command_office.specs.Office.{IsUsage}
use Rattle.command_office.specs.Steps.{step_command}
use Rattle.command_office.specs.declared.asked.Asked.{Asked}
use Rattle.command_office.specs.declared.asked.Asked.TheVariants as asks
use Rattle.command_office.specs.declared.steps.Step.TheVariants as steps
use Rattle.command_office.specs.About.{HeldBundle, HeldPool, IsItsPool, IsRoundPool, ToldPool, ToldText, nodes_of, searches_of, uses_store}
use Rattle.command_office.specs.Again.{RepeatsChangeNothing}
use Rattle.command_office.specs.Isolation.{TellsNothingOfOthers}
use Rattle.command_office.specs.Records.{CallsAreRecorded}
use Rattle.command_office.specs.Workers.{WorkersChangeNothing}

-- ---- an answer's text or line is what the command's meaning says at the answer's status

-- the answer is right by the meaning of the command that the words ask for: about all that the source held, about the tables that were loaded from the store, about both (an import), or
-- about the made pool. `OneAnswer` and `IsTheAnswer` add that no other answer is right. Over a store, the change that comes with the answer is kept (`IsAnswered`)
abbrev pub IsRightAnswer : Option Asked → StoreTold → Saying → Type 0
IsRightAnswer (Some (asks.Text it)) told answer = IsAboutSource (TextMeans it) told.call.source answer
IsRightAnswer (Some (asks.Prove it)) told answer = IsAboutSource (About pool_or_bundle_format (ProvesWithin it.nodes)) told.call.source answer
IsRightAnswer (Some (asks.Lottery it)) told answer = IsAboutSource (OneAnswer pool_format (LotteryMeans it.limits)) told.call.source answer
IsRightAnswer (Some (asks.SharedLottery it)) told answer = IsAboutSource (About pool_format (λ pool. IsRight (SharedLotteryMeans it.limits pool))) told.call.source answer
IsRightAnswer (Some (asks.Legs it)) told answer = IsAboutSource (OneAnswer pool_format (LegsMeans it.limits)) told.call.source answer
IsRightAnswer (Some (asks.Make it)) told answer = IsTheAnswer (MakeMeans it.seed it.volunteers it.limits) answer
IsRightAnswer (Some (asks.Step store it)) told answer = IsAnswered store (StepMeans (step_command it)) told.keeper answer
IsRightAnswer (Some (asks.StoreText store it)) told answer = IsAnswered store (StoreTextMeans it) told.keeper answer
IsRightAnswer (Some (asks.ProveRound store it)) told answer = IsAnswered store (ProvesRound it.round) told.keeper answer
IsRightAnswer (Some (asks.Import store it)) told answer = (bytes : List ℕ) × IsInput told.call.source bytes × IsAnswered store (ImportMeans it bytes) told.keeper answer
IsRightAnswer other told answer = ⊥

-- how a call ends, by its status; there is no other. 0 done, 1 no quota panel, 3 faulty input, 4 a number too great, 5 a budget spent, 6 refused by a rule, 11 a proof or certificate refused
-- (by `prove` also a certificate that holds, if no proof can have its numbers)
pub data Ends (it : Option Asked) (told : StoreTold) : Type 0 where
  -- 0, 1, 3 to 6 and 11: a right answer was told. Its text is what out gained; or its line is what errs gained, of which a part may be missing if errs counted a fault
  Answered : (answer : Saying) → IsRightAnswer it told answer → IsTold answer told.call → Ends it told
  -- 8: out counted a fault while the text of a right answer was printed. The change that comes with this answer is kept
  CutOff : (printed : Printed) (text : List ℕ) → IsRightAnswer it told (Prints printed text) → IsCutOff text told.call → Ends it told
  -- 2: the words ask for no command: they have none of the program's forms, a value is out of its range, options don't go together, or they ask for help
  Usage : it ≡ None → IsUsage told.call → Ends it told
  -- 3: the source held more bytes than an input may have, 16,777,216
  TooLong : IsTooLong told.call → Ends it told
  -- 7: the source counted a fault
  ReadFault : IsReadFault told.call → Ends it told
  -- 9: the keeper of the store counted a fault
  KeeperFault : HasFaulted told.keeper.object → IsStopped 9 keeper_fault_line told.call → Ends it told
  -- 12: the line says that memory was wanting. No cause is promised: any call may end so
  WantOfMemory : IsStopped 12 want_of_memory_line told.call → Ends it told

-- ---- a lottery that is answered

-- a lottery was found that is leximin greatest over the quota panels of a pool, and `Told` says which pool it is and what became of the lottery
pub record Finds (Told : Pool → Answer → Type 0) : Type 0 where
  pub pool : Pool
  pub answer : Answer
  pub leximin : IsLeximin pool answer.lottery
  pub told : Told pool answer

-- a round that was open got the bundle of such a lottery over its pool. Or it had a bundle, and the tables stay: then this call says nothing of that lottery, and a given proof isn't judged.
-- If the tables are the record of an office, that lottery is leximin greatest too (`CallsAreRecorded`)
pub data SolvesRound (round : ℕ) (told : StoreTold) (ByRun : Pool → Answer → Type 0) : Type 0 where
  GotBundle : Finds (λ pool answer. IsRoundPool round told pool × ByRun pool answer ×
      (told.keeper.object.after ≡ option_map (λ tables. apply tables (SolvedWith round (record { pool = pool; answer = answer }))) told.keeper.object.before)) → SolvesRound round told ByRun
  HadBundle : (tables : Tables) (bundle : Bundle) → IsLoaded told.keeper.object.before tables → option_and_then bundle_of (named_round tables.rounds round) ≡ Some bundle →
      KeepsTables told.keeper → SolvesRound round told ByRun

-- what status 0 means for `lottery`, also with `--share`, for `prove`, also over a store, and for `make`, `solve` and `keep`. Of any other command nothing is said here
abbrev pub AnswersLottery : Option Asked → StoreTold → Type 0
AnswersLottery (Some (asks.Lottery it)) told = Finds (λ pool answer. HeldPool told.call.source pool × RunFinds pool it.limits answer × Gains told.call.out (bundle_text pool answer))
AnswersLottery (Some (asks.SharedLottery it)) told = Finds (λ pool answer. HeldPool told.call.source pool × MayFind it.limits pool answer × Gains told.call.out (bundle_text pool answer))
AnswersLottery (Some (asks.Prove it)) told = Finds (λ pool answer. (HeldPool told.call.source pool ⊎ HeldBundle told.call.source (record { pool = pool; answer = answer })) ×
    ((trees : List (List TreeLine)) × (verdict (OfLottery pool answer trees) ≡ Valid) × Gains told.call.out (proof_spelling (OfLottery pool answer trees))))
AnswersLottery (Some (asks.Make it)) told = Finds (λ pool answer. (pool ≡ made_pool it.seed it.volunteers) ×
    ((last : Table) × RunEnds pool it.limits (Ending.Found last answer) × Gains told.call.out (summary_text pool answer (sizes_of last))))
AnswersLottery (Some (asks.Step store (steps.Solve round limits workers))) told = SolvesRound round told (λ pool answer. RunFinds pool limits answer)
AnswersLottery (Some (asks.Import store (imports.Proof round))) told = SolvesRound round told (λ pool answer. ⊤)
AnswersLottery (Some (asks.ProveRound store it)) told = SolvesRound it.round told (λ pool answer. ⊤)
AnswersLottery other told = ⊤

-- `seal`, its capitals made small, is the seal of the bundle's text, and `drawn` is what the digits of dice draw from this lottery
pub record IsSealedDraw (seal digits : List ℕ) (bundle : Bundle) (lottery : Lottery) : Type 0 where
  pub sealed : IsTrue (is_seal (bundle_seal bundle) seal)
  pub drawn : Drawn
  pub draws : draw lottery (bundle_seal bundle) seal digits ≡ Ok drawn

-- the digits draw from this round of the tables that were loaded: from its sealed lottery, or from that lottery in the number of tickets that was kept with the seal
abbrev pub DrawsRound : ℕ → List ℕ → List ℕ → StoreTold → Type 0
DrawsRound round seal digits told = (tables : Tables) × (kept : Round) × (bundle : Bundle) × IsLoaded told.keeper.object.before tables ×
    (named_round tables.rounds round ≡ Some kept) × (bundle_of kept ≡ Some bundle) × IsSealedDraw seal digits bundle (drawn_lottery bundle (tickets_of kept))

-- what status 0 means for a draw: from the bundle that the source held, from its lottery in a given number of tickets, or from a round of a store, also with `--try`, which keeps nothing.
-- For `page --drawn` see `DrawnPageMeans`
abbrev pub DrawsSealed : Option Asked → StoreTold → Type 0
DrawsSealed (Some (asks.Text (texts.Draw seal digits))) told = (bundle : Bundle) × HeldBundle told.call.source bundle × IsSealedDraw seal digits bundle bundle.answer.lottery
DrawsSealed (Some (asks.Text (texts.ShortDraw tickets seal digits))) told =
    (bundle : Bundle) × HeldBundle told.call.source bundle × IsSealedDraw seal digits bundle (shortened bundle.answer.lottery tickets)
DrawsSealed (Some (asks.Step store (steps.Draw round seal digits))) told = DrawsRound round seal digits told
DrawsSealed (Some (asks.Step store (steps.Try round seal digits))) told = DrawsRound round seal digits told × KeepsTables told.keeper
DrawsSealed other told = ⊤

-- ---- the promises of a call whose words ask for `it`, other than `serve`, or for nothing

pub record Keeps (it : Option Asked) (told : StoreTold) : Type 0 where
  pub ends : Ends it told
  -- status 0 of `lottery`, `prove`, `make`, `solve` and `keep`: the lottery is leximin greatest, unless the round had one already. `bundle`, `short`, `show`, `page` and draws say less
  pub lottery : told.call.status ≡ 0 → AnswersLottery it told
  -- status 1 comes only if the pool that the call is about has no quota panel
  pub no_panel : told.call.status ≡ 1 → (pool : Pool) × IsItsPool it told pool × (panels pool ≡ [])
  -- 8, 9, 12 aside, about a told pool: `panel`, `lottery` (with `--share` too), `legs`, `make` and `solve` have status 1 exactly if it has no quota panel and the opening search is in budget
  pub exactly : (nodes : ℕ) (pool : Pool) → nodes_of it ≡ Some nodes → ToldPool it told pool → told.call.status ≢ 8 → told.call.status ≢ 9 → told.call.status ≢ 12 →
      (told.call.status ≡ 1 ↔ ((panels pool ≡ []) × (visits_of pool ≤ nodes)))
  -- 5, 8 and 12 aside: if the text of a bundle was told, `check` and `cover` have status 0 exactly if the certificate holds. Then the lottery is leximin greatest (`CheckMeans`, `CoverMeans`)
  pub certificate : (nodes : ℕ) → searches_of it ≡ Some nodes → (bundle : Bundle) → IsBundle bundle → ToldText told.call.source (bundle_spelling bundle) →
      told.call.status ≢ 5 → told.call.status ≢ 8 → told.call.status ≢ 12 → (told.call.status ≡ 0 ↔ Certifies bundle.pool bundle.answer.lottery bundle.answer.stages)
  -- 8 and 12 aside: if the text of a proof was told, `verify` has status 0 exactly if the proof is valid. Then its lottery is leximin greatest, or its pool has no quota panel (`VerifyMeans`)
  pub proof : (verify : Verify) → it ≡ Some (asks.Text (texts.Verify verify)) → (proof : Proof) → IsProof proof → ToldText told.call.source (proof_spelling proof) →
      told.call.status ≢ 8 → told.call.status ≢ 12 → (told.call.status ≡ 0 ↔ verdict proof ≡ Valid)
  -- 8 and 12 aside: if the text of a cover was told, `check-cover` has status 0 exactly if the cover is valid, and then its lottery is leximin greatest
  pub cover : (check : CheckCover) → it ≡ Some (asks.Text (texts.CheckCover check)) → (cover : Cover) → IsCover cover → ToldText told.call.source (cover_spelling cover) →
      told.call.status ≢ 8 → told.call.status ≢ 12 → (told.call.status ≡ 0 ↔ cover_verdict cover ≡ Valid) × (told.call.status ≡ 0 → IsLeximin cover.bundle.pool cover.bundle.answer.lottery)
  -- a draw is of the bundle whose seal was given. The panel that is printed is the drawn one (`Ends`). A draw doesn't ask whether the lottery is leximin greatest
  pub draw : told.call.status ≡ 0 → DrawsSealed it told
  -- unless the status is 0 or 8, the tables of the store are as before; a command without a store leaves the keeper alone at every status
  pub stays : told.call.status ≢ 0 → told.call.status ≢ 8 → KeepsTables told.keeper
  pub alone : IsFalse (uses_store it) → IsLeftAlone told.keeper

-- `serve` ends as `SilentServeOutcome` says, status by status: each link that the door gave is attended by the desk over the tables of the store.
-- Any other call leaves the door alone
abbrev pub Promises : Option Asked → DeskTold → Type 0
Promises (Some (asks.Serve store serve)) told = SilentServeOutcome store serve.port serve.connections told
Promises other told = IsUnopened told × Keeps other told.store

abbrev pub Headline : List (List ℕ) → DeskTold → Type 0
Headline words told = Promises (asked words) told

-- ---- what is promised of several calls

pub record OfSeveralCalls : Type 0 where
  -- over the same told input, faults and 12 aside, the number of workers changes no byte of an answer of `lottery`, `legs`, `make` or `solve`, and no table. `lottery --share` tells the same
  -- as `lottery`, whatever the workers of both are, unless a pricing of `lottery` spends its budget
  pub workers : WorkersChangeNothing
  -- broken links, 503 and 507 aside: the desk's reply to a key depends on the key's own row and dropouts, the last round's phase, and what is published; it changes no row but this one.
  -- What is published is much: a sealed bundle has the id and the values of every volunteer of its pool
  pub isolation : TellsNothingOfOthers
  -- a command that made a change, given again, changes nothing, as long as nothing took this change back: a charter, rules or bounds at once, any other at any later time. What takes a
  -- change back is refused if it is given again at once. A command that changed nothing has the same outcome at once
  pub repeats : RepeatsChangeNothing
  -- if a keeper tells its tables, began with `first_tables`, and only these calls changed them: they are the fold of the calls' commands, and each lottery in them is leximin greatest
  pub records : CallsAreRecorded
