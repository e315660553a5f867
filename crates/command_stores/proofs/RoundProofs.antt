-- What the code does for a round that is to be proved is what `ProvesRound` says.
use Rattle.std.proofs.Common.{◌≡◌, ℕ, true, Option, Some, None, is_none, Result, Ok, Err, refl}
use Rattle.define_proofs.specs.ProofVerdict.{OfLottery, OfNoPanel, Proof}
use Rattle.define_pools.specs.Pool.{Pool}
use Rattle.command_meanings.specs.Prove.{lottery_limits}
use Rattle.define_offices.specs.Commands.{Change, Keep, Solve}
use Rattle.define_offices.specs.Deciding.{proof_pool}
use Rattle.define_offices.specs.Pools.{pool_of}
use Rattle.define_offices.specs.Tables.{Drawn, Open, Round, Sealed, Solved, Tables, bundle_of, named_round}
use Rattle.office_core.specs.declared.keeper.KeeperStop.{KeeperStop}
use Rattle.office_core.specs.declared.keeper.KeeperStop.TheVariants.{Failed, OutOfMemory}
use Rattle.prove_run.specs.Made.{IsOfPool}
use Rattle.command_proofs.specs.Proved.{IsValidOf}
use Rattle.command_shell.specs.Answers.{Saying, saying}
use Rattle.command_stores.specs.StoreTold.{Keeper}
use Rattle.command_shell.specs.declared.answer.Answer.{Answer}
use Rattle.command_meanings.specs.ProvedRounds.{AsSolve, IsOpenWith, Keeps, ProvesRound}
use Rattle.command_stores.specs.OpenRounds.{IsIfAny, TellsOpen, is_open}
use Rattle.command_meanings.specs.Steps.{StepMeans}
use Rattle.command_stores.specs.StoreOutcomes.{SettlesLoaded}

-- ---- which rounds are open

-- A round is open exactly if it has no bundle.
pub without_bundle : (kept : Round) → is_none (bundle_of kept) ≡ is_open (Some kept)
without_bundle Open = refl
without_bundle (Solved bundle) = refl
without_bundle (Sealed bundle tickets) = refl
without_bundle (Drawn bundle tickets digits dropped) = refl

module _ (tables : Tables) (round : ℕ) where
  open_or_not : (found : Option Round) → is_open found ≡ true → found ≡ Some Open
  open_or_not None h = absurd (cc)
  open_or_not (Some Open) h = refl
  open_or_not (Some (Solved bundle)) h = absurd (cc)
  open_or_not (Some (Sealed bundle tickets)) h = absurd (cc)
  open_or_not (Some (Drawn bundle tickets digits dropped)) h = absurd (cc)

  -- The pool of an open round, if it has one.
  pub opened : is_open (named_round tables.rounds round) ≡ true → (pool : Option Pool) → IsIfAny (pool_of tables round) pool → TellsOpen tables round pool
  opened h (Some pool) is = record { open_now = open_or_not (named_round tables.rounds round) h; is = is }
  opened h None is = tt

-- ---- answers that are right for a round that is to be proved

module _ (round : ℕ) (tables : Tables) where
  abbrev Means : Saying → Option Change → Type 0
  Means = ProvesRound round tables

  -- If a call settles by the meaning `Own`, and `Means` follows from `Own`, the call settles by `Means`.
  weaker : (Own : Saying → Option Change → Type 0) (kept : Keeper) (settled : Result Answer KeeperStop) → ((answer : Saying) (change : Option Change) → Own answer change → Means answer change) →
      SettlesLoaded Own kept settled → SettlesLoaded Means kept settled
  weaker Own kept (Ok answer) follows is = record { change = is.change; means = follows (saying answer) is.change is.means; stored = is.stored; no_fault = is.no_fault }
  weaker Own kept (Err Failed) follows (faulted, left, (answer, change, means, call)) = (faulted, left, (answer, change, follows answer (Some change) means, call))
  weaker Own kept (Err OutOfMemory) follows is = is

  its_pool : (pool : Pool) (proof : Proof) → IsOfPool pool proof → proof_pool proof ≡ pool
  its_pool pool (OfLottery own its trees) is = is
  its_pool pool (OfNoPanel own lines) is = is

  -- If a call settles by keeping a valid proof of the pool of an open round, it settles by `Means`.
  pub keeps_proof : (pool : Pool) (proof : Proof) (kept : Keeper) (settled : Result Answer KeeperStop) → IsOpenWith tables round pool → IsValidOf pool proof →
      SettlesLoaded (StepMeans (Keep round proof) tables) kept settled → SettlesLoaded Means kept settled
  keeps_proof pool proof kept settled is valid =
      weaker (StepMeans (Keep round proof) tables) kept settled (λ answer change means. Keeps pool proof is (its_pool pool proof valid.of_pool) valid.valid means)

  -- Else the answer of a solve is right.
  pub as_solve : (kept : Keeper) (settled : Result Answer KeeperStop) → SettlesLoaded (StepMeans (Solve round lottery_limits) tables) kept settled → SettlesLoaded Means kept settled
  as_solve kept settled = weaker (StepMeans (Solve round lottery_limits) tables) kept settled (λ answer change means. AsSolve means)
