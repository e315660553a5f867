-- What a run made of a pool, and how a bundle is settled. The contracts of `making`, `settling` and `proving` cite it.
use Rattle.std.specs.Prelude.{◌≡◌, Bool, true, false, Option, Some, None, ⊤}
use Rattle.define_bundles.specs.BundleText.{Bundle}
use Rattle.define_proofs.specs.ProofVerdict.{OfLottery, OfNoPanel, Proof, verdict}
use Rattle.command_meanings.specs.Check.{PrintsRefusal, SpendsStage}
use Rattle.define_checks.specs.Reasons.{Valid}
use Rattle.command_shell.specs.declared.answer.Answer.{Answer}
use Rattle.command_shell.specs.declared.formats.PoolOrBundle.{PoolOrBundle}
use Rattle.command_shell.specs.declared.status.Printed.{Printed}
use Rattle.command_shell.specs.declared.status.Printed.TheVariants as printed
use Rattle.command_shell.specs.Answers.{IsRight, Prints, RightAnswers, Saying, no_answer, saying}
use Rattle.command_meanings.specs.Prove.{IsGiven, ProveMeans, check_visits, given_in, pool_in}
use Rattle.command_proofs.specs.declared.making.Made.{Made}
use Rattle.command_proofs.specs.declared.making.Made.TheVariants as made
use Rattle.define_pools.specs.Pool.{Pool}
use Rattle.define_proofs.specs.ProofText.{IsProof, proof_spelling}
use Rattle.prove_limits.specs.Budgets.{Left}
use Rattle.prove_run.specs.Made.{IsOfPool}
use Rattle.command_proofs.specs.declared.settling.Settled.{Settled}
use Rattle.command_proofs.specs.declared.settling.Settled.TheVariants as settles

-- how the command ends with a valid proof
abbrev pub ending : Proof → Printed
ending (OfLottery pool its trees) = printed.Done
ending (OfNoPanel pool lines) = printed.NoPanel

-- the answer with the text of a valid proof
abbrev pub proof_said : Proof → Saying
proof_said proof = Prints (ending proof) (proof_spelling proof)

-- a valid proof of the pool
pub record IsValidOf (pool : Pool) (proof : Proof) : Type 0 where
  pub of_pool : IsOfPool pool proof
  pub valid : verdict proof ≡ Valid

-- what a run makes of the pool: a valid proof, a lottery, or nothing
abbrev pub MakesOf : Pool → Made → Type 0
MakesOf pool (made.Valid proof) = IsValidOf pool proof
MakesOf pool (made.Lottery bundle) = bundle.pool ≡ pool
MakesOf pool made.Nothing = ⊤

-- the answer is right, if `count` is left of the nodes of trees
abbrev pub IsNowRight : Left → PoolOrBundle → Answer → Type 0
IsNowRight count about answer = IsRight (ProveMeans count about) (saying answer)

-- the bundle is over the pool of the input. If a bundle was given, it has its answer
pub record IsOver (about : PoolOrBundle) (bundle : Bundle) : Type 0 where
  pub pool : bundle.pool ≡ pool_in about
  pub is_given : IsGiven (given_in about) bundle.answer

-- the answer, if there is one, is the text of a valid proof
abbrev pub ShowsValid : Proof → Option Answer → Type 0
ShowsValid proof (Some answer) = (saying answer ≡ proof_said proof) × (verdict proof ≡ Valid) × IsProof proof
ShowsValid proof None = ⊤

-- the answer, if there is one, is right about each input that the bundle is over
abbrev pub IsToldOf : Bundle → Option Answer → Type 0
IsToldOf bundle (Some answer) = (count : Left) (about : PoolOrBundle) → IsOver about bundle → IsNowRight count about answer
IsToldOf bundle None = ⊤

-- the answer is right about each input that the bundle is over, if `count` is left of the nodes of trees
abbrev pub TellsCertified : Left → Bundle → Answer → Type 0
TellsCertified count bundle answer = (about : PoolOrBundle) → IsOver about bundle → IsNowRight count about answer

-- what a check answers that refuses the bundle's certificate, or whose search is spent
abbrev pub CheckStops : Bundle → RightAnswers
CheckStops bundle = record no_answer {
  -- status 5
  spent = SpendsStage check_visits bundle;
  -- status 11
  refused = PrintsRefusal check_visits bundle;
}

abbrev pub IsSettled : Left → Bundle → Settled → Type 0
IsSettled count bundle (settles.Told answer) = TellsCertified count bundle answer
IsSettled count bundle (settles.Checked answer) = IsRight (CheckStops bundle) (saying answer)

abbrev pub is_done : Saying → Bool
is_done (Prints printed.Done text) = true
is_done other = false
