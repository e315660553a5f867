-- What `prove` over a store answers: a proof is made of the pool of an open round, and the office keeps it; or the round is solved. Builds on
-- Steps and on the limits of Prove. The contract of `office` cites it.
use Rattle.std.specs.Prelude.{◌≡◌, ℕ, Option, Some, Ok}
use Rattle.define_checks.specs.Reasons.{Valid}
use Rattle.define_offices.specs.Commands.{Change, Keep, Solve}
use Rattle.define_offices.specs.Deciding.{proof_pool}
use Rattle.define_offices.specs.Pools.{pool_of}
use Rattle.define_offices.specs.Tables.{Open, Tables, named_round}
use Rattle.define_pools.specs.Pool.{Pool}
use Rattle.define_proofs.specs.ProofVerdict.{Proof, verdict}
use Rattle.command_shell.specs.Answers.{Saying}
use Rattle.command_meanings.specs.Prove.{lottery_limits}
use Rattle.command_meanings.specs.Steps.{StepMeans}

-- the round is open, and has the pool `pool`
pub record IsOpenWith (tables : Tables) (round : ℕ) (pool : Pool) : Type 0 where
  pub open_now : named_round tables.rounds round ≡ Some Open
  pub is : pool_of tables round ≡ Ok pool

-- the answers that are right for a proof that is to be made for a round, with the change of the tables
pub data ProvesRound (round : ℕ) (tables : Tables) (answer : Saying) (change : Option Change) : Type 0 where
  -- the round was open, and a valid proof was made of its pool: the answer and the change are those of keeping it
  Keeps : (pool : Pool) (proof : Proof) → IsOpenWith tables round pool → proof_pool proof ≡ pool → verdict proof ≡ Valid →
      StepMeans (Keep round proof) tables answer change → ProvesRound round tables answer change
  -- the answer and the change are those of a solve, with the limits that it has without words. That no proof could be made isn't said
  AsSolve : StepMeans (Solve round lottery_limits) tables answer change → ProvesRound round tables answer change
