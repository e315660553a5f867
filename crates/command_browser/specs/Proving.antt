-- What `tell_prove` answers: what `prove` answers about a pool without its run of `lottery`, which starts threads; or the line that it would
-- need that run. The contract of `tell_prove` cites it.
use Rattle.std.specs.Prelude.{◌≡◌, ℕ, List, [], ◌∷◌, codes}
use Rattle.define_pools.specs.Pool.{Pool}
use Rattle.command_shell.specs.Answers.{Saying, Stops}
use Rattle.command_shell.specs.Lines.{line}
use Rattle.command_shell.specs.declared.formats.PoolOrBundle.TheVariants as either
use Rattle.command_shell.specs.declared.status.Cause.TheVariants.{Spent}
use Rattle.command_meanings.specs.Prove.{ProvesWithin}

-- the line that the engine makes no proof
abbrev pub no_proof_line : List ℕ
no_proof_line = line (codes "spent" ∷ codes "engine" ∷ [])

pub data ProvesAlone (nodes : ℕ) (pool : Pool) (answer : Saying) : Type 0 where
  -- the answer is right by the meaning of `prove`, if trees have `nodes` nodes
  Proves : ProvesWithin nodes (either.Pool pool) answer → ProvesAlone nodes pool answer
  -- the engine finds no lottery, or finds one that isn't settled
  MakesNone : answer ≡ Stops Spent no_proof_line → ProvesAlone nodes pool answer
