-- What `why` reads: a pool, or a proof over one. Builds on Formats and Subjects of `command_shell`, and on the definitions of the texts.
use Rattle.std.specs.Prelude.{ℕ, List, if◌then◌else◌, Result, Ok, Err}
use Rattle.define_proofs.specs.ProofVerdict.{OfLottery, OfNoPanel, Proof}
use Rattle.define_lines.specs.Lines.{Fault}
use Rattle.define_bundles.specs.PoolReading.{read}
use Rattle.define_pools.specs.Pool.{Pool}
use Rattle.define_proofs.specs.ProofReading.{read_proof}
use Rattle.command_shell.specs.BundlesOrProofs.{begins_as_proof}
use Rattle.command_shell.specs.Formats.{IsPoolText, IsProofText}
use Rattle.command_shell.specs.Subjects.{Format}
use Rattle.command_quotas.specs.declared.about.PoolOrProof.{PoolOrProof}
use Rattle.command_quotas.specs.declared.about.PoolOrProof.TheVariants as either

-- the pool of a proof
abbrev pub pool_of : Proof → Pool
pool_of (OfLottery pool answer trees) = pool
pool_of (OfNoPanel pool lines) = pool

abbrev pub pool_in : PoolOrProof → Pool
pool_in (either.Pool pool) = pool
pool_in (either.Proof proof) = pool_of proof

abbrev pub as_pool : Result Pool Fault → Result PoolOrProof Fault
as_pool (Ok pool) = Ok (either.Pool pool)
as_pool (Err fault) = Err fault

abbrev pub as_proof : Result Proof Fault → Result PoolOrProof Fault
as_proof (Ok proof) = Ok (either.Proof proof)
as_proof (Err fault) = Err fault

-- a text that begins with `proof` is read as a proof, and any other as a pool
abbrev pub read_either : List ℕ → Result PoolOrProof Fault
read_either bytes = if begins_as_proof bytes then as_proof (read_proof bytes) else as_pool (read bytes)

abbrev pub IsTextOfEither : PoolOrProof → List ℕ → Type 0
IsTextOfEither (either.Pool pool) bytes = IsPoolText pool bytes
IsTextOfEither (either.Proof proof) bytes = IsProofText proof bytes

abbrev pub pool_or_proof_format : Format PoolOrProof
pool_or_proof_format = record { read = read_either; spells = IsTextOfEither }
