-- What the inputs of commands are read as: a pool, a bundle, a proof, or either a pool or a bundle. Builds on Subjects and the definitions
-- of the texts. The contracts of commands that read their source cite it, up to `office`, and so do the headline and the page's calls.
use Rattle.std.specs.Prelude.{◌≡◌, ℕ, Bool, true, false, List, take, codes, bytes_eq, if◌then◌else◌, Result, Ok, Err}
use Rattle.define_bundles.specs.BundleReading.{read_bundle}
use Rattle.define_bundles.specs.BundleText.{Bundle, IsBundle, bundle_spelling}
use Rattle.define_proofs.specs.ProofVerdict.{Proof}
use Rattle.define_lines.specs.Lines.{Fault}
use Rattle.define_pools.specs.Pool.{IsPool, Pool}
use Rattle.define_proofs.specs.ProofReading.{read_proof}
use Rattle.define_proofs.specs.ProofText.{IsProof, proof_spelling}
use Rattle.define_bundles.specs.PoolReading.{read}
use Rattle.define_bundles.specs.PoolText.{spelling}
use Rattle.command_shell.specs.Subjects.{Format}
use Rattle.command_shell.specs.declared.formats.PoolOrBundle.{PoolOrBundle}
use Rattle.command_shell.specs.declared.formats.PoolOrBundle.TheVariants as either

-- the bytes are the text of this pool
pub record IsPoolText (pool : Pool) (bytes : List ℕ) : Type 0 where
  pub is_pool : IsPool pool
  pub spelled : bytes ≡ spelling pool

abbrev pub pool_format : Format Pool
pool_format = record { read = read; spells = IsPoolText }

-- the bytes are the text of this bundle
pub record IsBundleText (bundle : Bundle) (bytes : List ℕ) : Type 0 where
  pub is_bundle : IsBundle bundle
  pub spelled : bytes ≡ bundle_spelling bundle

abbrev pub bundle_format : Format Bundle
bundle_format = record { read = read_bundle; spells = IsBundleText }

-- the bytes are the text of this proof
pub record IsProofText (proof : Proof) (bytes : List ℕ) : Type 0 where
  pub is_proof : IsProof proof
  pub spelled : bytes ≡ proof_spelling proof

abbrev pub proof_format : Format Proof
proof_format = record { read = read_proof; spells = IsProofText }

-- a text that begins with `bundle` is read as a bundle, and any other as a pool
abbrev pub begins_as_bundle : List ℕ → Bool
begins_as_bundle bytes = bytes_eq (codes "bundle") (take 6 bytes)

abbrev pub as_pool : Result Pool Fault → Result PoolOrBundle Fault
as_pool (Ok pool) = Ok (either.Pool pool)
as_pool (Err fault) = Err fault

abbrev pub as_bundle : Result Bundle Fault → Result PoolOrBundle Fault
as_bundle (Ok bundle) = Ok (either.Bundle bundle)
as_bundle (Err fault) = Err fault

abbrev pub read_either : List ℕ → Result PoolOrBundle Fault
read_either bytes = if begins_as_bundle bytes then as_bundle (read_bundle bytes) else as_pool (read bytes)

abbrev pub IsTextOfEither : PoolOrBundle → List ℕ → Type 0
IsTextOfEither (either.Pool pool) bytes = IsPoolText pool bytes
IsTextOfEither (either.Bundle bundle) bytes = IsBundleText bundle bytes

abbrev pub pool_or_bundle_format : Format PoolOrBundle
pool_or_bundle_format = record { read = read_either; spells = IsTextOfEither }
