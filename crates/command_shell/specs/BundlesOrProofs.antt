-- A bundle or a proof as the input of a command. Builds on the formats of both texts.
use Rattle.std.specs.Prelude.{ℕ, Bool, List, take, codes, bytes_eq, if◌then◌else◌, Option, Some, None, Result, Ok, Err}
use Rattle.define_proofs.specs.ProofVerdict.{OfLottery, OfNoPanel, Proof}
use Rattle.define_bundles.specs.BundleReading.{read_bundle}
use Rattle.define_bundles.specs.BundleText.{Bundle}
use Rattle.define_lines.specs.Lines.{Fault}
use Rattle.define_proofs.specs.ProofReading.{read_proof}
use Rattle.command_shell.specs.Formats.{IsBundleText, IsProofText}
use Rattle.command_shell.specs.Subjects.{Format}
use Rattle.command_shell.specs.declared.bundle_or_proof.BundleOrProof.{BundleOrProof}
use Rattle.command_shell.specs.declared.bundle_or_proof.BundleOrProof.TheVariants as either

-- a text that begins with `proof` is read as a proof, and any other as a bundle
abbrev pub begins_as_proof : List ℕ → Bool
begins_as_proof bytes = bytes_eq (codes "proof") (take 5 bytes)

abbrev pub as_bundle : Result Bundle Fault → Result BundleOrProof Fault
as_bundle (Ok bundle) = Ok (either.Bundle bundle)
as_bundle (Err fault) = Err fault

abbrev pub as_proof : Result Proof Fault → Result BundleOrProof Fault
as_proof (Ok proof) = Ok (either.Proof proof)
as_proof (Err fault) = Err fault

abbrev pub read_either : List ℕ → Result BundleOrProof Fault
read_either bytes = if begins_as_proof bytes then as_proof (read_proof bytes) else as_bundle (read_bundle bytes)

abbrev pub IsTextOfEither : BundleOrProof → List ℕ → Type 0
IsTextOfEither (either.Bundle bundle) bytes = IsBundleText bundle bytes
IsTextOfEither (either.Proof proof) bytes = IsProofText proof bytes

abbrev pub bundle_or_proof_format : Format BundleOrProof
bundle_or_proof_format = record { read = read_either; spells = IsTextOfEither }

-- the bundle of a proof's lottery; a proof that there is no quota panel has none
abbrev pub bundle_of_proof : Proof → Option Bundle
bundle_of_proof (OfLottery pool answer trees) = Some (record { pool = pool; answer = answer })
bundle_of_proof (OfNoPanel pool lines) = None

abbrev pub bundle_in : BundleOrProof → Option Bundle
bundle_in (either.Bundle bundle) = Some bundle
bundle_in (either.Proof proof) = bundle_of_proof proof
