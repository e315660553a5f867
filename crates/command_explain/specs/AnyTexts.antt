-- Whether bytes are the text of a pool, a bundle, a proof or a cover, and if they aren't, their first fault. The word that they begin with
-- says how they are read: as a bundle, as a proof, as a cover, or else as a pool. Builds on the definitions of the texts.
use Rattle.std.specs.Prelude.{◌≡◌, ℕ, Bool, List, take, codes, bytes_eq, if◌then◌else◌, Option, Some, None, Result, Ok, Err}
use Rattle.std.specs.Bool.{MatchBool}
use Rattle.define_proofs.specs.ProofVerdict.{Proof}
use Rattle.define_bundles.specs.BundleReading.{read_bundle}
use Rattle.define_bundles.specs.BundleText.{Bundle, IsBundle, bundle_spelling}
use Rattle.define_covers.specs.CoverReading.{read_cover}
use Rattle.define_covers.specs.CoverText.{IsCover, cover_spelling}
use Rattle.define_covers.specs.Covers.{Cover}
use Rattle.define_lines.specs.Lines.{Fault}
use Rattle.define_bundles.specs.PoolReading.{read}
use Rattle.define_bundles.specs.PoolText.{spelling}
use Rattle.define_pools.specs.Pool.{IsPool, Pool}
use Rattle.define_proofs.specs.ProofReading.{read_proof}
use Rattle.define_proofs.specs.ProofText.{IsProof, proof_spelling}
use Rattle.command_shell.specs.BundlesOrProofs.{begins_as_proof}
use Rattle.command_shell.specs.Formats.{begins_as_bundle}
use Rattle.command_shell.specs.Subjects.{Format}
use Rattle.command_explain.specs.declared.any_text.AnyText.{AnyText}
use Rattle.command_explain.specs.declared.any_text.AnyText.TheVariants.{Right, Faulty}

abbrev pub begins_as_cover : List ℕ → Bool
begins_as_cover bytes = bytes_eq (codes "cover") (take 5 bytes)

-- the result of reading bytes in one format: `Right` if they are read as a value, else `Faulty` with their first fault
abbrev pub looked_as : {Value : Type 0} → Result Value Fault → AnyText
looked_as (Ok value) = Right
looked_as (Err fault) = Faulty (record { line = fault.line; kind = fault.kind })

-- the first fault of the bytes; None if they are a text
abbrev pub fault_in : AnyText → Option Fault
fault_in Right = None
fault_in (Faulty fault) = Some (record { line = fault.line; kind = fault.kind })

-- `Right` if the bytes are a text, else `Faulty` with their first fault. The word that they begin with chooses the format
abbrev pub looked_at : List ℕ → AnyText
looked_at bytes =
    if begins_as_bundle bytes then looked_as (read_bundle bytes)
    else (if begins_as_proof bytes then looked_as (read_proof bytes)
    else (if begins_as_cover bytes then looked_as (read_cover bytes) else looked_as (read bytes)))

abbrev pub IsSomePool : List ℕ → Type 0
IsSomePool bytes = (pool : Pool) × (IsPool pool × (bytes ≡ spelling pool))

abbrev pub IsSomeBundle : List ℕ → Type 0
IsSomeBundle bytes = (bundle : Bundle) × (IsBundle bundle × (bytes ≡ bundle_spelling bundle))

abbrev pub IsSomeProof : List ℕ → Type 0
IsSomeProof bytes = (proof : Proof) × (IsProof proof × (bytes ≡ proof_spelling proof))

abbrev pub IsSomeCover : List ℕ → Type 0
IsSomeCover bytes = (cover : Cover) × (IsCover cover × (bytes ≡ cover_spelling cover))

-- the bytes are a text: of a bundle if they begin with `bundle`, of a proof if they begin with `proof`, of a cover if they begin with
-- `cover`, else of a pool
abbrev pub IsText : List ℕ → Type 0
IsText bytes =
    MatchBool (begins_as_bundle bytes) (IsSomeBundle bytes)
    (MatchBool (begins_as_proof bytes) (IsSomeProof bytes) (MatchBool (begins_as_cover bytes) (IsSomeCover bytes) (IsSomePool bytes)))

-- `Right` says that `Text` holds, and `Faulty` that it doesn't
abbrev pub Decides : AnyText → Type 0 → Type 0
Decides Right Text = Text
Decides (Faulty fault) Text = ¬ Text

-- `Right` says that the bytes are a text, and `Faulty` that they are none
abbrev pub IsRightOrFaulty : List ℕ → AnyText → Type 0
IsRightOrFaulty bytes text = Decides text (IsText bytes)

-- the format of any bytes: reading them gives `Right` or `Faulty`, and never fails
abbrev pub any_format : Format AnyText
any_format = record { read = λ bytes. Ok (looked_at bytes); spells = λ text bytes. IsRightOrFaulty bytes text }
