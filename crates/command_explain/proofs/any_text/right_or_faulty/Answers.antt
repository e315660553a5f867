use Rattle.std.proofs.Common.{◌≡◌}
use Rattle.define_bundles.specs.BundleReading.{read_bundle}
use Rattle.define_bundles.specs.BundleText.{IsBundle, bundle_spelling}
use Rattle.define_bundles.specs.PoolReading.{read}
use Rattle.define_bundles.specs.PoolText.{spelling}
use Rattle.define_covers.specs.CoverReading.{read_cover}
use Rattle.define_covers.specs.CoverText.{IsCover, cover_spelling}
use Rattle.define_pools.specs.Pool.{IsPool}
use Rattle.define_proofs.specs.ProofReading.{read_proof}
use Rattle.define_proofs.specs.ProofText.{IsProof, proof_spelling}
use Rattle.command_shell.specs.BundlesOrProofs.{begins_as_proof}
use Rattle.command_shell.specs.Formats.{begins_as_bundle}
use Rattle.command_explain.specs.AnyTexts.{begins_as_cover}
use Rattle.command_explain.proofs.Looking.{decided, decided_by_word}
use Rattle.command_explain.proofs.any_text.right_or_faulty.Goals as goal

pub returns : goal.returns
returns c = λ bytes. decided_by_word (begins_as_bundle bytes) _ _ _ _
    (decided (read_bundle bytes) IsBundle (λ bundle. bytes ≡ bundle_spelling bundle) (c.bundle_or_fault.ensures bytes))
    (decided_by_word (begins_as_proof bytes) _ _ _ _
    (decided (read_proof bytes) IsProof (λ proof. bytes ≡ proof_spelling proof) (c.proof_or_fault.ensures bytes))
    (decided_by_word (begins_as_cover bytes) _ _ _ _
    (decided (read_cover bytes) IsCover (λ cover. bytes ≡ cover_spelling cover) (c.cover_or_fault.ensures bytes))
    (decided (read bytes) IsPool (λ pool. bytes ≡ spelling pool) (c.pool_or_fault.ensures bytes))))
