use Rattle.std.proofs.Common.{ap, refl}
use Rattle.std.specs.Prelude.{◌≡◌, ◌≢◌, Ok, Err, MatchResult}
use Rattle.define_bundles.specs.BundleText.{Bundle, IsBundle, bundle_spelling}
use Rattle.define_bundles.specs.BundleReading.{read_bundle}
use Rattle.define_bundles.proofs.ReadAgain.{spelled_is_read}
use Rattle.define_bundles.proofs.Spelled.{read_is_spelled}
use Rattle.define_bundles.proofs.bundle_or_fault.Goals as goal

pub returns : goal.returns
returns c bytes =
    (elim (read_bundle bytes) as (λ r. read_bundle bytes ≡ r → MatchResult r (λ bundle. IsBundle bundle × (bytes ≡ bundle_spelling bundle)) (λ fault. (bundle : Bundle) → IsBundle bundle → bytes ≢ bundle_spelling bundle)) [
      | Ok bundle ↦ λ e. read_is_spelled bytes bundle e
      | Err fault ↦ λ e bundle is same. let again = spelled_is_read bundle is in let both = ap read_bundle same in cc
    ]) refl
