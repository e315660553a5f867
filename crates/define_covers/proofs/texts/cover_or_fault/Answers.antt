use Rattle.std.proofs.Common.{ap, refl}
use Rattle.std.specs.Prelude.{◌≡◌, ◌≢◌, Ok, Err, MatchResult}
use Rattle.define_covers.specs.Covers.{Cover}
use Rattle.define_covers.specs.CoverText.{IsCover, cover_spelling}
use Rattle.define_covers.specs.CoverReading.{read_cover}
use Rattle.define_covers.proofs.ReadAgain.{spelled_is_read}
use Rattle.define_covers.proofs.Spelled.{read_is_spelled}
use Rattle.define_covers.proofs.texts.cover_or_fault.Goals as goal

pub returns : goal.returns
returns c bytes =
    (elim (read_cover bytes) as (λ r. read_cover bytes ≡ r → MatchResult r (λ cover. IsCover cover × (bytes ≡ cover_spelling cover)) (λ fault. (cover : Cover) → IsCover cover → bytes ≢ cover_spelling cover)) [
      | Ok cover ↦ λ e. read_is_spelled bytes cover e
      | Err fault ↦ λ e cover is same. let again = spelled_is_read cover is in let both = ap read_cover same in cc
    ]) refl
