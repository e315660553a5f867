use Rattle.std.proofs.Common.{ap, refl}
use Rattle.std.specs.Prelude.{◌≡◌, ◌≢◌, Ok, Err, MatchResult}
use Rattle.define_pools.specs.Pool.{Pool, IsPool}
use Rattle.define_bundles.specs.PoolText.{spelling}
use Rattle.define_bundles.specs.PoolReading.{read}
use Rattle.define_bundles.proofs.PoolReadAgain.{spelled_is_read}
use Rattle.define_bundles.proofs.PoolSpelled.{read_is_spelled}
use Rattle.define_bundles.proofs.pool_or_fault.Goals as goal

pub returns : goal.returns
returns c bytes =
    (elim (read bytes) as (λ r. read bytes ≡ r → MatchResult r (λ pool. IsPool pool × (bytes ≡ spelling pool)) (λ fault. (pool : Pool) → IsPool pool → bytes ≢ spelling pool)) [
      | Ok pool ↦ λ e. read_is_spelled bytes pool e
      | Err fault ↦ λ e pool has same. let again = spelled_is_read pool has in let both = ap read same in cc
    ]) refl
