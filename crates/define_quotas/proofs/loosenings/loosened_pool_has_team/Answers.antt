use Rattle.define_quotas.proofs.MovedBounds.{loosened_differs, loosened_fits, loosened_is_pool, loosened_moves}
use Rattle.define_quotas.proofs.loosenings.loosened_pool_has_team.Goals as goal

pub returns : goal.returns
returns c = record { bounds = loosened_differs; moved = loosened_moves; panel = loosened_fits; limits = loosened_is_pool }
