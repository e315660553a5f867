use Rattle.laws_of_offices.proofs.Kept.{bundles_have_pools, bundles_stay}
use Rattle.laws_of_offices.proofs.bounds.bundles_stay.Goals as goal

pub returns : goal.returns
returns c = record { stay = bundles_stay; pools = bundles_have_pools }
