use Rattle.std.proofs.Common.{◌≡◌, true}
use Rattle.std.specs.List.{Contains}
use Rattle.std.proofs.lemmas.List.Elements.{All-contains, All-contains_itself, filter_passes, recursion_from_All}
use Rattle.define_pools.specs.Lists.{choices}
use Rattle.define_pools.specs.Pool.{everybody, is_quota_panel, panels}
use Rattle.define_pools.proofs.AllPanels.{each_panel}
use Rattle.define_pools.proofs.all_are_listed.Goals as goal

pub returns : goal.returns
returns c pool panel = (
  λ listed. All-contains (λ p. is_quota_panel pool p ≡ true) (panels pool) panel
      (filter_passes (is_quota_panel pool) (choices pool.size (everybody pool))) listed,
  λ fits. each_panel (Contains (panels pool)) pool
      (recursion_from_All (Contains (panels pool)) (panels pool) (All-contains_itself (panels pool))) panel fits,
)
