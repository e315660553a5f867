use Rattle.std.proofs.Common.{Contains}
use Rattle.std.specs.List.{range_with_len}
use Rattle.std.proofs.lemmas.List.Elements.{All-contains_itself, recursion_from_All}
use Rattle.define_pools.specs.Pool.{panels}
use Rattle.define_pools.proofs.AllPanels.{each_panel}
use Rattle.define_made_pools.specs.MadePools.{made_pool, made_size}
use Rattle.define_made_pools.proofs.MadePools.{first_are_panel}
use Rattle.define_made_pools.proofs.made_pool_has_a_panel.Goals as goal

pub returns : goal.returns
returns c seed n some few =
    let pool = made_pool seed n in
    each_panel (Contains (panels pool)) pool (recursion_from_All (Contains (panels pool)) (panels pool) (All-contains_itself (panels pool)))
    (range_with_len 0 (made_size n)) (first_are_panel seed n some few)
