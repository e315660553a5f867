use Rattle.std.proofs.Common.{ℕ, List, Bor, rules}
use Rattle.std.proofs.lemmas.Iterator.{YieldsList-from_slice, YieldsList-from_map_by}
use Rattle.std.proofs.lemmas.Iterator.Consumers.{map_from_collect}
use Rattle.std.proofs.lemmas.List.{map-id}
use Rattle.pool_model.proofs.names.bytes_of.Goals as goal

pub returns : goal.returns
returns c =
    rw (map-id c.args.names.now) at (map_from_collect _ c.collect.ensures.ran (YieldsList-from_map_by _ (λ (n : Bor (List ℕ)). n.now) (λ (n : List ℕ). n) (YieldsList-from_slice c.args.names.now cc) c.map.ensures.closure (λ x r q k. search rules)))
