use Rattle.std.proofs.Common.{◌≡◌, ◌-◌, ◌++◌, [], ◌∷◌, suc, length, set, get_or, ap, ◌∙◌, arith}
use Rattle.std.proofs.lemmas.Result.{on_ok_weaker}
use Rattle.define_pools.specs.Pool.{Category}
use Rattle.define_pools.specs.Building.{with_value}
use Rattle.pool_model.proofs.LastCategory.{with_value_at}
use Rattle.pool_model.proofs.pools.add_to_last.Goals as goal

pub returns-clause-ok : goal.returns-clause-ok
returns-clause-ok c =
    let categories = c.args.categories.now.items in let value = c.args.value in
    let n = c.len-last.result - 1 in let last = c.index_mut-category.result.now in
    let whole : length categories ≡ suc n = omega (arith, c.args.categories.now.ok) in
    let there : last ≡ get_or categories n last = c.index_mut-category.ensures.value in
    let stored = ap (λ (x : Category). set categories n (record { name = x.name; values = x.values ++ value ∷ [] })) there ∙ with_value_at n categories value last whole in
    on_ok_weaker {P = c.add.new.self ≡ record { name = last.name; values = last.values ++ value ∷ [] }} {Q = set categories n c.add.new.self ≡ with_value categories value} c.add.result (λ e. ap (set categories n) e ∙ stored) c.add.ensures.ok
