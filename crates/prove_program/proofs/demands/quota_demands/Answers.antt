use Rattle.std.proofs.Common.{◌∙◌, ◌∷◌, ◌++◌, List, ap, map, length, get_or, arith}
use Rattle.std.specs.List.{enumerate_from, flat_map}
use Rattle.std.proofs.lemmas.List.{take_all}
use Rattle.std.proofs.lemmas.List.FromFn.{length-enumerate_from}
use Rattle.define_proofs.specs.Constraints.{category_constraints, size_constraint, value_constraint}
use Rattle.define_pools.specs.Pool.{BoundedValue, Category}
use Rattle.prove_program.specs.Demands.{constraint_of}
use Rattle.prove_program.proofs.CategorySteps.{category_added}
use Rattle.prove_program.proofs.demands.quota_demands.Goals as goal

pub loop-place-preserved : goal.loop-place-preserved
loop-place-preserved c =
    let pool = c.args.pool.now in let k = c.loop-place.place in let category = c.category-item.result in
    let same = c.categories-category-items.ensures in
    let count = ap (λ (xs : List Category). length xs) same in
    let is = c.category-item.is ∙ ap (λ (xs : List Category). get_or xs k category) same in
    let added = c.in_ok-push_values.ensures
    ∙ ap (λ (values : List BoundedValue). map (constraint_of pool) c.loop-place.demands.items ++ map (value_constraint pool k) (enumerate_from 0 values)) c.values.ensures in
    category_added pool k category (map (constraint_of pool) c.loop-place.demands.items) (map (constraint_of pool) c.push_values.new.demands.items) (omega (arith, count)) is c.loop-place.invariant added

pub returns : goal.returns
returns c =
    let pool = c.args.pool.now in
    let many = length-enumerate_from 0 pool.categories in
    let count = ap (λ (xs : List Category). length xs) c.categories-category-items.ensures in
    c.loop-place.invariant ∙ ap (λ zs. size_constraint pool ∷ flat_map (category_constraints pool) zs) (take_all c.loop-place.place (enumerate_from 0 pool.categories) (omega (arith, many, count)))
