-- What one more category adds to the constraints of the size and of the values.
use Rattle.std.proofs.Common.{◌≡◌, ℕ, ◌+◌, ◌<◌, List, [], ◌∷◌, ◌++◌, take, length, get_or, sym, ap, ◌∙◌, arith}
use Rattle.std.specs.List.{enumerate_from, flat_map}
use Rattle.std.proofs.lemmas.List.{append-nil, take_more}
use Rattle.std.proofs.lemmas.List.Concat.{flat_map-append}
use Rattle.std.proofs.lemmas.List.FromFn.{length-enumerate_from}
use Rattle.define_proofs.specs.Constraints.{Constraint, category_constraints, size_constraint}
use Rattle.define_pools.specs.Pool.{Category, Pool}
use Rattle.prove_program.proofs.ListSteps.{numbered_at}

-- if the constraints of category `k` are appended to those of the size and of the first `k` categories, the list has those of the size
-- and of the first `k + 1` categories
pub category_added : (pool : Pool) (k : ℕ) (category : Category) (old new : List Constraint) → k < length pool.categories → category ≡ get_or pool.categories k category →
    old ≡ size_constraint pool ∷ flat_map (category_constraints pool) (take k (enumerate_from 0 pool.categories)) → new ≡ old ++ category_constraints pool (k, category) →
    new ≡ size_constraint pool ∷ flat_map (category_constraints pool) (take (k + 1) (enumerate_from 0 pool.categories))
category_added pool k category old new l e so_far added =
    let f : ℕ × Category → List Constraint = category_constraints pool in
    let count = length-enumerate_from 0 pool.categories in
    let here = numbered_at pool.categories k category l e in
    added ∙ ap (λ old. old ++ f (k, category)) so_far
    ∙ ap (λ values. size_constraint pool ∷ values)
    (sym (ap (flat_map f) (take_more (enumerate_from 0 pool.categories) k (k, category) (omega (arith, count)) ∙ ap (λ z. take k (enumerate_from 0 pool.categories) ++ z ∷ []) here) ∙ flat_map-append f (take k (enumerate_from 0 pool.categories)) ((k, category) ∷ [])
    ∙ ap (λ ys. flat_map f (take k (enumerate_from 0 pool.categories)) ++ ys) (append-nil (f (k, category)))))
