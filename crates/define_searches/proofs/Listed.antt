-- Properties of the elements of a list that joins one list for each count, from the greatest count down.
use Rattle.std.proofs.Common.{ℕ, zero, suc, ◌+◌, ◌≤◌, List, [], refl, arith, le_of_eq}
use Rattle.std.specs.List.{flat_map, AllByRecursion}
use Rattle.define_pools.proofs.Each.{each_append}
use Rattle.define_searches.specs.Compositions.{counts_down}

-- if P holds of each element of `F c` for each count `c`, it holds of each element of the joined lists
pub each_count : {X : Type 0} (P : X → Type 0) (F : ℕ → List X) (least more : ℕ) → ((c : ℕ) → least ≤ c → c ≤ least + more → AllByRecursion P (F c)) → AllByRecursion P (flat_map F (counts_down least more))
each_count P F least zero f = each_append P (F least) [] (f least (le_of_eq refl) (omega arith)) tt
each_count P F least (suc more) f =
    each_append P (F (least + suc more)) (flat_map F (counts_down least more)) (f (least + suc more) (omega arith) (le_of_eq refl)) (each_count P F least more (λ c l m. f c l (omega arith)))
