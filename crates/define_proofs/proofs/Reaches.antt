-- If a pool keeps its limits and the earlier stages are within reach, the constraints of a stage are within reach.
use Rattle.std.proofs.Common.{◌≡◌, ℕ, suc, ◌+◌, ◌≤◌, ◌<◌, Bool, true, false, cond, ◌&&◌, eqb, leb, List, [], ◌∷◌, ◌++◌, map, reverse, length, sum_by, pos, refl, arith, lit<}
use Rattle.std.specs.Prelude.{slice_index, unsigned_abs}
use Rattle.std.specs.List.{AllByRecursion, enumerate_from, flat_map, list_all}
use Rattle.std.proofs.lemmas.Bool.{and_from, and_parts, le-leb, leb-true}
use Rattle.std.proofs.lemmas.List.FromFn.{length-range_with_len}
use Rattle.define_pools.proofs.Each.{each_append, each_everywhere, each_from_list_all, each_map, each_mapped, list_all_from_each, each_flat_map}
use Rattle.define_pools.proofs.Sums.{sum_by-is-total, total}
use Rattle.define_bundles.specs.Ranges.{reach}
use Rattle.define_pools.specs.Certificate.{Stage}
use Rattle.define_pools.specs.Lists.{all_different}
use Rattle.define_pools.specs.declared.Limits.TheVariants.{Large}
use Rattle.define_pools.specs.Pool.{BoundedValue, Category, IsPool, Pool, Volunteer, most_members, most_volunteers, are_bounds, everybody, is_category, is_name, is_value, volunteer}
use Rattle.define_searches.specs.Classes.{shared_household}
use Rattle.define_searches.specs.Compositions.{is_of_household}
use Rattle.define_proofs.specs.Constraints.{Constraint, category_constraints, constraints, counting, first_members, household_constraint, stage_constraint, value_constraint}
use Rattle.define_proofs.specs.LeafSums.{is_in_reach, is_stage_in_reach}
use Rattle.define_proofs.specs.Leaves.{no_panel}
use Rattle.define_proofs.specs.TreeRanges.{number_limit}
use Rattle.define_proofs.proofs.MetConstraints.{each_reversed}

thousands_small : 4000 < number_limit
thousands_small = lit< tt

-- if the sum of the absolute coefficients and both bounds keep the limit, the constraint is within reach
in_reach : (constraint : Constraint) → sum_by unsigned_abs constraint.coefficients ≤ number_limit → unsigned_abs constraint.lower ≤ number_limit → unsigned_abs constraint.upper ≤ number_limit → is_in_reach constraint ≡ true
in_reach constraint sum lower upper =
    let A = leb (sum_by unsigned_abs constraint.coefficients) number_limit in
    let B = leb (unsigned_abs constraint.lower) number_limit in let C = leb (unsigned_abs constraint.upper) number_limit in
    and_from (A && B) C (and_from A B (le-leb (sum_by unsigned_abs constraint.coefficients) number_limit sum) (le-leb (unsigned_abs constraint.lower) number_limit lower)) (le-leb (unsigned_abs constraint.upper) number_limit upper)

ones_few : (passes : ℕ → Bool) (xs : List ℕ) → total unsigned_abs (map (λ i. cond (passes i) (pos 1) (pos 0)) xs) ≤ length xs
ones_few passes [] = omega arith
ones_few passes (x ∷ xs) =
    let rest = ones_few passes xs in
    elim (passes x) as (λ b. unsigned_abs (cond b (pos 1) (pos 0)) + total unsigned_abs (map (λ i. cond (passes i) (pos 1) (pos 0)) xs) ≤ suc (length xs)) [
      | true ↦ omega (arith, rest)
      | false ↦ omega (arith, rest)
    ]

each_numbered : {X : Type 0} (P : X → Type 0) (first : ℕ) (xs : List X) → AllByRecursion P xs → AllByRecursion (λ pair. P pair.1) (enumerate_from first xs)
each_numbered P first [] h = tt
each_numbered P first (x ∷ xs) h = (h.0, each_numbered P (first + 1) xs h.1)

module _ (pool : Pool) (is : IsPool pool) where
  counting_in_reach : (passes : ℕ → Bool) (lower upper : ℕ) → lower ≤ 1000 → upper ≤ 1000 → is_in_reach (counting pool passes lower upper) ≡ true
  counting_in_reach passes lower upper l m =
      let few = leb-true (length pool.volunteers) (most_volunteers Large) is.few_volunteers in
      let ones = ones_few passes (everybody pool) in
      let many = length-range_with_len 0 (length pool.volunteers) in
      let sum = sum_by-is-total unsigned_abs (counting pool passes lower upper).coefficients in
      let small = thousands_small in
      in_reach (counting pool passes lower upper) (omega (arith, few, ones, many, sum, small)) (omega (arith, l, small)) (omega (arith, m, small))

  value_in_reach : (category_place : ℕ) (value : ℕ × BoundedValue) → is_value value.1 ≡ true → is_in_reach (value_constraint pool category_place value) ≡ true
  value_in_reach category_place value h =
      let bounds = and_parts (is_name value.1.name) (are_bounds value.1.lower value.1.upper) h in
      let order = and_parts (leb value.1.lower value.1.upper) (leb value.1.upper 999) bounds.1 in
      let l = leb-true value.1.lower value.1.upper order.0 in let m = leb-true value.1.upper 999 order.1 in
      counting_in_reach (λ i. eqb (slice_index (volunteer pool.volunteers i).values category_place) value.0) value.1.lower value.1.upper (omega (arith, l, m)) (omega (arith, m))

  category_in_reach : (category : ℕ × Category) → is_category category.1 ≡ true → AllByRecursion (λ it. is_in_reach it ≡ true) (category_constraints pool category)
  category_in_reach category h =
      let values = category.1.values in
      let A = is_name category.1.name && leb (length values) 50 && all_different (map (λ (value : BoundedValue). value.name) values) in
      let are = and_parts A (list_all is_value values) h in
      let numbered = each_numbered (λ value. is_value value ≡ true) 0 values (each_from_list_all is_value values are.1) in
      each_mapped (λ it. is_in_reach it ≡ true) (value_constraint pool category.0) (enumerate_from 0 values)
      (each_map (λ value. is_value value.1 ≡ true) (λ value. is_in_reach (value_constraint pool category.0 value) ≡ true) (value_in_reach category.0) (enumerate_from 0 values) numbered)

  values_in_reach : AllByRecursion (λ it. is_in_reach it ≡ true) (flat_map (category_constraints pool) (enumerate_from 0 pool.categories))
  values_in_reach =
      let categories = enumerate_from 0 pool.categories in
      each_flat_map (λ it. is_in_reach it ≡ true) (category_constraints pool) categories
      (each_map (λ category. is_category category.1 ≡ true) (λ category. AllByRecursion (λ it. is_in_reach it ≡ true) (category_constraints pool category)) category_in_reach categories
      (each_numbered (λ category. is_category category ≡ true) 0 pool.categories (each_from_list_all is_category pool.categories is.categories)))

  households_in_reach : AllByRecursion (λ it. is_in_reach it ≡ true) (map (household_constraint pool) (first_members pool))
  households_in_reach =
      each_mapped (λ it. is_in_reach it ≡ true) (household_constraint pool) (first_members pool)
      (each_everywhere (λ number. is_in_reach (household_constraint pool number) ≡ true)
      (λ number. counting_in_reach (λ i. is_of_household number (shared_household pool.volunteers i)) 0 1 (omega arith) (omega arith)) (first_members pool))

  stage_in_reach : (stage : Stage) → is_stage_in_reach stage ≡ true → is_in_reach (stage_constraint stage) ≡ true
  stage_in_reach stage h =
      let within = leb-true (reach stage) number_limit h in
      in_reach (stage_constraint stage) (omega (arith, within)) (omega (arith, within)) (omega (arith, within))

  pub all_in_reach : (earlier : List Stage) → list_all is_stage_in_reach earlier ≡ true → list_all is_in_reach (constraints pool earlier) ≡ true
  all_in_reach earlier near =
      let P : Constraint → Type 0 = λ it. is_in_reach it ≡ true in
      let values = flat_map (category_constraints pool) (enumerate_from 0 pool.categories) in
      let stages = map stage_constraint (reverse earlier) in
      let households = map (household_constraint pool) (first_members pool) in
      let few = leb-true pool.size (most_members Large) (and_parts (leb 1 pool.size) (leb pool.size (most_members Large)) is.size).1 in
      let size = counting_in_reach (λ i. true) pool.size pool.size (omega (arith, few)) (omega (arith, few)) in
      let of_stages = each_mapped P stage_constraint (reverse earlier) (each_reversed (λ stage. is_in_reach (stage_constraint stage) ≡ true) earlier
      (each_map (λ stage. is_stage_in_reach stage ≡ true) (λ stage. is_in_reach (stage_constraint stage) ≡ true) stage_in_reach earlier (each_from_list_all is_stage_in_reach earlier near))) in
      list_all_from_each is_in_reach (constraints pool earlier)
      (size, each_append P (values ++ stages) households (each_append P values stages values_in_reach of_stages) households_in_reach)

-- a stage in which all weigh 0 is within reach
pub no_panel_in_reach : (pool : Pool) → is_stage_in_reach (no_panel pool) ≡ true
no_panel_in_reach pool =
    let none = nothing pool.volunteers in
    let small = thousands_small in
    let sum = sum_by-is-total unsigned_abs (no_panel pool).weights in
    le-leb (reach (no_panel pool)) number_limit (omega (arith, sum, none, small))
  where
    nothing : (volunteers : List Volunteer) → total unsigned_abs (map (λ volunteer. pos 0) volunteers) ≡ 0
    nothing [] = refl
    nothing (one ∷ volunteers) = let rest = nothing volunteers in omega (arith, rest)
