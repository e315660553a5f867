-- A pool has at most 5001 constraints before its first stage. Each counts volunteers, and has a lower bound that is at most the upper one,
-- which is at most 1,000.
use Rattle.std.proofs.Common.{◌≡◌, ℕ, ◌≤◌, ◌<◌, zero, suc, Bool, true, false, cond, eqb, leb, List, [], ◌∷◌, ◌++◌, map, length, get_or, pos, ◌≤ℤ◌, sym, ap, arith, subst}
use Rattle.std.specs.Prelude.{slice_index}
use Rattle.std.specs.List.{All, AllByRecursion, enumerate_from, flat_map}
use Rattle.std.proofs.lemmas.Bool.{and_parts, leb-true}
use Rattle.std.proofs.lemmas.Int.{ints}
use Rattle.std.proofs.lemmas.List.{append-nil, length-append, length-map}
use Rattle.std.proofs.lemmas.List.Concat.{length-flat_map}
use Rattle.std.proofs.lemmas.List.Elements.{All-from_recursion, recursion_from_All}
use Rattle.std.proofs.lemmas.List.FromFn.{get_or-enumerate_from, length-enumerate_from, length-range_with_len}
use Rattle.std.proofs.lemmas.List.Sums.{count_by-le-length, length-filter, sum_by-le}
use Rattle.define_pools.proofs.Each.{each_append, each_everywhere, each_from_list_all, each_map, each_mapped, each_of_map, each_flat_map}
use Rattle.define_proofs.specs.Constraints.{Constraint, category_constraints, coefficient, constraints, counting, first_members, household_constraint, size_constraint, value_constraint}
use Rattle.define_pools.specs.Pool.{BoundedValue, Category, IsPool, Pool, everybody, is_category, is_value, volunteer}
use Rattle.define_searches.specs.Classes.{shared_household}
use Rattle.define_searches.specs.Compositions.{is_of_household}
use Rattle.prove_program.specs.declared.demands.Demand.{Demand}
use Rattle.prove_program.specs.Demands.{AreDemands, HasBounds, constraint_of}
use Rattle.prove_program.specs.Programs.{quota_constraints}
use Rattle.define_searches.proofs.Limits.{category_parts, value_parts}

-- the lower bound is at most the upper one, which is at most 1,000, and each coefficient is 0 or 1
pub record Counts (constraint : Constraint) : Type 0 where
  pub in_order : constraint.lower ≤ℤ constraint.upper
  pub small : constraint.upper ≤ℤ pos 1000
  pub not_negative : (i : ℕ) → pos 0 ≤ℤ coefficient constraint i
  pub at_most_one : (i : ℕ) → coefficient constraint i ≤ℤ pos 1

one_or_none : (passes : ℕ → Bool) (xs : List ℕ) (i : ℕ) → (pos 0 ≤ℤ get_or (map (λ i. cond (passes i) (pos 1) (pos 0)) xs) i (pos 0)) × (get_or (map (λ i. cond (passes i) (pos 1) (pos 0)) xs) i (pos 0) ≤ℤ pos 1)
one_or_none passes [] i = (omega (arith, ints), omega (arith, ints))
one_or_none passes (x ∷ xs) zero =
    elim (passes x) as (λ b. (pos 0 ≤ℤ cond b (pos 1) (pos 0)) × (cond b (pos 1) (pos 0) ≤ℤ pos 1)) [ true ↦ (omega (arith, ints), omega (arith, ints)) | false ↦ (omega (arith, ints), omega (arith, ints)) ]
one_or_none passes (x ∷ xs) (suc i) = one_or_none passes xs i

counting_is : (pool : Pool) (passes : ℕ → Bool) (lower upper : ℕ) → lower ≤ upper → upper ≤ 1000 → Counts (counting pool passes lower upper)
counting_is pool passes lower upper order small = record {
  in_order = omega (arith, ints);
  small = omega (arith, ints);
  not_negative = λ i. (one_or_none passes (everybody pool) i).0;
  at_most_one = λ i. (one_or_none passes (everybody pool) i).1;
}

-- ---- numbered lists

pub numbered : {X : Type 0} (P : X → Type 0) (xs : List X) → AllByRecursion P xs → All (λ pair. P pair.1) (enumerate_from 0 xs)
numbered P xs h k d l =
    let many = length-enumerate_from 0 xs in let inside : k < length xs = omega (arith, many) in
    subst (λ pair. P pair.1) (sym (get_or-enumerate_from 0 xs k d inside)) (All-from_recursion P xs h k d.1 inside)

-- ---- categories

module _ (pool : Pool) (is : IsPool pool) where
  abbrev categories : List (ℕ × Category)
  categories = enumerate_from 0 pool.categories

  known : All (λ category. is_category category.1 ≡ true) categories
  known = numbered (λ category. is_category category ≡ true) pool.categories (each_from_list_all is_category pool.categories is.categories)

  -- ---- how many constraints there are

  pub few_constraints : length (constraints pool []) ≤ 5001
  few_constraints =
      let values = flat_map (category_constraints pool) categories in let households = map (household_constraint pool) (first_members pool) in
      let value_count = length-flat_map (category_constraints pool) categories in
      let each : All (λ category. length (category_constraints pool category) ≤ 50) categories = λ k d l.
      let category : ℕ × Category = get_or categories k d in
      let few = (category_parts category.1 (known k d l)).0 in
      let many = length-map (enumerate_from 0 category.1.values) (value_constraint pool category.0) in
      let same = length-enumerate_from 0 category.1.values in omega (arith, few, many, same) in
      let few_values = sum_by-le (λ category. length (category_constraints pool category)) 50 categories each in
      let few_categories = leb-true (length pool.categories) 20 is.few_categories in
      let category_count = length-enumerate_from 0 pool.categories in
      let household_count = length-map (first_members pool) (household_constraint pool) in
      let few_first = length-filter (λ i. is_of_household i (shared_household pool.volunteers i)) (everybody pool) in
      let few_of_all = count_by-le-length (λ i. is_of_household i (shared_household pool.volunteers i)) (everybody pool) in
      let everybody_count = length-range_with_len 0 (length pool.volunteers) in
      let few_volunteers = leb-true (length pool.volunteers) 4000 is.few_volunteers in
      let joined = length-append (values ++ []) households in let ended = length-append values [] in
      omega (arith, value_count, few_values, few_categories, category_count, household_count, few_first, few_of_all, everybody_count, few_volunteers, joined, ended)

  -- ---- each constraint counts volunteers

  value_counts : (category_place : ℕ) (value : ℕ × BoundedValue) → is_value value.1 ≡ true → Counts (value_constraint pool category_place value)
  value_counts category_place value h =
      let bounds = value_parts value.1 h in
      counting_is pool (λ i. eqb (slice_index (volunteer pool.volunteers i).values category_place) value.0) value.1.lower value.1.upper bounds.0 (let few = bounds.1 in omega (arith, few))

  category_counts : (category : ℕ × Category) → is_category category.1 ≡ true → AllByRecursion Counts (category_constraints pool category)
  category_counts category h =
      let values = enumerate_from 0 category.1.values in
      let each = recursion_from_All (λ value. is_value value.1 ≡ true) values (numbered (λ value. is_value value ≡ true) category.1.values (each_from_list_all is_value category.1.values (category_parts category.1 h).1)) in
      each_mapped Counts (value_constraint pool category.0) values
      (each_map (λ value. is_value value.1 ≡ true) (λ value. Counts (value_constraint pool category.0 value)) (value_counts category.0) values each)

  size_counts : Counts (size_constraint pool)
  size_counts =
      let size = and_parts (leb 1 pool.size) (leb pool.size 1000) is.size in let few = leb-true pool.size 1000 size.1 in
      counting_is pool (λ i. true) pool.size pool.size (omega arith) (omega (arith, few))

  household_counts : (number : ℕ) → Counts (household_constraint pool number)
  household_counts number = counting_is pool (λ i. is_of_household number (shared_household pool.volunteers i)) 0 1 (omega arith) (omega arith)

  pub each_counts : AllByRecursion Counts (constraints pool [])
  each_counts =
      let values = flat_map (category_constraints pool) categories in let households = map (household_constraint pool) (first_members pool) in
      let each = recursion_from_All (λ category. is_category category.1 ≡ true) categories known in
      let values_count = each_flat_map Counts (category_constraints pool) categories
      (each_map (λ category. is_category category.1 ≡ true) (λ category. AllByRecursion Counts (category_constraints pool category)) category_counts categories each) in
      let households_count = each_mapped Counts (household_constraint pool) (first_members pool) (each_everywhere (λ i. Counts (household_constraint pool i)) household_counts (first_members pool)) in
      (size_counts, each_append Counts (values ++ []) households (each_append Counts values [] values_count tt) households_count)

  -- ---- demands

  -- before the first stage, the constraints of households come right after those of the quotas
  pub joined : quota_constraints pool ++ map (household_constraint pool) (first_members pool) ≡ constraints pool []
  joined =
      let values = flat_map (category_constraints pool) categories in
      ap (λ values. size_constraint pool ∷ (values ++ map (household_constraint pool) (first_members pool))) (sym (append-nil values))

  pub demands_are : (demands : List Demand) → map (constraint_of pool) demands ≡ constraints pool [] → AreDemands demands
  demands_are demands e =
      let each = each_of_map Counts (constraint_of pool) demands (subst (AllByRecursion Counts) (sym e) each_counts) in
      record {
        few = let count = ap length e in let same = length-map demands (constraint_of pool) in let few = few_constraints in omega (arith, count, same, few);
        each = All-from_recursion HasBounds demands (each_map (λ demand. Counts (constraint_of pool demand)) HasBounds (λ demand h. (omega (arith, ints, h.in_order), omega (arith, ints, h.small))) demands each);
      }
