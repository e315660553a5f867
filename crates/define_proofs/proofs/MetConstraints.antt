-- If the earlier caps hold, a quota panel that attains them meets the constraints of a stage.
use Rattle.std.proofs.Common.{◌≡◌, ℕ, zero, suc, ◌<◌, ◌≤◌, Bool, true, cond, not, ◌||◌, eqb, ltb, leb, List, [], ◌∷◌, ◌++◌, map, reverse, length, get_or, count_by, ℤ, pos, ◌≤ℤ◌, refl, sym, ◌∙◌, arith}
use Rattle.std.specs.Prelude.{int_le, slice_index}
use Rattle.std.specs.List.{AllByRecursion, enumerate_from, flat_map, list_all}
use Rattle.std.proofs.lemmas.Bool.{and_parts, ltb-true, leb-true}
use Rattle.std.proofs.lemmas.Int.{ints}
use Rattle.std.proofs.lemmas.List.FromFn.{get_or-map-range_with_len}
use mathlib.Core.List.{reverse_aux}
use borrow.Author.Differences.{le-true}
use Rattle.define_pools.proofs.Each.{each_append, each_everywhere, each_from_list_all, each_map, each_mapped, each_flat_map}
use Rattle.define_pools.proofs.Tests.{implied}
use Rattle.define_pools.specs.Certificate.{Stage, attains, is_capped, panel_weight, weight_of}
use Rattle.define_pools.specs.Pool.{BoundedValue, Category, Pool, is_quota_panel, is_within, members_with, panels, volunteer}
use Rattle.define_pools.proofs.AllPanels.{Quota, each_panel, quota_parts}
use Rattle.define_searches.specs.Classes.{shared_household}
use Rattle.define_searches.specs.Compositions.{is_of_household}
use Rattle.define_searches.proofs.Households.{one_of_number}
use Rattle.define_proofs.specs.CapsHold.{EarlierCapsHold}
use Rattle.define_proofs.specs.Constraints.{Constraint, coefficient, category_constraints, constraint_at, constraints, counting, first_members, household_constraint, size_constraint, stage_constraint, value_constraint}
use Rattle.define_proofs.proofs.SignedSums.{sum-is-total, total, total_eq, total-ones}

-- a panel meets a constraint: the sum of the members' coefficients is within the bounds
pub record Meets (panel : List ℕ) (constraint : Constraint) : Type 0 where
  pub least : constraint.lower ≤ℤ total (coefficient constraint) panel
  pub most : total (coefficient constraint) panel ≤ℤ constraint.upper

-- ---- reversed lists, constraints that count members, and the size

each_reversed_onto : {X : Type 0} (P : X → Type 0) (xs ys : List X) → AllByRecursion P xs → AllByRecursion P ys → AllByRecursion P (reverse_aux xs ys)
each_reversed_onto P [] ys h k = k
each_reversed_onto P (x ∷ xs) ys h k = each_reversed_onto P xs (x ∷ ys) h.1 (h.0, k)

pub each_reversed : {X : Type 0} (P : X → Type 0) (xs : List X) → AllByRecursion P xs → AllByRecursion P (reverse xs)
each_reversed P xs h = each_reversed_onto P xs [] h tt

module _ (pool : Pool) (panel : List ℕ) (quota : is_quota_panel pool panel ≡ true) where
  abbrev n : ℕ
  n = length pool.volunteers

  parts : Quota pool panel
  parts = quota_parts pool panel quota

  below : AllByRecursion (λ i. i < n) panel
  below = each_map (λ i. ltb i n ≡ true) (λ i. i < n) (λ i e. ltb-true i n e) panel (each_from_list_all (λ i. ltb i n) panel parts.below)

  -- in a constraint that counts, the members' coefficients sum to the number of members who pass
  counted : (passes : ℕ → Bool) (lower upper : ℕ) → total (coefficient (counting pool passes lower upper)) panel ≡ pos (count_by passes panel)
  counted passes lower upper =
      let one : ℕ → ℤ = λ i. cond (passes i) (pos 1) (pos 0) in
      total_eq (coefficient (counting pool passes lower upper)) one panel
      (each_map (λ i. i < n) (λ i. coefficient (counting pool passes lower upper) i ≡ one i)
      (λ i l. get_or-map-range_with_len one 0 n i i (pos 0) l (omega arith)) panel below)
      ∙ total-ones passes panel

  counting_met : (passes : ℕ → Bool) (lower upper : ℕ) → lower ≤ count_by passes panel → count_by passes panel ≤ upper → Meets panel (counting pool passes lower upper)
  counting_met passes lower upper l m =
      let same = counted passes lower upper in record { least = omega (arith, ints, same, l); most = omega (arith, ints, same, m) }

  everybody_counts : (xs : List ℕ) → pos (count_by (λ i. true) xs) ≡ pos (length xs)
  everybody_counts xs = sym (total-ones (λ i. true) xs) ∙ ones xs
    where
      ones : (xs : List ℕ) → total (λ i. pos 1) xs ≡ pos (length xs)
      ones [] = refl
      ones (x ∷ xs) = let rest = ones xs in omega (arith, ints, rest)

  size_met : Meets panel (size_constraint pool)
  size_met =
      let many = everybody_counts panel in let size = parts.size in
      let count : count_by (λ i. true) panel ≡ pool.size = omega (arith, ints, many, size) in
      counting_met (λ i. true) pool.size pool.size (omega (arith, count)) (omega (arith, count))

  -- ---- the constraints of values are met

  value_met : (category_place : ℕ) (value : ℕ × BoundedValue) → is_within value.1 (members_with pool.volunteers panel category_place value.0) ≡ true → Meets panel (value_constraint pool category_place value)
  value_met category_place value h =
      let many = members_with pool.volunteers panel category_place value.0 in
      let within = and_parts (leb value.1.lower many) (leb many value.1.upper) h in
      counting_met (λ i. eqb (slice_index (volunteer pool.volunteers i).values category_place) value.0) value.1.lower value.1.upper
      (leb-true value.1.lower many within.0) (leb-true many value.1.upper within.1)

  category_met : (category : ℕ × Category) →
      list_all (λ value. is_within value.1 (members_with pool.volunteers panel category.0 value.0)) (enumerate_from 0 category.1.values) ≡ true →
      AllByRecursion (Meets panel) (category_constraints pool category)
  category_met category h =
      let values = enumerate_from 0 category.1.values in
      each_mapped (Meets panel) (value_constraint pool category.0) values
      (each_map (λ value. is_within value.1 (members_with pool.volunteers panel category.0 value.0) ≡ true) (λ value. Meets panel (value_constraint pool category.0 value))
      (value_met category.0) values
      (each_from_list_all (λ value. is_within value.1 (members_with pool.volunteers panel category.0 value.0)) values h))

  values_met : AllByRecursion (Meets panel) (flat_map (category_constraints pool) (enumerate_from 0 pool.categories))
  values_met =
      let categories = enumerate_from 0 pool.categories in
      let meets : ℕ × Category → Bool = λ category. list_all (λ value. is_within value.1 (members_with pool.volunteers panel category.0 value.0)) (enumerate_from 0 category.1.values) in
      each_flat_map (Meets panel) (category_constraints pool) categories
      (each_map (λ category. meets category ≡ true) (λ category. AllByRecursion (Meets panel) (category_constraints pool category)) category_met categories
      (each_from_list_all meets categories parts.quotas))

  -- ---- the constraints of households are met

  household_met : (number : ℕ) → Meets panel (household_constraint pool number)
  household_met number =
      let few = one_of_number pool.volunteers panel number parts.households in
      counting_met (λ i. is_of_household number (shared_household pool.volunteers i)) 0 1 (omega arith) (omega (arith, few))

  households_met : AllByRecursion (Meets panel) (map (household_constraint pool) (first_members pool))
  households_met = each_mapped (Meets panel) (household_constraint pool) (first_members pool) (each_everywhere (λ i. Meets panel (household_constraint pool i)) household_met (first_members pool))

  -- ---- the constraints of earlier stages are met

  -- if a stage's cap holds, a panel that attains it and the caps before it has exactly the cap as its weight
  stage_met : (earlier : List Stage) (stage : Stage) → is_capped pool earlier stage ≡ true → attains earlier panel ≡ true → int_le stage.cap (panel_weight stage panel) ≡ true → Meets panel (stage_constraint stage)
  stage_met earlier stage capped attained reached =
      let within = each_panel (λ panel. (not (attains earlier panel) || int_le (panel_weight stage panel) stage.cap) ≡ true) pool
      (each_from_list_all (λ panel. not (attains earlier panel) || int_le (panel_weight stage panel) stage.cap) (panels pool) capped) panel quota in
      let least = le-true stage.cap (panel_weight stage panel) reached in
      let most = le-true (panel_weight stage panel) stage.cap (implied (attains earlier panel) (int_le (panel_weight stage panel) stage.cap) within attained) in
      let same = sum-is-total (weight_of stage) panel in
      record { least = omega (arith, ints, least, same); most = omega (arith, ints, most, same) }

  stages_met : (earlier : List Stage) → EarlierCapsHold pool earlier → attains earlier panel ≡ true → AllByRecursion (λ stage. Meets panel (stage_constraint stage)) earlier
  stages_met [] hold attained = tt
  stages_met (stage ∷ earlier) hold attained =
      let reached = and_parts (int_le stage.cap (panel_weight stage panel)) (attains earlier panel) attained in
      (stage_met earlier stage hold.0 reached.1 reached.0, stages_met earlier hold.1 reached.1)

  -- ---- all constraints of a stage are met

  pub all_met : (earlier : List Stage) → EarlierCapsHold pool earlier → attains earlier panel ≡ true → AllByRecursion (Meets panel) (constraints pool earlier)
  all_met earlier hold attained =
      let values = flat_map (category_constraints pool) (enumerate_from 0 pool.categories) in
      let stages = map stage_constraint (reverse earlier) in
      let households = map (household_constraint pool) (first_members pool) in (
        size_met,
        each_append (Meets panel) (values ++ stages) households
            (each_append (Meets panel) values stages values_met
            (each_mapped (Meets panel) stage_constraint (reverse earlier) (each_reversed (λ stage. Meets panel (stage_constraint stage)) earlier (stages_met earlier hold attained))))
            households_met,
      )

-- a panel that meets all constraints meets the constraint of each number, also past the last one
pub met_at : (panel : List ℕ) (all : List Constraint) → AllByRecursion (Meets panel) all → (number : ℕ) → Meets panel (constraint_at all number)
met_at panel [] each number = record { least = omega (arith, ints, none panel); most = omega (arith, ints, none panel) }
  where
    none : (xs : List ℕ) → total (λ i. get_or [] i (pos 0)) xs ≡ pos 0
    none [] = refl
    none (x ∷ xs) = let rest = none xs in omega (arith, ints, rest)
met_at panel (constraint ∷ all) each zero = each.0
met_at panel (constraint ∷ all) each (suc number) = met_at panel all each.1 number
