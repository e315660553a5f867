-- The constraints of a stage's problem: sums over a panel's members that are within bounds. The list of earlier stages has the latest
-- first. `check_proofs` and the engine of `prove` number constraints by their places in the list `constraints`.
use Rattle.std.specs.Prelude.{ℕ, ◌==◌, if◌then◌else◌, Bool, true, List, ◌∷◌, [], ◌++◌, map, filter, fold, reverse, slice_index, slice_index_or, ℤ, pos, ◌+ℤ◌}
use Rattle.std.specs.List.{enumerate_from, flat_map}
use Rattle.define_pools.specs.Certificate.{Stage}
use Rattle.define_pools.specs.Pool.{BoundedValue, Category, Pool, everybody, volunteer}
use Rattle.define_searches.specs.Classes.{shared_household}
use Rattle.define_searches.specs.Compositions.{is_of_household}

-- the sum of a function's values over a list
abbrev pub signed_sum : {X : Type 0} → (X → ℤ) → List X → ℤ
signed_sum f xs = fold (λ sum x. sum +ℤ f x) (pos 0) xs

-- a coefficient for each volunteer, and the least and the greatest sum of coefficients that a panel's members can have
pub record Constraint : Type 0 where
  pub coefficients : List ℤ
  pub lower : ℤ
  pub upper : ℤ

-- a volunteer's coefficient
abbrev pub coefficient : Constraint → ℕ → ℤ
coefficient constraint i = slice_index_or constraint.coefficients i (pos 0)

-- the constraint at the place `number`; if there is none, a constraint whose coefficients and bounds are 0
abbrev pub constraint_at : List Constraint → ℕ → Constraint
constraint_at constraints number = slice_index_or constraints number (record { coefficients = []; lower = pos 0; upper = pos 0 })

-- the constraint that the number of members who pass a test is within bounds: the coefficient is 1 for each volunteer who passes, else 0
abbrev pub counting : Pool → (ℕ → Bool) → ℕ → ℕ → Constraint
counting pool passes lower upper =
    record { coefficients = map (λ i. if passes i then pos 1 else pos 0) (everybody pool); lower = pos lower; upper = pos upper }

-- the constraint that a panel has the pool's size
abbrev pub size_constraint : Pool → Constraint
size_constraint pool = counting pool (λ i. true) pool.size pool.size

-- the constraint that the number of members with a value is within the value's bounds; the value's category is at `category_place`
abbrev pub value_constraint : Pool → ℕ → ℕ × BoundedValue → Constraint
value_constraint pool category_place (value_place, value) =
    counting pool (λ i. slice_index (volunteer pool.volunteers i).values category_place == value_place) value.lower value.upper

-- the constraints of a category's values
abbrev pub category_constraints : Pool → ℕ × Category → List Constraint
category_constraints pool (category_place, category) = map (value_constraint pool category_place) (enumerate_from 0 category.values)

-- the constraint that a panel's weight in an earlier stage equals the stage's cap. If that cap holds, a panel that attains it and the caps
-- before it weighs no more
abbrev pub stage_constraint : Stage → Constraint
stage_constraint stage = record { coefficients = stage.weights; lower = stage.cap; upper = stage.cap }

-- the constraint that at most one member is of household `number`
abbrev pub household_constraint : Pool → ℕ → Constraint
household_constraint pool number = counting pool (λ i. is_of_household number (shared_household pool.volunteers i)) 0 1

-- the first members of the shared households, in rising order. A household's number is that of its first member
abbrev pub first_members : Pool → List ℕ
first_members pool = filter (λ i. is_of_household i (shared_household pool.volunteers i)) (everybody pool)

-- the constraints of a stage after earlier ones, numbered from 0: the size, each value, category by category, each earlier stage from
-- the first to the latest, and each shared household in the order of its first member
abbrev pub constraints : Pool → List Stage → List Constraint
constraints pool earlier =
    size_constraint pool
    ∷ (flat_map (category_constraints pool) (enumerate_from 0 pool.categories)
    ++ map stage_constraint (reverse earlier)
    ++ map (household_constraint pool) (first_members pool))
