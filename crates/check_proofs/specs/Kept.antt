-- The constraints that the check keeps, from stage to stage.
use Rattle.std.specs.Prelude.{◌≡◌, ℕ, ◌+◌, if◌then◌else◌, List, ◌∷◌, map, length, Option, pos}
use Rattle.std.specs.List.{enumerate_from, flat_map}
use Rattle.define_pools.specs.Certificate.{Stage}
use Rattle.define_pools.specs.Pool.{Pool}
use Rattle.define_searches.specs.Compositions.{is_of_household}
use Rattle.define_proofs.specs.Constraints.{Constraint, category_constraints, constraints, size_constraint}

-- the constraints that come before those of stages: one for the size, and one for each value
abbrev pub fixed_constraints : Pool → List Constraint
fixed_constraints pool = size_constraint pool ∷ flat_map (category_constraints pool) (enumerate_from 0 pool.categories)

-- `rows` are the constraints of the stage that follows `earlier`, and `next` is the place after the constraints of the stages of `earlier`
pub record AreConstraintsOf (pool : Pool) (earlier : List Stage) (rows : List Constraint) (next : ℕ) : Type 0 where
  pub all : rows ≡ constraints pool earlier
  pub behind : next ≡ length (fixed_constraints pool) + length earlier

-- the constraint of a household, given the number of each volunteer's shared household
abbrev pub household_row : List (Option ℕ) → ℕ → Constraint
household_row households number = record {
  coefficients = map (λ household. if is_of_household number household then pos 1 else pos 0) households;
  lower = pos 0;
  upper = pos 1;
}
