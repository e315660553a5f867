-- Leaves: multipliers of constraints, whose sum shows that no panel weighs more than a cap. Builds on Constraints. `check_proofs` checks
-- them.
use Rattle.std.specs.Prelude.{ℕ, nat_lt, if◌then◌else◌, Bool, ◌&&◌, List, [], map, length, ℤ, pos, negsuc, ◌+ℤ◌, ◌-ℤ◌, ◌*ℤ◌, int_lt}
use Rattle.std.specs.List.{enumerate_from, list_all}
use Rattle.define_pools.specs.declared.Standing.{Standing}
use Rattle.define_pools.specs.declared.Standing.TheVariants.{Open, Seated, Gone}
use Rattle.define_pools.specs.Certificate.{Stage, weight_of}
use Rattle.define_pools.specs.Pool.{Pool}
use Rattle.define_proofs.specs.Constraints.{Constraint, coefficient, constraint_at, constraints, signed_sum}

-- what is to be shown: no panel that meets the constraints weighs more in a stage than its cap
pub record Problem : Type 0 where
  pub constraints : List Constraint
  pub stage : Stage

-- the problem of `stage` after the stages `earlier`, of which the latest is first
abbrev pub stage_problem : Pool → List Stage → Stage → Problem
stage_problem pool earlier stage = record { constraints = constraints pool earlier; stage = stage }

-- a stage in which each panel weighs 0, and the cap is -1
abbrev pub no_panel : Pool → Stage
no_panel pool = record { weights = map (λ volunteer. pos 0) pool.volunteers; cap = negsuc 0 }

-- the problem whose cap holds only if the pool has no quota panel
abbrev pub no_panel_problem : Pool → Problem
no_panel_problem pool = stage_problem pool [] (no_panel pool)

-- the number of a constraint, and what it is multiplied by
pub record Multiplier : Type 0 where
  pub number : ℕ
  pub factor : ℤ

-- what the stage's weights are multiplied by, and multipliers of constraints
pub record Leaf : Type 0 where
  pub scale : ℕ
  pub multipliers : List Multiplier

-- each volunteer's standing in a pool
abbrev pub standings : Pool → List Standing
standings pool = map (λ volunteer. volunteer.standing) pool.volunteers

-- a multiplier's charge: the most that the factor times the coefficients' sum can be for a panel that meets the constraint
abbrev pub charge : List Constraint → Multiplier → ℤ
charge all multiplier =
    let constraint = constraint_at all multiplier.number in
    multiplier.factor *ℤ (if int_lt (pos 0) multiplier.factor then constraint.upper else constraint.lower)

-- a volunteer's coefficient in the multiplier's constraint, times the multiplier's factor
abbrev pub multiplied : List Constraint → ℕ → Multiplier → ℤ
multiplied all i multiplier = multiplier.factor *ℤ coefficient (constraint_at all multiplier.number) i

-- a volunteer's rest: the weight times the scale, less the multiplied coefficients
abbrev pub rest : Problem → Leaf → ℕ → ℤ
rest problem leaf i = pos leaf.scale *ℤ weight_of problem.stage i -ℤ signed_sum (multiplied problem.constraints i) leaf.multipliers

-- the charge of a rest: the most that a volunteer with this standing and `rest` adds to a panel's sum of rests
abbrev pub rest_charge : Standing → ℤ → ℤ
rest_charge Open rest = if int_lt (pos 0) rest then rest else pos 0
rest_charge Seated rest = rest
rest_charge Gone rest = pos 0

-- the sum of the charges of all multipliers and of all volunteers' rests. If a panel keeps `standings` and meets the constraints, its
-- weight times the scale is at most this sum
abbrev pub total_charge : Problem → List Standing → Leaf → ℤ
total_charge problem standings leaf =
    signed_sum (charge problem.constraints) leaf.multipliers
    +ℤ signed_sum (λ (i, standing). rest_charge standing (rest problem leaf i)) (enumerate_from 0 standings)

-- each multiplier's number is that of a constraint of the problem
abbrev pub has_constraints : Problem → Leaf → Bool
has_constraints problem leaf = list_all (λ multiplier. nat_lt multiplier.number (length problem.constraints)) leaf.multipliers

-- the total charge is less than the scale times (cap + 1). A panel above the cap weighs at least cap + 1
abbrev pub is_below : Problem → List Standing → Leaf → Bool
is_below problem standings leaf = int_lt (total_charge problem standings leaf) (pos leaf.scale *ℤ (problem.stage.cap +ℤ pos 1))

-- a leaf shows the cap for panels that keep `standings` and meet the constraints: each multiplier names a constraint, and `is_below` holds
abbrev pub leaf_shows : Problem → List Standing → Leaf → Bool
leaf_shows problem standings leaf = has_constraints problem leaf && is_below problem standings leaf
