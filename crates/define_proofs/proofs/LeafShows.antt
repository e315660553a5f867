-- What a leaf shows of a panel that keeps the standings and meets the constraints.
use Rattle.std.proofs.Common.{◌≡◌, ℕ, zero, suc, ◌+◌, Bool, true, false, cond, ltb, List, [], ◌∷◌, length, ℤ, pos, negsuc, ◌+ℤ◌, ◌*ℤ◌, ◌≤ℤ◌, ◌<ℤ◌, refl, sym, subst, arith}
use Rattle.std.specs.Prelude.{int_lt}
use Rattle.std.specs.List.{AllByRecursion, enumerate_from, list_all, range_with_len}
use Rattle.std.proofs.lemmas.Bool.{and_parts}
use Rattle.std.proofs.lemmas.Int.{ints}
use borrow.Author.Differences.{lt-true, lt-false}
use Rattle.define_pools.proofs.Each.{each_everywhere}
use Rattle.define_pools.proofs.Integers.{le-scaled, lt-tested, neg-mul, tested-lt}
use Rattle.define_pools.specs.declared.Standing.{Standing}
use Rattle.define_pools.specs.declared.Standing.TheVariants.{Open, Seated, Gone}
use Rattle.define_pools.specs.Certificate.{weight_of}
use Rattle.define_pools.specs.Lists.{includes, is_increasing}
use Rattle.define_pools.specs.Pool.{allows}
use Rattle.define_proofs.specs.Constraints.{coefficient, constraint_at}
use Rattle.define_proofs.specs.Leaves.{Leaf, Multiplier, Problem, charge, has_constraints, is_below, leaf_shows, multiplied, rest, rest_charge, total_charge}
use Rattle.define_proofs.proofs.SignedSums.{exchanged, sum-is-total, total, total-add, total-panel, total-scaled, total_ext, total_le}
use Rattle.define_proofs.proofs.MetConstraints.{Meets, met_at}

-- a panel keeps `standings`: each seated volunteer is in it, and no one who is gone. The first standing is that of volunteer `first`
abbrev pub keeps : List ℕ → ℕ → List Standing → Bool
keeps panel first standings = list_all (λ (i, standing). allows standing (includes panel i)) (enumerate_from first standings)

-- if `sum` is from `lower` to `upper`, then `factor` times `sum` is at most the charge
charged : (factor lower upper sum : ℤ) → lower ≤ℤ sum → sum ≤ℤ upper → (factor *ℤ sum) ≤ℤ (factor *ℤ (cond (int_lt (pos 0) factor) upper lower))
charged (pos zero) lower upper sum l m = omega (arith, ints)
charged (pos (suc k)) lower upper sum l m =
    let above = tested-lt (pos 0) (pos (suc k)) (omega (arith, ints)) in
    subst (λ b. (pos (suc k) *ℤ sum) ≤ℤ (pos (suc k) *ℤ (cond b upper lower))) (sym above) (le-scaled sum upper (suc k) m)
charged (negsuc k) lower upper sum l m =
    let scaled = le-scaled lower sum (suc k) l in
    let one = neg-mul (pos (suc k)) sum in let other = neg-mul (pos (suc k)) lower in omega (arith, ints, scaled, one, other)

-- a member of a panel adds the rest `r` to the panel's sum of rests, and anyone else adds 0. If the volunteer's standing allows `is_in`,
-- what is added is at most the charge of the rest
added : (standing : Standing) (is_in : Bool) (r : ℤ) → allows standing is_in ≡ true → (cond is_in r (pos 0)) ≤ℤ (rest_charge standing r)
added Open true r h =
    (elim (int_lt (pos 0) r) as (λ b. int_lt (pos 0) r ≡ b → r ≤ℤ (cond b r (pos 0))) [
      | true ↦ λ e. omega (arith, ints)
      | false ↦ λ e. omega (arith, ints, lt-false (pos 0) r e)
    ]) refl
added Open false r h =
    (elim (int_lt (pos 0) r) as (λ b. int_lt (pos 0) r ≡ b → pos 0 ≤ℤ (cond b r (pos 0))) [
      | true ↦ λ e. omega (arith, ints, lt-true (pos 0) r e)
      | false ↦ λ e. omega (arith, ints)
    ]) refl
added Seated true r h = omega (arith, ints)
added Seated false r h = cc
added Gone true r h = cc
added Gone false r h = omega (arith, ints)

module _ (panel : List ℕ) (r : ℕ → ℤ) where
  -- if a panel keeps the standings, the sum of its members' rests is at most the sum of the charges of all rests
  all_added : (first : ℕ) (standings : List Standing) → keeps panel first standings ≡ true →
      total (λ i. cond (includes panel i) (r i) (pos 0)) (range_with_len first (length standings)) ≤ℤ total (λ (i, standing). rest_charge standing (r i)) (enumerate_from first standings)
  all_added first [] h = omega (arith, ints)
  all_added first (standing ∷ standings) h =
      let parts = and_parts (allows standing (includes panel first)) (keeps panel (first + 1) standings) h in
      let here = added standing (includes panel first) (r first) parts.0 in
      let later = all_added (first + 1) standings parts.1 in omega (arith, ints, here, later)

-- if `k` times `w` is below `k` times `cap + 1`, then `w` is at most `cap`
unscaled : (k : ℕ) (w cap : ℤ) → (pos k *ℤ w) <ℤ (pos k *ℤ (cap +ℤ pos 1)) → w ≤ℤ cap
unscaled k w cap h =
    (elim (int_lt cap w) as (λ b. int_lt cap w ≡ b → w ≤ℤ cap) [
      | true ↦ λ e.
          let more : (cap +ℤ pos 1) ≤ℤ w = omega (arith, ints, lt-true cap w e) in
          let scaled = le-scaled (cap +ℤ pos 1) w k more in absurd (omega (arith, ints, h, scaled))
      | false ↦ λ e. omega (arith, ints, lt-false cap w e)
    ]) refl

module _ (problem : Problem) (standings : List Standing) (panel : List ℕ)
    (up : is_increasing panel ≡ true) (below : list_all (λ i. ltb i (length standings)) panel ≡ true) (kept : keeps panel 0 standings ≡ true)
    (met : AllByRecursion (Meets panel) problem.constraints) where
  -- the panel's weight in the problem's stage
  abbrev pub weight : ℤ
  weight = total (weight_of problem.stage) panel

  module _ (leaf : Leaf) where
    abbrev times : ℕ → Multiplier → ℤ
    times i multiplier = multiplied problem.constraints i multiplier

    -- a volunteer's scaled weight equals the rest plus the sum of the multiplied coefficients
    one_weight : (i : ℕ) → pos leaf.scale *ℤ weight_of problem.stage i ≡ rest problem leaf i +ℤ total (times i) leaf.multipliers
    one_weight i = let same = sum-is-total (times i) leaf.multipliers in omega (arith, ints, same)

    one_charge : (multiplier : Multiplier) → (total (λ i. times i multiplier) panel) ≤ℤ (charge problem.constraints multiplier)
    one_charge multiplier =
        let constraint = constraint_at problem.constraints multiplier.number in
        let meets = met_at panel problem.constraints met multiplier.number in
        let scaled = total-scaled multiplier.factor (coefficient constraint) panel in
        let bound = charged multiplier.factor constraint.lower constraint.upper (total (coefficient constraint) panel) meets.least meets.most in
        omega (arith, ints, scaled, bound)

    weight_charged : (pos leaf.scale *ℤ weight) ≤ℤ (total_charge problem standings leaf)
    weight_charged =
        let ms = leaf.multipliers in
        let scaled = total-scaled (pos leaf.scale) (weight_of problem.stage) panel in
        let split = total_ext (λ i. pos leaf.scale *ℤ weight_of problem.stage i) (λ i. rest problem leaf i +ℤ total (times i) ms) one_weight panel in
        let apart = total-add (rest problem leaf) (λ i. total (times i) ms) panel in
        let turned = exchanged times panel ms in
        let charges = total_le (λ m. total (λ i. times i m) panel) (charge problem.constraints) ms (each_everywhere (λ m. (total (λ i. times i m) panel) ≤ℤ (charge problem.constraints m)) one_charge ms) in
        let everybody = total-panel (rest problem leaf) (length standings) panel up below in
        let rests = all_added panel (rest problem leaf) 0 standings kept in
        let first = sum-is-total (charge problem.constraints) ms in
        let second = sum-is-total (λ (i, standing). rest_charge standing (rest problem leaf i)) (enumerate_from 0 standings) in
        omega (arith, ints, scaled, split, apart, turned, charges, everybody, rests, first, second)

    -- if a leaf shows the cap, the panel weighs at most the cap
    pub weight_below : leaf_shows problem standings leaf ≡ true → weight ≤ℤ problem.stage.cap
    weight_below shows =
        let parts = and_parts (has_constraints problem leaf) (is_below problem standings leaf) shows in
        let least = lt-tested (total_charge problem standings leaf) (pos leaf.scale *ℤ (problem.stage.cap +ℤ pos 1)) parts.1 in
        unscaled leaf.scale weight problem.stage.cap (omega (arith, ints, least, weight_charged))
