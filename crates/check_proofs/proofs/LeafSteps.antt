-- The sums over a leaf's multipliers and over the volunteers: what one more multiplier or volunteer adds. All sums fit 128 bits.
use Rattle.std.proofs.Common.{◌≡◌, ℕ, ◌+◌, ◌<◌, ◌≤◌, ◌^◌, true, ltb, List, length, take, get_or, ℤ, pos, ◌+ℤ◌, ◌-ℤ◌, ◌*ℤ◌, FitsSigned, to_z, of_z, sym, ap, ap₂, ◌∙◌, subst, arith}
use Rattle.std.specs.Prelude.{unsigned_abs}
use Rattle.std.specs.List.{enumerate_from}
use Rattle.std.proofs.lemmas.Bool.{ltb-true}
use Rattle.std.specs.Int.{w128}
use Rattle.std.proofs.lemmas.Int.{fits_signed_from_abs, ints, to_z-of_z}
use Rattle.std.proofs.lemmas.List.{take_all}
use Rattle.std.proofs.lemmas.List.Sums.{fold_more}
use Rattle.define_pools.proofs.Each.{each_at, each_from_list_all}
use Rattle.define_pools.proofs.Lists.{get_or-enumerate_from, length-enumerate_from}
use Rattle.define_pools.specs.Certificate.{weight_of}
use Rattle.define_pools.specs.declared.Standing.{Standing}
use Rattle.define_proofs.specs.Constraints.{signed_sum}
use Rattle.define_proofs.specs.LeafSums.{charges_and_rests, first_charges, first_multipliers, is_problem_in_reach}
use Rattle.define_proofs.specs.Leaves.{Leaf, Multiplier, Problem, charge, has_constraints, multiplied, rest, rest_charge, total_charge}
use Rattle.define_proofs.specs.TreeRanges.{is_leaf}
use Rattle.define_proofs.proofs.NarrowSums.{charges_narrow, products_narrow, rest_narrow, total_narrow}

-- equal lists have the same element at place `k`
pub at_item : {X : Type 0} (items xs : List X) (k : ℕ) (x : X) → items ≡ xs → k < length items → x ≡ get_or items k x → (k < length xs) × (x ≡ get_or xs k x)
at_item items xs k x e l is = subst (λ ys. (k < length ys) × (x ≡ get_or ys k x)) e (l, is)

-- a number that fits 128 bits is stored unchanged
pub stored : (z y : ℤ) → FitsSigned w128 z → z ≡ y → to_z w128 (of_z w128 z) ≡ y
stored z y fits e = to_z-of_z w128 z fits ∙ e

-- a number whose absolute value is below 2^127 fits 128 bits
pub fits_where : (z y : ℤ) → z ≡ y → unsigned_abs y < 2 ^ 127 → FitsSigned w128 z
fits_where z y e narrow = subst (λ z. FitsSigned w128 z) (sym e) (fits_signed_from_abs w128 y narrow)

less_more : (w s m : ℤ) → w -ℤ (s +ℤ m) ≡ (w -ℤ s) -ℤ m
less_more w s m = omega (arith, ints)

less_none : (w : ℤ) → w -ℤ pos 0 ≡ w
less_none w = omega (arith, ints)

more_along : (a b c : ℤ) → a +ℤ (b +ℤ c) ≡ (a +ℤ b) +ℤ c
more_along a b c = omega (arith, ints)

more_none : (a : ℤ) → a +ℤ pos 0 ≡ a
more_none a = omega (arith, ints)

module _ (problem : Problem) (leaf : Leaf) where
  -- before the first multiplier, the rest of volunteer `i` is the weight times the scale
  pub rest_begins : (i : ℕ) → rest problem (first_multipliers 0 leaf) i ≡ pos leaf.scale *ℤ weight_of problem.stage i
  rest_begins i = less_none (pos leaf.scale *ℤ weight_of problem.stage i)

  -- after all multipliers, the rest of volunteer `i` is the whole rest
  pub rest_ends : (k i : ℕ) → length leaf.multipliers ≤ k → rest problem (first_multipliers k leaf) i ≡ rest problem leaf i
  rest_ends k i h = ap (λ ms. pos leaf.scale *ℤ weight_of problem.stage i -ℤ signed_sum (multiplied problem.constraints i) ms) (take_all k leaf.multipliers h)

  -- after all multipliers, the sum of the first charges is the sum of all charges
  pub charges_end : (k : ℕ) → length leaf.multipliers ≤ k → first_charges problem k leaf ≡ signed_sum (charge problem.constraints) leaf.multipliers
  charges_end k h = ap (signed_sum (charge problem.constraints)) (take_all k leaf.multipliers h)

  module _ (k : ℕ) (below : k < length leaf.multipliers) (m : Multiplier) (at : m ≡ get_or leaf.multipliers k m) where
    -- if all multipliers are of constraints of the problem, so is multiplier `k`
    pub known_at : has_constraints problem leaf ≡ true → m.number < length problem.constraints
    known_at known =
        let P : Multiplier → Type 0 = λ it. ltb it.number (length problem.constraints) ≡ true in
        ltb-true m.number (length problem.constraints)
        (each_at P leaf.multipliers k m (each_from_list_all (λ it. ltb it.number (length problem.constraints)) leaf.multipliers known) below at)

    -- if the problem is within reach and the leaf in its ranges, product and charge of multiplier `k` are below 2^127 by absolute value
    pub narrow_at : (i : ℕ) → is_problem_in_reach problem ≡ true → is_leaf leaf ≡ true →
        (unsigned_abs (multiplied problem.constraints i m) < 2 ^ 127) × (unsigned_abs (charge problem.constraints m) < 2 ^ 127)
    narrow_at i near is =
        let P : Multiplier → Type 0 = λ it. (unsigned_abs (multiplied problem.constraints i it) < 2 ^ 127) × (unsigned_abs (charge problem.constraints it) < 2 ^ 127) in
        each_at P leaf.multipliers k m (products_narrow problem near leaf is i) below at

    -- multiplier `k` adds its charge to those of the first `k` multipliers
    pub charges_more : first_charges problem (k + 1) leaf ≡ first_charges problem k leaf +ℤ charge problem.constraints m
    charges_more =
        fold_more (λ sum it. sum +ℤ charge problem.constraints it) (pos 0) leaf.multipliers k m below
        ∙ ap (λ it. first_charges problem k leaf +ℤ charge problem.constraints it) (sym at)

    pub rest_more : (i : ℕ) → rest problem (first_multipliers (k + 1) leaf) i ≡ rest problem (first_multipliers k leaf) i -ℤ multiplied problem.constraints i m
    rest_more i =
        let weight = pos leaf.scale *ℤ weight_of problem.stage i in
        let sum = signed_sum (multiplied problem.constraints i) (take k leaf.multipliers) in
        ap (λ s. weight -ℤ s)
        (fold_more (λ sum it. sum +ℤ multiplied problem.constraints i it) (pos 0) leaf.multipliers k m below
        ∙ ap (λ it. sum +ℤ multiplied problem.constraints i it) (sym at))
        ∙ less_more weight sum (multiplied problem.constraints i m)

    module _ (near : is_problem_in_reach problem ≡ true) (is : is_leaf leaf ≡ true) where
      pub charge_fits : (sum one : ℤ) → sum ≡ first_charges problem k leaf → one ≡ charge problem.constraints m → FitsSigned w128 (sum +ℤ one)
      charge_fits sum one e f =
          fits_where (sum +ℤ one) (first_charges problem (k + 1) leaf) (ap₂ (λ a b. a +ℤ b) e f ∙ sym charges_more) (charges_narrow problem near leaf is (k + 1))

      pub charge_next : (sum one : ℤ) → sum ≡ first_charges problem k leaf → one ≡ charge problem.constraints m → to_z w128 (of_z w128 (sum +ℤ one)) ≡ first_charges problem (k + 1) leaf
      charge_next sum one e f = stored (sum +ℤ one) (first_charges problem (k + 1) leaf) (charge_fits sum one e f) (ap₂ (λ a b. a +ℤ b) e f ∙ sym charges_more)

      pub rest_fits : (i : ℕ) (before one : ℤ) → before ≡ rest problem (first_multipliers k leaf) i → one ≡ multiplied problem.constraints i m → FitsSigned w128 (before -ℤ one)
      rest_fits i before one e f =
          fits_where (before -ℤ one) (rest problem (first_multipliers (k + 1) leaf) i) (ap₂ (λ a b. a -ℤ b) e f ∙ sym (rest_more i)) (rest_narrow problem near leaf is (k + 1) i)

      pub rest_next : (i : ℕ) (before one : ℤ) → before ≡ rest problem (first_multipliers k leaf) i → one ≡ multiplied problem.constraints i m → to_z w128 (of_z w128 (before -ℤ one)) ≡ rest problem (first_multipliers (k + 1) leaf) i
      rest_next i before one e f = stored (before -ℤ one) (rest problem (first_multipliers (k + 1) leaf) i) (rest_fits i before one e f) (ap₂ (λ a b. a -ℤ b) e f ∙ sym (rest_more i))

-- ---- the charges of the volunteers' rests

module _ (problem : Problem) (leaf : Leaf) (standings : List Standing) where
  abbrev charges : ℤ
  charges = signed_sum (charge problem.constraints) leaf.multipliers

  abbrev of_rest : ℕ × Standing → ℤ
  of_rest = λ (i, standing). rest_charge standing (rest problem leaf i)

  pub total_begins : charges_and_rests problem standings 0 leaf ≡ charges
  total_begins = more_none charges

  pub total_ends : (k : ℕ) → length standings ≤ k → charges_and_rests problem standings k leaf ≡ total_charge problem standings leaf
  total_ends k h =
      ap (λ places. charges +ℤ signed_sum of_rest places) (take_all k (enumerate_from 0 standings) (let many = length-enumerate_from 0 standings in omega (arith, many)))

  module _ (k : ℕ) (standing d : Standing) (below : k < length standings) (at : standing ≡ get_or standings k d) where
    -- the rest of volunteer `k` adds its charge to the sum for the first `k` volunteers
    pub total_more : charges_and_rests problem standings (k + 1) leaf ≡ charges_and_rests problem standings k leaf +ℤ rest_charge standing (rest problem leaf k)
    total_more =
        let places = enumerate_from 0 standings in
        let sum = signed_sum of_rest (take k places) in
        let many = length-enumerate_from 0 standings in
        let zeroth : 0 + k ≡ k = omega arith in
        ap (λ s. charges +ℤ s)
        (fold_more (λ sum pair. sum +ℤ of_rest pair) (pos 0) places k (k, d) (omega (arith, many))
        ∙ ap (λ pair. sum +ℤ of_rest pair) (get_or-enumerate_from 0 standings k (k, d) d below)
        ∙ ap (λ i. sum +ℤ rest_charge (get_or standings k d) (rest problem leaf i)) zeroth
        ∙ ap (λ one. sum +ℤ rest_charge one (rest problem leaf k)) (sym at))
        ∙ more_along charges sum (rest_charge standing (rest problem leaf k))

    module _ (near : is_problem_in_reach problem ≡ true) (is : is_leaf leaf ≡ true) where
      pub total_fits : (sum one : ℤ) → sum ≡ charges_and_rests problem standings k leaf → one ≡ rest_charge standing (rest problem leaf k) → FitsSigned w128 (sum +ℤ one)
      total_fits sum one e f =
          fits_where (sum +ℤ one) (charges_and_rests problem standings (k + 1) leaf) (ap₂ (λ a b. a +ℤ b) e f ∙ sym total_more) (total_narrow problem near leaf is standings (k + 1))

      pub total_next : (sum one : ℤ) → sum ≡ charges_and_rests problem standings k leaf → one ≡ rest_charge standing (rest problem leaf k) → to_z w128 (of_z w128 (sum +ℤ one)) ≡ charges_and_rests problem standings (k + 1) leaf
      total_next sum one e f = stored (sum +ℤ one) (charges_and_rests problem standings (k + 1) leaf) (total_fits sum one e f) (ap₂ (λ a b. a +ℤ b) e f ∙ sym total_more)
