-- No sum that a check of a leaf computes passes 128 bits.
use Rattle.std.proofs.Common.{◌≡◌, ℕ, zero, suc, ◌+◌, ◌-◌, ◌*◌, ◌^◌, ◌≤◌, ◌<◌, Bool, true, false, cond, ◌&&◌, leb, ltb, List, [], ◌∷◌, map, take, length, get_or, sum_by, ℤ, pos, ◌+ℤ◌, ◌*ℤ◌, refl, sym, ap, subst, arith, lit<, le_of_eq, mul-le-mul_left, mul-le-mul_right}
use Rattle.std.specs.Prelude.{int_lt, unsigned_abs}
use Rattle.std.specs.List.{AllByRecursion, enumerate_from, list_all}
use Rattle.std.proofs.lemmas.Bool.{and_parts, leb-true, ltb-true}
use Rattle.std.proofs.lemmas.Int.{unsigned_abs-mul}
use Rattle.std.proofs.Math.Seq.{take-length}
use Rattle.define_pools.proofs.Each.{each_everywhere, each_from_list_all, each_map}
use Rattle.define_pools.proofs.Sums as naturals
use Rattle.define_pools.proofs.Integers.{abs-add, abs-sub}
use Rattle.define_bundles.specs.Ranges.{reach}
use Rattle.define_pools.specs.Certificate.{weight_of}
use Rattle.define_pools.specs.Lists.{is_increasing}
use Rattle.define_pools.specs.declared.Standing.{Standing}
use Rattle.define_pools.specs.declared.Standing.TheVariants.{Open, Seated, Gone}
use Rattle.define_proofs.specs.Constraints.{Constraint, coefficient, constraint_at, signed_sum}
use Rattle.define_proofs.specs.LeafSums.{charges_and_rests, first_charges, first_multipliers, is_in_reach, is_problem_in_reach, is_stage_in_reach}
use Rattle.define_proofs.specs.Leaves.{Leaf, Multiplier, Problem, charge, multiplied, rest, rest_charge}
use Rattle.define_proofs.specs.TreeRanges.{is_leaf, is_multiplier, greatest_constraint, number_limit}
use Rattle.define_proofs.proofs.SignedSums.{sum-is-total, total}

-- ---- sums and absolute values

abs-total : {X : Type 0} (f : X → ℤ) (xs : List X) → unsigned_abs (total f xs) ≤ naturals.total (λ x. unsigned_abs (f x)) xs
abs-total f [] = omega arith
abs-total f (x ∷ xs) = let rest = abs-total f xs in omega (arith, abs-add (f x) (total f xs), rest)

-- the sum over the first `k` elements is at most the sum over all
fewer : {X : Type 0} (f : X → ℕ) (k : ℕ) (xs : List X) → naturals.total f (take k xs) ≤ naturals.total f xs
fewer f zero [] = omega arith
fewer f (suc k) [] = omega arith
fewer f zero (x ∷ xs) = omega arith
fewer f (suc k) (x ∷ xs) = let rest = fewer f k xs in omega arith

-- if each number is at most `limit`, their sum is at most `limit` times how many there are
within_limit : {X : Type 0} (f : X → ℕ) (limit : ℕ) (xs : List X) → AllByRecursion (λ x. f x ≤ limit) xs → naturals.total f xs ≤ length xs * limit
within_limit f limit [] h = omega arith
within_limit f limit (x ∷ xs) h = let here = h.0 in let rest = within_limit f limit xs h.1 in omega (arith, here, rest)

-- a double sum is the same whether it goes over `xs` or over `ys` first
exchanged : {X Y : Type 0} (f : X → Y → ℕ) (xs : List X) (ys : List Y) → naturals.total (λ x. naturals.total (f x) ys) xs ≡ naturals.total (λ y. naturals.total (λ x. f x y) xs) ys
exchanged f [] ys = sym (naturals.total-zero (λ y. 0) (λ y. refl) ys)
exchanged f (x ∷ xs) ys = let rest = exchanged f xs ys in let split = naturals.total-add (f x) (λ y. naturals.total (λ x. f x y) xs) ys in omega (arith, rest, split)

-- the absolute value of number `i` of a list is at most the sum of all absolute values
one_at : (xs : List ℤ) (i : ℕ) → unsigned_abs (get_or xs i (pos 0)) ≤ naturals.total unsigned_abs xs
one_at [] i = omega arith
one_at (x ∷ xs) zero = omega arith
one_at (x ∷ xs) (suc i) = let rest = one_at xs i in omega arith

-- if `g (first + i)` is the absolute value of number `i` of `xs`, or 0 past the end, the sum of `g` over numbers from `first` on is at most
-- the sum of all absolute values
at_places : {X : Type 0} (g : ℕ → ℕ) (first : ℕ) (places : List X) (xs : List ℤ) → ((i : ℕ) → g (first + i) ≡ unsigned_abs (get_or xs i (pos 0))) →
    naturals.total (λ pair. g pair.0) (enumerate_from first places) ≤ naturals.total unsigned_abs xs
at_places g first [] xs e = omega arith
at_places g first (place ∷ places) [] e =
    let here : first + 0 ≡ first = omega arith in
    let none : g first ≡ 0 = subst (λ k. g k ≡ 0) here (e 0) in
    let rest = at_places g (first + 1) places [] (λ i. let next : first + suc i ≡ first + 1 + i = omega arith in subst (λ k. g k ≡ unsigned_abs (get_or [] i (pos 0))) next (e (suc i))) in
    omega (arith, none, rest)
at_places g first (place ∷ places) (x ∷ xs) e =
    let here : first + 0 ≡ first = omega arith in
    let same : g first ≡ unsigned_abs x = subst (λ k. g k ≡ unsigned_abs x) here (e 0) in
    let rest = at_places g (first + 1) places xs (λ i. let next : first + suc i ≡ first + 1 + i = omega arith in subst (λ k. g k ≡ unsigned_abs (get_or xs i (pos 0))) next (e (suc i))) in
    omega (arith, same, rest)

all_at_places : {X : Type 0} (places : List X) (xs : List ℤ) → naturals.total (λ pair. unsigned_abs (get_or xs pair.0 (pos 0))) (enumerate_from 0 places) ≤ naturals.total unsigned_abs xs
all_at_places places xs = at_places (λ i. unsigned_abs (get_or xs i (pos 0))) 0 places xs (λ i. let here : 0 + i ≡ i = omega arith in ap (λ k. unsigned_abs (get_or xs k (pos 0))) here)

-- there are at most `last + 1 - first` numbers in a rising list of numbers from `first` to `last`
few_rising : (first last : ℕ) (xs : List ℕ) → is_increasing xs ≡ true → AllByRecursion (λ x. first ≤ x) xs → AllByRecursion (λ x. x ≤ last) xs → length xs ≤ (last + 1) - first
few_rising first last [] up low high = omega arith
few_rising first last (x ∷ xs) up low high =
    let ups = and_parts (list_all (λ y. ltb x y) xs) (is_increasing xs) up in
    let later = each_map (λ y. ltb x y ≡ true) (λ y. x + 1 ≤ y) (λ y e. let l = ltb-true x y e in omega arith) xs (each_from_list_all (λ y. ltb x y) xs ups.0) in
    let rest = few_rising (x + 1) last xs ups.1 later high.1 in
    let l = low.0 in let h = high.0 in omega arith

-- ---- the numbers of a leaf

-- the square of `number_limit`
abbrev square : ℕ
square = 2 ^ 112

product_within : (a b : ℕ) → a ≤ number_limit → b ≤ number_limit → a * b ≤ square
product_within a b l m =
    let first = mul-le-mul_right b l in
    let second = mul-le-mul_left number_limit m in
    let same : number_limit * number_limit ≡ square = refl in omega (arith, first, second, same)

-- the bounds that a constraint within reach keeps
record ReachParts (constraint : Constraint) : Type 0 where
  coefficients : naturals.total unsigned_abs constraint.coefficients ≤ number_limit
  lower : unsigned_abs constraint.lower ≤ number_limit
  upper : unsigned_abs constraint.upper ≤ number_limit

reach_parts : (constraint : Constraint) → is_in_reach constraint ≡ true → ReachParts constraint
reach_parts constraint h =
    let A = leb (sum_by unsigned_abs constraint.coefficients) number_limit in
    let B = leb (unsigned_abs constraint.lower) number_limit in let C = leb (unsigned_abs constraint.upper) number_limit in
    let parts = and_parts (A && B) C h in let first = and_parts A B parts.0 in
    let sum = leb-true (sum_by unsigned_abs constraint.coefficients) number_limit first.0 in
    record {
      coefficients = omega (arith, sum, naturals.sum_by-is-total unsigned_abs constraint.coefficients);
      lower = leb-true (unsigned_abs constraint.lower) number_limit first.1;
      upper = leb-true (unsigned_abs constraint.upper) number_limit parts.1;
    }

-- if all constraints are within reach, `ReachParts` holds of the constraint of each number, also past the last one
parts_at : (all : List Constraint) → list_all is_in_reach all ≡ true → (number : ℕ) → ReachParts (constraint_at all number)
parts_at [] h number = record { coefficients = omega arith; lower = omega arith; upper = omega arith }
parts_at (constraint ∷ all) h zero = reach_parts constraint (and_parts (is_in_reach constraint) (list_all is_in_reach all) h).0
parts_at (constraint ∷ all) h (suc number) = parts_at all (and_parts (is_in_reach constraint) (list_all is_in_reach all) h).1 number

-- the absolute value of a factor is within the limit
abbrev IsSmall : Multiplier → Type 0
IsSmall multiplier = unsigned_abs multiplier.factor ≤ number_limit

-- the bounds that a leaf in its ranges keeps
record LeafParts (leaf : Leaf) : Type 0 where
  scale : leaf.scale ≤ number_limit
  factors : AllByRecursion IsSmall leaf.multipliers
  few : length leaf.multipliers ≤ 9001

module _ (leaf : Leaf) (is : is_leaf leaf ≡ true) where
  leaf_parts : LeafParts leaf
  leaf_parts =
      let ms = leaf.multipliers in
      let numbers = map (λ (multiplier : Multiplier). multiplier.number) ms in
      let A = leb leaf.scale number_limit in let B = list_all is_multiplier ms in
      let parts = and_parts (A && B) (is_increasing numbers) is in let first = and_parts A B parts.0 in
      let each = each_from_list_all is_multiplier ms first.1 in
      let most = low ms each in
      let rise = few_rising 0 greatest_constraint numbers parts.1 (each_everywhere (λ x. 0 ≤ x) (λ x. omega arith) numbers) most in
      let many = same_length ms in
      record { scale = leb-true leaf.scale number_limit first.0; factors = each_map (λ m. is_multiplier m ≡ true) IsSmall small ms each; few = omega (arith, rise, many) }
    where
      parts_of : (m : Multiplier) → is_multiplier m ≡ true → (leb m.number greatest_constraint ≡ true) × (leb (unsigned_abs m.factor) number_limit ≡ true)
      parts_of m h =
          let A = leb m.number greatest_constraint in let B = ltb 0 (unsigned_abs m.factor) in let C = leb (unsigned_abs m.factor) number_limit in
          let two = and_parts (A && B) C h in ((and_parts A B two.0).0, two.1)

      small : (m : Multiplier) → is_multiplier m ≡ true → IsSmall m
      small m h = leb-true (unsigned_abs m.factor) number_limit (parts_of m h).1

      low : (ms : List Multiplier) → AllByRecursion (λ m. is_multiplier m ≡ true) ms → AllByRecursion (λ x. x ≤ greatest_constraint) (map (λ (multiplier : Multiplier). multiplier.number) ms)
      low [] h = tt
      low (m ∷ ms) h = (leb-true m.number greatest_constraint (parts_of m h.0).0, low ms h.1)

      same_length : (ms : List Multiplier) → length (map (λ (multiplier : Multiplier). multiplier.number) ms) ≡ length ms
      same_length [] = refl
      same_length (m ∷ ms) = ap suc (same_length ms)

module _ (problem : Problem) (near : is_problem_in_reach problem ≡ true) (leaf : Leaf) (is : is_leaf leaf ≡ true) where
  abbrev all : List Constraint
  all = problem.constraints

  abbrev ms : List Multiplier
  ms = leaf.multipliers

  known : LeafParts leaf
  known = leaf_parts leaf is

  at : (number : ℕ) → ReachParts (constraint_at all number)
  at number = parts_at all (and_parts (list_all is_in_reach all) (is_stage_in_reach problem.stage) near).0 number

  of_stage : unsigned_abs problem.stage.cap + naturals.total unsigned_abs problem.stage.weights ≤ number_limit
  of_stage =
      let within = leb-true (reach problem.stage) number_limit (and_parts (list_all is_in_reach all) (is_stage_in_reach problem.stage) near).1 in
      omega (arith, within, naturals.sum_by-is-total unsigned_abs problem.stage.weights)

  -- if a factor is within the limit, the absolute value of its product with a coefficient is at most `square`
  pub one_product : (i : ℕ) (m : Multiplier) → IsSmall m → unsigned_abs (multiplied all i m) ≤ square
  one_product i m small =
      let constraint = constraint_at all m.number in
      let one = one_at constraint.coefficients i in let sum = (at m.number).coefficients in
      let product = product_within (unsigned_abs m.factor) (unsigned_abs (coefficient constraint i)) small (omega (arith, one, sum)) in
      omega (arith, product, unsigned_abs-mul m.factor (coefficient constraint i))

  -- if a factor is within the limit, the absolute value of the charge is at most `square`
  pub one_charge : (m : Multiplier) → IsSmall m → unsigned_abs (charge all m) ≤ square
  one_charge m small =
      let constraint = constraint_at all m.number in
      let bound : ℤ = cond (int_lt (pos 0) m.factor) constraint.upper constraint.lower in
      let product = product_within (unsigned_abs m.factor) (unsigned_abs bound) small
      (by (int_lt (pos 0) m.factor)) in
      omega (arith, product, unsigned_abs-mul m.factor bound)
    where
      by : (b : Bool) → unsigned_abs (cond b (constraint_at all m.number).upper (constraint_at all m.number).lower) ≤ number_limit
      by true = (at m.number).upper
      by false = (at m.number).lower

  charges_within : (k : ℕ) → unsigned_abs (signed_sum (charge all) (take k ms)) ≤ 9001 * square
  charges_within k =
      let size : Multiplier → ℕ = λ m. unsigned_abs (charge all m) in
      let same = ap unsigned_abs (sum-is-total (charge all) (take k ms)) in
      let apart = abs-total (charge all) (take k ms) in
      let part = fewer size k ms in
      let whole = within_limit size square ms (each_map IsSmall (λ m. size m ≤ square) one_charge ms known.factors) in
      let few = mul-le-mul_right square known.few in omega (arith, same, apart, part, whole, few)

  -- ---- rests, and all charges together with them

  weight_within : (i : ℕ) → leaf.scale * unsigned_abs (weight_of problem.stage i) ≤ square
  weight_within i =
      let one = one_at problem.stage.weights i in let sum = of_stage in
      product_within leaf.scale (unsigned_abs (weight_of problem.stage i)) known.scale (omega (arith, one, sum))

  -- a rest after the first `k` multipliers, in absolute value, is at most the scaled weight plus all multiplied coefficients, in absolute
  -- values
  rest_apart : (k i : ℕ) → unsigned_abs (rest problem (first_multipliers k leaf) i) ≤ leaf.scale * unsigned_abs (weight_of problem.stage i) + naturals.total (λ m. unsigned_abs (multiplied all i m)) ms
  rest_apart k i =
      let weight = pos leaf.scale *ℤ weight_of problem.stage i in
      let sum = signed_sum (multiplied all i) (take k ms) in
      let same = ap unsigned_abs (sum-is-total (multiplied all i) (take k ms)) in
      let apart = abs-total (multiplied all i) (take k ms) in
      let part = fewer (λ m. unsigned_abs (multiplied all i m)) k ms in
      let two = abs-sub weight sum in
      let product = unsigned_abs-mul (pos leaf.scale) (weight_of problem.stage i) in
      omega (arith, same, apart, part, two, product)

  rest_within : (k i : ℕ) → unsigned_abs (rest problem (first_multipliers k leaf) i) ≤ 9002 * square
  rest_within k i =
      let apart = rest_apart k i in
      let weight = weight_within i in
      let sum = within_limit (λ m. unsigned_abs (multiplied all i m)) square ms (each_map IsSmall (λ m. unsigned_abs (multiplied all i m) ≤ square) (one_product i) ms known.factors) in
      let few = mul-le-mul_right square known.few in omega (arith, apart, weight, sum, few)

  charge_of_rest : (standing : Standing) (r : ℤ) → unsigned_abs (rest_charge standing r) ≤ unsigned_abs r
  charge_of_rest Open r = by (int_lt (pos 0) r)
    where
      by : (b : Bool) → unsigned_abs (cond b r (pos 0)) ≤ unsigned_abs r
      by true = le_of_eq refl
      by false = omega arith
  charge_of_rest Seated r = le_of_eq refl
  charge_of_rest Gone r = omega arith

  module _ (standings : List Standing) where
    abbrev places : List (ℕ × Standing)
    places = enumerate_from 0 standings

    -- if a factor is within the limit, the absolute values of its products with the volunteers' coefficients sum to at most `square`
    one_constraint : (m : Multiplier) → IsSmall m → naturals.total (λ pair. unsigned_abs (multiplied all pair.0 m)) places ≤ square
    one_constraint m small =
        let constraint = constraint_at all m.number in
        let sum = all_at_places standings constraint.coefficients in
        let within = (at m.number).coefficients in
        let scaled = naturals.total-scaled (λ (pair : ℕ × Standing). unsigned_abs (coefficient constraint pair.0)) (unsigned_abs m.factor) places in
        let each = naturals.total_ext (λ (pair : ℕ × Standing). unsigned_abs (multiplied all pair.0 m)) (λ pair. unsigned_abs (coefficient constraint pair.0) * unsigned_abs m.factor)
        (λ pair. let e = unsigned_abs-mul m.factor (coefficient constraint pair.0) in omega (arith, e)) places in
        let product = product_within (naturals.total (λ pair. unsigned_abs (coefficient constraint pair.0)) places) (unsigned_abs m.factor) (omega (arith, sum, within)) small in
        omega (arith, scaled, each, product)

    -- over all volunteers, the absolute values of the scaled weights sum to at most `square`
    all_weights : naturals.total (λ pair. leaf.scale * unsigned_abs (weight_of problem.stage pair.0)) places ≤ square
    all_weights =
        let sum = all_at_places standings problem.stage.weights in
        let within = of_stage in
        let scaled = naturals.total-scaled (λ (pair : ℕ × Standing). unsigned_abs (weight_of problem.stage pair.0)) leaf.scale places in
        let each = naturals.total_ext (λ (pair : ℕ × Standing). leaf.scale * unsigned_abs (weight_of problem.stage pair.0)) (λ pair. unsigned_abs (weight_of problem.stage pair.0) * leaf.scale) (λ pair. omega arith) places in
        let product = product_within (naturals.total (λ pair. unsigned_abs (weight_of problem.stage pair.0)) places) leaf.scale (omega (arith, sum, within)) known.scale in
        omega (arith, scaled, each, product)

    all_rests : naturals.total (λ pair. unsigned_abs (rest problem leaf pair.0)) places ≤ 9002 * square
    all_rests =
        let weights : ℕ × Standing → ℕ = λ pair. leaf.scale * unsigned_abs (weight_of problem.stage pair.0) in
        let products : ℕ × Standing → ℕ = λ pair. naturals.total (λ m. unsigned_abs (multiplied all pair.0 m)) ms in
        let each = naturals.total_le (λ pair. unsigned_abs (rest problem leaf pair.0)) (λ pair. weights pair + products pair) places
        (each_everywhere (λ pair. unsigned_abs (rest problem leaf pair.0) ≤ weights pair + products pair) (λ pair. whole_rest pair.0) places) in
        let split = naturals.total-add weights products places in
        let turned = exchanged (λ (pair : ℕ × Standing) m. unsigned_abs (multiplied all pair.0 m)) places ms in
        let sum = within_limit (λ m. naturals.total (λ pair. unsigned_abs (multiplied all pair.0 m)) places) square ms
        (each_map IsSmall (λ m. naturals.total (λ pair. unsigned_abs (multiplied all pair.0 m)) places ≤ square) one_constraint ms known.factors) in
        let few = mul-le-mul_right square known.few in
        let first = all_weights in omega (arith, each, split, turned, sum, few, first)
      where
        whole_rest : (i : ℕ) → unsigned_abs (rest problem leaf i) ≤ leaf.scale * unsigned_abs (weight_of problem.stage i) + naturals.total (λ m. unsigned_abs (multiplied all i m)) ms
        whole_rest i = subst (λ those. unsigned_abs (rest problem (record leaf { multipliers = those }) i) ≤ leaf.scale * unsigned_abs (weight_of problem.stage i) + naturals.total (λ m. unsigned_abs (multiplied all i m)) ms)
            (take-length ms) (rest_apart (length ms) i)

    total_within : (k : ℕ) → unsigned_abs (charges_and_rests problem standings k leaf) ≤ 18003 * square
    total_within k =
        let f : ℕ × Standing → ℤ = λ pair. rest_charge pair.1 (rest problem leaf pair.0) in
        let charges = charges_whole in
        let two = abs-add (signed_sum (charge all) ms) (signed_sum f (take k places)) in
        let same = ap unsigned_abs (sum-is-total f (take k places)) in
        let apart = abs-total f (take k places) in
        let part = fewer (λ pair. unsigned_abs (f pair)) k places in
        let each = naturals.total_le (λ pair. unsigned_abs (f pair)) (λ pair. unsigned_abs (rest problem leaf pair.0)) places
        (each_everywhere (λ pair. unsigned_abs (f pair) ≤ unsigned_abs (rest problem leaf pair.0)) (λ pair. charge_of_rest pair.1 (rest problem leaf pair.0)) places) in
        let rests = all_rests in omega (arith, charges, two, same, apart, part, each, rests)
      where
        charges_whole : unsigned_abs (signed_sum (charge all) ms) ≤ 9001 * square
        charges_whole = subst (λ those. unsigned_abs (signed_sum (charge all) those) ≤ 9001 * square) (take-length ms) (charges_within (length ms))

  -- ---- all these sums are below 2^127

  wide : 18003 * square < 2 ^ 127
  wide = lit< tt

  pub rest_narrow : (k i : ℕ) → unsigned_abs (rest problem (first_multipliers k leaf) i) < 2 ^ 127
  rest_narrow k i = let most = rest_within k i in let room = wide in omega (arith, most, room)

  pub charges_narrow : (k : ℕ) → unsigned_abs (first_charges problem k leaf) < 2 ^ 127
  charges_narrow k = let most = charges_within k in let room = wide in omega (arith, most, room)

  pub total_narrow : (standings : List Standing) (k : ℕ) → unsigned_abs (charges_and_rests problem standings k leaf) < 2 ^ 127
  total_narrow standings k = let most = total_within standings k in let room = wide in omega (arith, most, room)

  pub products_narrow : (i : ℕ) → AllByRecursion (λ m. (unsigned_abs (multiplied all i m) < 2 ^ 127) × (unsigned_abs (charge all m) < 2 ^ 127)) ms
  products_narrow i = each_map IsSmall (λ m. (unsigned_abs (multiplied all i m) < 2 ^ 127) × (unsigned_abs (charge all m) < 2 ^ 127)) both ms known.factors
    where
      both : (m : Multiplier) → IsSmall m → (unsigned_abs (multiplied all i m) < 2 ^ 127) × (unsigned_abs (charge all m) < 2 ^ 127)
      both m small = let product = one_product i m small in let one = one_charge m small in let room : square < 2 ^ 127 = lit< tt in (omega (arith, product, room), omega (arith, one, room))

  pub bound_narrow : unsigned_abs (pos leaf.scale *ℤ (problem.stage.cap +ℤ pos 1)) < 2 ^ 127
  bound_narrow =
      let cap = of_stage in
      let one = abs-add problem.stage.cap (pos 1) in
      let first = mul-le-mul_right (unsigned_abs (problem.stage.cap +ℤ pos 1)) known.scale in
      let product = unsigned_abs-mul (pos leaf.scale) (problem.stage.cap +ℤ pos 1) in
      let more : unsigned_abs (problem.stage.cap +ℤ pos 1) ≤ number_limit + 1 = omega (arith, cap, one) in
      let most = mul-le-mul_left number_limit more in
      let room : number_limit * (number_limit + 1) < 2 ^ 127 = lit< tt in omega (arith, first, product, most, room)
