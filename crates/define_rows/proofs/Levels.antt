-- A table that is `AllSettled` has levels. By the equation of its unit row, a class's count is its size times the sum of its levels.
use Rattle.std.proofs.Common.{◌≡◌, ◌≢◌, ℕ, zero, suc, ◌+◌, ◌*◌, ◌/◌, ◌<◌, Bool, true, false, cond, List, [], ◌∷◌, length, get_or, Option, Some, None, ℤ, pos, ◌+ℤ◌, ◌-ℤ◌, ◌*ℤ◌, neg_ℤ, refl, sym, ap, ap₂, ◌∙◌, subst, arith}
use Rattle.std.specs.Prelude.{int_lt, unsigned_abs, slice_index, sum_by}
use Rattle.std.specs.Int.{◌∣◌}
use Rattle.std.specs.List.{All, AllByRecursion, range_with_len}
use Rattle.std.specs.Option.{option_and_then}
use Rattle.std.proofs.Math.Nat.{eq_of_mul-eq-mul_right, mul-div_cancel', dvd_trans, dvd-mul_right, dvd-mul_left, mul-pos}
use Rattle.std.proofs.lemmas.Int.{ints}
use Rattle.std.proofs.lemmas.List.Sums.{sum_by-cons}
use Rattle.std.proofs.lemmas.List.Elements.{recursion_from_All}
use Rattle.define_pools.proofs.Lists.{all_pass}
use Rattle.define_pools.proofs.Integers.{mul_comm, neg-mul, mul-zero, as_natural, same_pos}
use Rattle.frac128.specs.Fractions.{lowest_of}
use Rattle.define_rows.specs.declared.Var.{Var}
use Rattle.define_rows.specs.declared.Var.TheVariants.{Slack, Stage, Column}
use Rattle.define_rows.specs.Table.{Table, coefficient_at, row_at, basic_at, is_same, sizes_where}
use Rattle.define_rows.specs.Choice.{basic_row}
use Rattle.define_rows.specs.Steps.{ColumnValue, value_in, value_of, solution}
use Rattle.define_rows.specs.InOrder.{IsKnown, count_in, unit}
use Rattle.define_rows.specs.Solutions.{numerator_over}
use Rattle.define_rows.specs.Settled.{was_unsettled, is_settled}
use Rattle.define_rows.specs.Levels.{count_of, count_over, class_levels, AllSettled, HasLevels}
use Rattle.define_rows.proofs.CoefficientLaws.{coefficient-Slack}
use Rattle.define_rows.proofs.Linear.{value, unit-same, unit-other, dot-picks}
use Rattle.define_rows.proofs.SumLaws.{get_or-sizes_where}
use Rattle.define_rows.proofs.Entered.{place_of, is_same-true}
use Rattle.define_rows.proofs.Totals.{total, total-same, total-scaled, amount}
use Rattle.define_rows.proofs.Solutions.{StandsAt, is_same_refl, stands-at, stands-value, stands-positive, solution-each, each-solution, found-basic}
use Rattle.define_rows.proofs.Satisfied.{numerator-over, only, only-none, only-picks, in_row, satisfied, by-variable, solution-total, known-basic, solution-whole}

-- the product f 0 * .. * f (n - 1)
product_to : ℕ → (ℕ → ℕ) → ℕ
product_to zero f = 1
product_to (suc n) f = f 0 * product_to n (λ k. f (suc k))

product-positive : (n : ℕ) (f : ℕ → ℕ) → ((k : ℕ) → k < n → 0 < f k) → 0 < product_to n f
unfolding product_to
product-positive zero f h = omega arith
product-positive (suc n) f h = mul-pos (h 0 (omega arith)) (product-positive n (λ k. f (suc k)) (λ k l. h (suc k) (omega arith)))

factor-divides : (n : ℕ) (f : ℕ → ℕ) (k : ℕ) → k < n → f k ∣ product_to n f
unfolding product_to
factor-divides zero f k l = absurd (omega arith)
factor-divides (suc n) f zero l = dvd-mul_right (f 0) (product_to n (λ k. f (suc k)))
factor-divides (suc n) f (suc k) l = dvd_trans (f (suc k)) (factor-divides n (λ k. f (suc k)) k (omega arith)) (dvd-mul_left (product_to n (λ k. f (suc k))) (f 0))

-- the sum of differences is the difference of the sums
total-sub : (n : ℕ) (f g : ℕ → ℤ) → total n (λ k. f k -ℤ g k) ≡ total n f -ℤ total n g
total-sub zero f g = refl
total-sub (suc n) f g = omega (arith, ints, total-sub n (λ k. f (suc k)) (λ k. g (suc k)))

ranged_from : (f : ℕ → ℕ) (a n : ℕ) (at : ℕ → ℕ) → ((k : ℕ) → at k ≡ a + k) → pos (sum_by f (range_with_len a n)) ≡ total n (λ k. pos (f (at k)))
ranged_from f a zero at e = refl
ranged_from f a (suc n) at e =
    let here : at 0 ≡ a = e 0 ∙ (let z : a + 0 ≡ a = omega arith in z) in
    let rest = ranged_from f (a + 1) n (λ k. at (suc k)) (λ k. e (suc k) ∙ (let z : a + suc k ≡ (a + 1) + k = omega arith in z)) in
    ap pos (sum_by-cons f a (range_with_len (a + 1) n)) ∙ ap₂ (λ y z. pos y +ℤ z) (ap f (sym here)) rest

-- the sum of f over the numbers below n is the `total` of f
ranged-total : (f : ℕ → ℕ) (n : ℕ) → pos (sum_by f (range_with_len 0 n)) ≡ total n (λ k. pos (f k))
ranged-total f n = ranged_from f 0 n (λ k. k) (λ k. let z : k ≡ 0 + k = omega arith in z)

only-same : (x : Var) (kind : ℕ → Var) (n : ℕ) (f g : ℕ → ℤ) → ((c : ℕ) → c < n → x ≡ kind c → f c ≡ g c) → only x kind n f ≡ only x kind n g
only-same x kind n f g h = total-same n (λ c. cond (is_same x (kind c)) (f c) (pos 0)) (λ c. cond (is_same x (kind c)) (g c) (pos 0)) (λ c l. by c l (is_same x (kind c)) refl)
  where
    by : (c : ℕ) → c < n → (b : Bool) → is_same x (kind c) ≡ b → cond b (f c) (pos 0) ≡ cond b (g c) (pos 0)
    by c l true e = h c l (is_same-true x (kind c) e)
    by c l false e = refl

-- if x times f z is y times g z for each z, then x times the sum of f is y times the sum of g
sums-same : {X : Type 0} (x y : ℕ) (f g : X → ℕ) (xs : List X) → AllByRecursion (λ z. x * f z ≡ y * g z) xs → x * sum_by f xs ≡ y * sum_by g xs
sums-same x y f g [] h = omega arith
sums-same x y f g (z ∷ zs) h =
    ap (λ n. x * n) (sum_by-cons f z zs) ∙ distributed x (f z) (sum_by f zs) ∙ ap₂ (λ m n. m + n) h.0 (sums-same x y f g zs h.1) ∙ sym (distributed y (g z) (sum_by g zs)) ∙ ap (λ n. y * n) (sym (sum_by-cons g z zs))
  where
    distributed : (k m n : ℕ) → k * (m + n) ≡ k * m + k * n
    distributed k m n = omega arith

stage_number : Var → ℕ
stage_number (Slack t) = t
stage_number (Stage r) = r
stage_number (Column c) = c

module _ (table : Table) (a : AllSettled table) where
  ones : Bool → ℕ
  ones b = cond b 1 0

  all_closed : length table.stages ≡ length table.closed
  unfolding ones
  all_closed = let n : length table.stages ≡ length table.closed + 0 = a.in_order.stage_count ∙ ap (λ b. length table.closed + cond b 1 0) a.shut in omega arith

  -- the absolute value of the coefficient of row i's basic variable in row i
  own : ℕ → ℕ
  own i = unsigned_abs (coefficient_at table i (basic_at table i))

  some_own : (i : ℕ) → i < length table.rows → 0 < own i
  unfolding own
  some_own i l = omega (arith, ints, a.in_order.basic_own i l)

  -- the scale: the product of `own i` over all rows
  the_scale : ℕ
  the_scale = product_to (length table.rows) own

  some_scale : 0 < the_scale
  unfolding the_scale
  some_scale = product-positive (length table.rows) own some_own

  -- the amount of row i's basic variable: the right side over `own i`, times the scale
  amount_of : ℕ → ℕ
  amount_of i = unsigned_abs (row_at table i).b * (the_scale / own i)

  amount-natural : (i : ℕ) → i < length table.rows → amount_of i * own i ≡ the_scale * unsigned_abs (row_at table i).b
  unfolding amount_of the_scale
  amount-natural i l =
      joined (unsigned_abs (row_at table i).b) (product_to (length table.rows) own / own i) (own i) (product_to (length table.rows) own) (mul-div_cancel' (own i) (factor-divides (length table.rows) own i l))
    where
      joined : (b q o s : ℕ) → o * q ≡ s → b * q * o ≡ s * b
      joined b q o s e = (let z : b * q * o ≡ o * q * b = omega arith in z) ∙ ap (λ n. n * b) e

  amount-own : (i : ℕ) → i < length table.rows → pos (amount_of i) *ℤ coefficient_at table i (basic_at table i) ≡ pos the_scale *ℤ (row_at table i).b
  unfolding own
  amount-own i l =
      ap (λ z. pos (amount_of i) *ℤ z) (as_natural (coefficient_at table i (basic_at table i)) (omega (arith, ints, a.in_order.basic_own i l)))
      ∙ ap pos (amount-natural i l) ∙ ap (λ z. pos the_scale *ℤ z) (sym (as_natural (row_at table i).b (a.in_order.sides i (record { b = pos 0; a = [] }) l)))

  amount-none : (i : ℕ) → i < length table.rows → int_lt (pos 0) (row_at table i).b ≡ false → amount_of i ≡ 0
  unfolding amount_of
  amount-none i l e =
      let none : unsigned_abs (row_at table i).b ≡ 0 = ap unsigned_abs (let z : (row_at table i).b ≡ pos 0 = omega (arith, ints, a.in_order.sides i (record { b = pos 0; a = [] }) l) in z) in
      ap (λ n. n * (the_scale / own i)) none ∙ (let z : 0 * (the_scale / own i) ≡ 0 = omega arith in z)

  -- the level of closed stage k times the scale: the amount of the stage's variable
  level_of : ℕ → ℕ
  level_of k = amount_of (slice_index table.closed k)

  amount_at : Option ℕ → ℕ
  amount_at None = 0
  amount_at (Some i) = amount_of i

  -- the value of column c times the scale: the amount of the column, 0 if it is not basic
  value_of_column : ℕ → ℕ
  value_of_column c = amount_at (basic_row table (Column c))

  value-basic : (i c : ℕ) → i < length table.rows → basic_at table i ≡ Column c → value_of_column c ≡ amount_of i
  unfolding value_of_column amount_at
  value-basic i c l e = ap amount_at (found-basic table a.in_order i (Column c) l e)

  level-is : (k : ℕ) → k < length table.closed → pos (level_of k) *ℤ coefficient_at table (slice_index table.closed k) (Stage k) ≡ pos the_scale *ℤ (row_at table (slice_index table.closed k)).b
  unfolding level_of
  level-is k l =
      ap (λ v. pos (amount_of (slice_index table.closed k)) *ℤ coefficient_at table (slice_index table.closed k) v) (sym (a.in_order.closed_basic k l))
      ∙ amount-own (slice_index table.closed k) (a.in_order.closed_known k 0 l)

  value-stands : (c : ℕ) (there : ColumnValue) → StandsAt table c there → value_of_column c * there.coefficient ≡ the_scale * there.side
  unfolding own
  value-stands c there s =
      ap₂ (λ x y. x * y) (value-basic s.row c s.in_rows s.basic) (s.coefficient_is ∙ ap (λ v. unsigned_abs (coefficient_at table s.row v)) (sym s.basic))
      ∙ amount-natural s.row s.in_rows ∙ ap (λ n. the_scale * n) (sym s.side_is)

  value-none : (c : ℕ) → All (λ there. there.column ≢ c) (solution table) → value_of_column c ≡ 0
  unfolding value_of_column amount_at
  value-none c none = by (basic_row table (Column c)) refl
    where
      by : (o : Option ℕ) → basic_row table (Column c) ≡ o → amount_at o ≡ 0
      by None e = refl
      by (Some i) e = test (int_lt (pos 0) (row_at table i).b) refl
        where
          place : (i < length table.basic) × (basic_at table i ≡ Column c)
          place = place_of table (Column c) i e

          in_rows : i < length table.rows
          in_rows = omega (arith, place.0, a.in_order.basic_count, a.in_order.row_count)

          there : ColumnValue
          there = record { column = c; side = unsigned_abs (row_at table i).b; coefficient = unsigned_abs (coefficient_at table i (Column c)) }

          test : (b : Bool) → int_lt (pos 0) (row_at table i).b ≡ b → amount_of i ≡ 0
          test false f = amount-none i in_rows f
          test true f =
              let given : value_of table c ≡ Some (record { column = c; side = unsigned_abs (row_at table i).b; coefficient = unsigned_abs (coefficient_at table i (Column c)) }) =
              ap (option_and_then (value_in table c)) e ∙ ap (λ b. cond b (Some (record { column = c; side = unsigned_abs (row_at table i).b; coefficient = unsigned_abs (coefficient_at table i (Column c)) })) None) f in
              let known : c < length table.columns = subst (IsKnown table) place.1 (known-basic table a.in_order i in_rows) in
              absurd (each-solution table a.in_order (λ there. there.column ≢ c) c (record { column = c; side = unsigned_abs (row_at table i).b; coefficient = unsigned_abs (coefficient_at table i (Column c)) }) none known given refl)

  module _ (t : ℕ) (l : t < length table.sizes) where
    -- the slack of a settled class is not basic, as it has a coefficient above 0 in a closed row
    not_slack : (i : ℕ) → i < length table.rows → basic_at table i ≢ Slack t
    not_slack i m e =
        let settled : is_settled table t ≡ true = all_pass table.settled t (a.settled ∙ sym a.in_order.settled_each) (omega (arith, a.in_order.settled_each)) in
        let by_stage = a.stages.settled_by_stage t settled in
        let k = by_stage.0 in
        let s = by_stage.1 in
        let j = slice_index table.closed k in
        let known : j < length table.rows = a.in_order.closed_known k 0 s.closed in
        let apart : j ≢ i = λ f. let same : Slack t ≡ Stage k = sym e ∙ ap (basic_at table) (sym f) ∙ a.in_order.closed_basic k s.closed in absurd cc in
        let zero : coefficient_at table j (Slack t) ≡ pos 0 = ap (coefficient_at table j) (sym e) ∙ a.in_order.basic_others j i known m apart in
        let above = s.above in
        omega (arith, ints, zero, coefficient-Slack table (row_at table j) t)

    -- the weight of stage r for class t: the class's size if it was unsettled when the stage was entered, else 0
    weight : ℕ → ℕ
    weight r = cond (was_unsettled table r t) (slice_index table.sizes t) 0

    count : ℕ → ℕ
    count c = count_in table.columns c t

    -- in the unit row of class t, the variable of stage r has the coefficient `weight r`
    at_stage : (r : ℕ) → r < length table.stages → value table (Stage r) (unit (suc t)) ≡ pos (weight r)
    unfolding weight
    at_stage r m =
        dot-picks (sizes_where (get_or table.stages r []) table.sizes) t (λ k. unit (suc t) (suc k)) (λ k e. unit-same (suc t) (suc k) (ap suc e)) (λ k n. unit-other (suc t) (suc k) (λ e. n (omega (arith, e))))
        ∙ ap pos (get_or-sizes_where (get_or table.stages r []) table.sizes t (a.in_order.stage_each r [] m))

    -- in the unit row of class t, column c has the coefficient `-(count c)`
    at_column : (c : ℕ) → value table (Column c) (unit (suc t)) ≡ pos 0 -ℤ pos (count c)
    unfolding count
    at_column c =
        ap₂ (λ y z. y -ℤ z) (unit-other (suc t) 0 (λ e. omega (arith, e)))
        (dot-picks (get_or table.columns c []) t (λ k. unit (suc t) (suc k)) (λ k e. unit-same (suc t) (suc k) (ap suc e)) (λ k n. unit-other (suc t) (suc k) (λ e. n (omega (arith, e)))))

    -- row i's term of stages in the equation of class t: `weight r` times row i's amount if its basic variable is that of stage r, else 0
    stage_terms : ℕ → ℤ
    stage_terms i = only (basic_at table i) Stage (length table.stages) (λ r. pos (weight r) *ℤ pos (amount_of i))

    -- row i's term of columns in the equation of class t: `count c` times row i's amount if its basic variable is column c, else 0
    column_terms : ℕ → ℤ
    column_terms i = only (basic_at table i) Column (length table.columns) (λ c. pos (count c) *ℤ pos (amount_of i))

    term : (x : Var) (y : ℤ) → IsKnown table x → x ≢ Slack t →
        value table x (unit (suc t)) *ℤ y ≡ only x Stage (length table.stages) (λ r. pos (weight r) *ℤ y) -ℤ only x Column (length table.columns) (λ c. pos (count c) *ℤ y)
    unfolding stage_number
    term (Slack u) y known n =
        let other : value table (Slack u) (unit (suc t)) ≡ pos 0 = unit-other (suc t) (suc u) (λ e. n (let same : u ≡ t = omega (arith, e) in ap Slack same)) in
        let left : value table (Slack u) (unit (suc t)) *ℤ y ≡ pos 0 = ap (λ z. z *ℤ y) other ∙ mul_comm (pos 0) y ∙ mul-zero y in
        let one = only-none (Slack u) Stage (length table.stages) (λ r. pos (weight r) *ℤ y) (λ r. refl) in
        let two = only-none (Slack u) Column (length table.columns) (λ c. pos (count c) *ℤ y) (λ c. refl) in
        left ∙ sym (ap₂ (λ p q. p -ℤ q) one two)
    term (Stage r) y known n =
        let one = only-picks (Stage r) Stage (length table.stages) r (λ r. pos (weight r) *ℤ y) known (is_same_refl (Stage r)) (λ k e. sym (ap stage_number e)) in
        let two = only-none (Stage r) Column (length table.columns) (λ c. pos (count c) *ℤ y) (λ c. refl) in
        ap (λ z. z *ℤ y) (at_stage r known) ∙ less_none (pos (weight r) *ℤ y) ∙ sym (ap₂ (λ p q. p -ℤ q) one two)
      where
        less_none : (z : ℤ) → z ≡ z -ℤ pos 0
        less_none z = omega (arith, ints)
    term (Column c) y known n =
        let one = only-none (Column c) Stage (length table.stages) (λ r. pos (weight r) *ℤ y) (λ r. refl) in
        let two = only-picks (Column c) Column (length table.columns) c (λ c. pos (count c) *ℤ y) known (is_same_refl (Column c)) (λ k e. sym (ap stage_number e)) in
        ap (λ z. z *ℤ y) (at_column c) ∙ less (pos (count c)) ∙ sym (ap₂ (λ p q. p -ℤ q) one two)
      where
        less : (z : ℤ) → (pos 0 -ℤ z) *ℤ y ≡ pos 0 -ℤ z *ℤ y
        less z = ap (λ w. w *ℤ y) (minus z) ∙ neg-mul z y ∙ sym (minus (z *ℤ y))
          where
            minus : (w : ℤ) → pos 0 -ℤ w ≡ neg_ℤ w
            minus w = omega (arith, ints)

    -- the terms of the stages have the same sum as the terms of the columns
    balanced : total (length table.rows) stage_terms ≡ total (length table.rows) column_terms
    unfolding stage_terms column_terms
    balanced =
        let zero : total (length table.rows) (λ i. stage_terms i -ℤ column_terms i) ≡ pos 0 =
        total-same (length table.rows) (λ i. stage_terms i -ℤ column_terms i) (λ i. value table (basic_at table i) (unit (suc t)) *ℤ pos (amount_of i))
        (λ i m. sym (term (basic_at table i) (pos (amount_of i)) (known-basic table a.in_order i m) (not_slack i m)))
        ∙ satisfied table a.in_order (suc t) (omega arith) (pos the_scale) (λ i. pos (amount_of i)) (λ i m. ap (λ z. value table (basic_at table i) (unit (suc t)) *ℤ z) (amount-own i m))
        ∙ ap (λ z. pos the_scale *ℤ z) (unit-other (suc t) 0 (λ e. omega (arith, e))) ∙ mul-zero (pos the_scale) in
        let apart = total-sub (length table.rows) stage_terms column_terms in
        omega (arith, ints, zero, apart)

    -- the terms of the stages sum to the class's size times the sum of its levels
    stages_total : total (length table.rows) stage_terms ≡ pos (slice_index table.sizes t * class_levels table level_of t)
    unfolding stage_terms level_of weight
    stages_total =
        by-variable table a.in_order Stage (length table.stages) (λ i r. pos (weight r) *ℤ pos (amount_of i))
        ∙ total-same (length table.stages) (λ r. in_row (basic_row table (Stage r)) (λ i. pos (weight r) *ℤ pos (amount_of i))) (λ r. pos (slice_index table.sizes t) *ℤ pos (cond (was_unsettled table r t) (level_of r) 0))
        (λ r m. ap (λ o. in_row o (λ i. pos (weight r) *ℤ pos (amount_of i))) (found r (omega (arith, all_closed))) ∙ weighed (was_unsettled table r t) (slice_index table.sizes t) (level_of r))
        ∙ total-scaled (length table.stages) (pos (slice_index table.sizes t)) (λ r. pos (cond (was_unsettled table r t) (level_of r) 0))
        ∙ ap (λ n. pos (slice_index table.sizes t) *ℤ total n (λ r. pos (cond (was_unsettled table r t) (level_of r) 0))) all_closed
        ∙ ap (λ z. pos (slice_index table.sizes t) *ℤ z) (sym (ranged-total (λ r. cond (was_unsettled table r t) (level_of r) 0) (length table.closed)))
      where
        found : (r : ℕ) → r < length table.closed → basic_row table (Stage r) ≡ Some (slice_index table.closed r)
        found r m = found-basic table a.in_order (slice_index table.closed r) (Stage r) (a.in_order.closed_known r 0 m) (a.in_order.closed_basic r m)

        weighed : (b : Bool) (size level : ℕ) → pos (cond b size 0) *ℤ pos level ≡ pos size *ℤ pos (cond b level 0)
        weighed true size level = refl
        weighed false size level = mul_comm (pos 0) (pos level) ∙ mul-zero (pos level) ∙ sym (mul-zero (pos size))

    -- the terms of the columns sum to the class's count
    columns_total : total (length table.rows) column_terms ≡ pos (count_of table value_of_column t)
    unfolding column_terms count
    columns_total =
        total-same (length table.rows) column_terms (λ i. only (basic_at table i) Column (length table.columns) (λ c. amount product (value_in table c i)))
        (λ i m. only-same (basic_at table i) Column (length table.columns) (λ c. pos (count c) *ℤ pos (amount_of i)) (λ c. amount product (value_in table c i)) (λ c n e. same i c m e))
        ∙ sym (solution-total table a.in_order product)
      where
        product : ColumnValue → ℕ
        product there = value_of_column there.column * count_in table.columns there.column t

        same : (i c : ℕ) → i < length table.rows → basic_at table i ≡ Column c → pos (count c) *ℤ pos (amount_of i) ≡ amount product (value_in table c i)
        same i c m e = by (int_lt (pos 0) (row_at table i).b) refl
          where
            by : (b : Bool) → int_lt (pos 0) (row_at table i).b ≡ b →
                pos (count c) *ℤ pos (amount_of i) ≡ amount product (cond b (Some (record { column = c; side = unsigned_abs (row_at table i).b; coefficient = unsigned_abs (coefficient_at table i (Column c)) })) None)
            by true f = ap pos ((let z : count c * amount_of i ≡ amount_of i * count c = omega arith in z) ∙ ap (λ n. n * count c) (sym (value-basic i c m e)))
            by false f = ap (λ n. pos (count c) *ℤ pos n) (amount-none i m f) ∙ mul-zero (pos (count c))

    class-counts : count_of table value_of_column t ≡ slice_index table.sizes t * class_levels table level_of t
    class-counts = same_pos (count_of table value_of_column t) (slice_index table.sizes t * class_levels table level_of t) (sym columns_total ∙ sym balanced ∙ stages_total)

  -- if the column's denominator divides `common`, the scale times the numerator over `common` is `common` times `value_of_column`; here
  -- both sides are also multiplied by the column's count of class t
  numerator-same : (common c t : ℕ) (there : ColumnValue) → StandsAt table c there → (lowest_of there.side there.coefficient).den ∣ common →
      the_scale * (numerator_over common there * count_in table.columns there.column t) ≡ common * (value_of_column there.column * count_in table.columns there.column t)
  numerator-same common c t there s d =
      joined the_scale common (numerator_over common there) (value_of_column there.column) (count_in table.columns there.column t)
      (eq_of_mul-eq-mul_right there.coefficient (stands-positive table a.in_order c there s).1 (the_scale * numerator_over common there) (common * value_of_column there.column) scaled)
    where
      apart : (x y z : ℕ) → x * y * z ≡ x * (y * z)
      apart x y z = omega arith

      swapped : (x y z : ℕ) → x * (y * z) ≡ y * (x * z)
      swapped x y z = omega arith

      scaled : the_scale * numerator_over common there * there.coefficient ≡ common * value_of_column there.column * there.coefficient
      scaled =
          apart the_scale (numerator_over common there) there.coefficient ∙ ap (λ n. the_scale * n) (numerator-over common there d) ∙ swapped the_scale common there.side
          ∙ ap (λ n. common * n) (sym (ap (λ n. value_of_column n * there.coefficient) s.column_is ∙ value-stands c there s)) ∙ sym (apart common (value_of_column there.column) there.coefficient)

      joined : (x y m n k : ℕ) → x * m ≡ y * n → x * (m * k) ≡ y * (n * k)
      joined x y m n k e = sym (apart x m k) ∙ ap (λ z. z * k) e ∙ apart y n k

  counts-over : (common t : ℕ) → All (λ there. (lowest_of there.side there.coefficient).den ∣ common) (solution table) → t < length table.sizes →
      the_scale * count_over table common t ≡ common * (slice_index table.sizes t * class_levels table level_of t)
  counts-over common t all l =
      sums-same the_scale common (λ there. numerator_over common there * count_in table.columns there.column t) (λ there. value_of_column there.column * count_in table.columns there.column t) (solution table)
      (recursion_from_All (λ there. the_scale * (numerator_over common there * count_in table.columns there.column t) ≡ common * (value_of_column there.column * count_in table.columns there.column t)) (solution table)
      (solution-each table a.in_order (λ there. the_scale * (numerator_over common there * count_in table.columns there.column t) ≡ common * (value_of_column there.column * count_in table.columns there.column t))
      (λ c there m s. numerator-same common c t there s (each-solution table a.in_order (λ there. (lowest_of there.side there.coefficient).den ∣ common) c there all m (stands-value table a.in_order c there s)))))
      ∙ ap (λ n. common * n) (class-counts t l)

  pub settled-levels : HasLevels table
  settled-levels = record {
    scale = the_scale;
    some_scale = some_scale;
    level = level_of;
    level_is = level-is;
    value = value_of_column;
    value_is = solution-each table a.in_order (λ there. value_of_column there.column * there.coefficient ≡ the_scale * there.side)
        (λ c there l s. ap (λ n. value_of_column n * there.coefficient) s.column_is ∙ value-stands c there s);
    value_none = value-none;
    whole = solution-whole table a.in_order (λ there. value_of_column there.column) the_scale
        (λ c there l e. let s = stands-at table a.in_order c there e in ap (λ n. value_of_column n * there.coefficient) s.column_is ∙ value-stands c there s);
    counts = class-counts;
    counts_over = counts-over;
  }
