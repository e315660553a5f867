-- The first table is in order (`IsInOrder`).
use Rattle.std.proofs.Common.{◌≡◌, ◌≢◌, ℕ, zero, suc, ◌+◌, ◌^◌, ◌<◌, ◌≤◌, false, List, [], ◌∷◌, length, map, get_or, set, replicate, Ok, ℤ, pos, ◌+ℤ◌, ◌*ℤ◌, neg_ℤ, ◌≤ℤ◌, ◌<ℤ◌, refl, sym, ap, ap₂, ◌∙◌, subst, arith, ⊎_elim, length-set}
use Rattle.std.specs.Prelude.{unsigned_abs, slice_index, sum}
use Rattle.std.specs.Int.{◌∣◌}
use Rattle.std.specs.List.{All, AllByRecursion, range_with_len, enumerate_from}
use Rattle.std.proofs.lemmas.Int.{ints}
use Rattle.std.proofs.lemmas.Bool.{cases_eq, cases_lt}
use Rattle.std.proofs.lemmas.List.{get_or-map, get_or-set_same, get_or-set_other, get_or-replicate, get_or_past, length-map, length-replicate}
use Rattle.std.proofs.lemmas.List.Elements.{All-set, All-replicate, recursion_from_All, All-cons, All-nil, All-from_get_or}
use Rattle.std.proofs.lemmas.List.Sums.{sum_by-cons}
use Rattle.std.proofs.lemmas.List.FromFn.{length-range_with_len, get_or-range_with_len}
use Rattle.std.proofs.lemmas.Nat.Gcd.{dvd_antisymm, dvd_of_mod-eq-zero}
use Rattle.define_pools.proofs.Lists.{length-enumerate_from, get_or-enumerate_from}
use Rattle.define_pools.proofs.Integers.{mul_comm, neg-mul, mul-zero, one-mul}
use Rattle.frac128.specs.Divisors.{gcd_of_list}
use Rattle.frac128.proofs.DivisorLaws.{gcd_of_list-divides}
use Rattle.define_rows.specs.declared.Var.TheVariants.{Slack, Column}
use Rattle.define_rows.specs.Row.{Row, numbers, common_divisor, reach}
use Rattle.define_rows.specs.Table.{Table, coefficient, coefficient_at, basic_at}
use Rattle.define_rows.specs.Width.{width_limit, all_in_turn, reach_operations}
use Rattle.define_rows.specs.Pivot.{total_row, class_row, first_rows, first_table, start}
use Rattle.define_rows.specs.InOrder.{number_at, unit, IsSpanned, IsKnown, IsInOrder}
use Rattle.define_rows.proofs.CoefficientLaws.{coefficient-Slack}
use Rattle.define_rows.proofs.Linear.{coefficient-value, dot-picks, dot-none, unit-same, unit-other}
use Rattle.define_rows.proofs.PivotLaws.{after-Ok_parts, all_in_turn-each}
use Rattle.define_rows.proofs.Eliminations.{reach-within}
use Rattle.define_rows.proofs.Spans.{span-member, span-same, span-two}

-- a list that contains 1 has the greatest common divisor 1
one_divides : (ns : List ℕ) (k : ℕ) → k < length ns → get_or ns k 0 ≡ 1 → gcd_of_list ns ≡ 1
one_divides ns k l e = dvd_antisymm (subst (λ n. gcd_of_list ns ∣ n) e (gcd_of_list-divides ns k 0 l)) (dvd_of_mod-eq-zero 1 (omega arith))

row_divisor_one : (row : Row) (k : ℕ) → k < length (numbers row) → number_at row k ≡ pos 1 → common_divisor row ≡ 1
row_divisor_one row k l e = one_divides (map unsigned_abs (numbers row)) k (omega (arith, length-map (numbers row) unsigned_abs)) (get_or-map unsigned_abs (numbers row) k (pos 0) 0 l ∙ ap unsigned_abs e)

element_le_sum : (xs : List ℕ) (t : ℕ) → get_or xs t 0 ≤ sum xs
element_le_sum [] t = omega arith
element_le_sum (x ∷ xs) zero = omega (arith, sum_by-cons (λ x. x) x xs)
element_le_sum (x ∷ xs) (suc t) = omega (arith, sum_by-cons (λ x. x) x xs, element_le_sum xs t)

length_le : (xs : List ℕ) → AllByRecursion (λ x. 1 ≤ x) xs → length xs ≤ sum xs
length_le [] h = omega arith
length_le (x ∷ xs) h = omega (arith, sum_by-cons (λ x. x) x xs, length_le xs h.1, h.0)

-- if each element is at least 1, the list is no longer than the sum of its elements
pub length-le-sum : (xs : List ℕ) → All (λ x. 1 ≤ x) xs → length xs ≤ sum xs
length-le-sum xs h = length_le xs (recursion_from_All (λ x. 1 ≤ x) xs h)

module _ (sizes first : List ℕ) (bits : ℕ) (some : 0 < length sizes) (each : All (λ size. 1 ≤ size) sizes) (few : sum sizes ≤ 4000) (long : length first ≡ length sizes)
    (bound : (t : ℕ) → t < length sizes → slice_index first t ≤ slice_index sizes t) (some_bits : 1 ≤ bits) (few_bits : bits ≤ 127) where
  table : Table
  table = first_table sizes first bits

  m : ℕ
  m = length first

  -- row t + 1 of the first table is the row of class t
  row_of_class : (t : ℕ) → t < length first → get_or (first_rows first) (suc t) (record { b = pos 0; a = [] }) ≡ class_row (length first) (t, get_or first t 0)
  row_of_class t l =
      get_or-map (class_row (length first)) (enumerate_from 0 first) t (0, 0) (record { b = pos 0; a = [] }) (omega (arith, length-enumerate_from 0 first))
      ∙ ap (class_row (length first)) (get_or-enumerate_from 0 first t (0, 0) 0 l ∙ (let e : 0 + t ≡ t = omega arith in ap (λ n. let p : ℕ × ℕ = (n, get_or first t 0) in p) e))

  rows_long : length (first_rows first) ≡ suc (length first)
  rows_long = ap suc (length-map (enumerate_from 0 first) (class_row (length first)) ∙ length-enumerate_from 0 first)

  -- the total row has the numbers of the unit row of place 0
  total_at : (l : ℕ) → number_at (total_row (length first)) l ≡ unit 0 l
  total_at zero = sym (unit-same 0 0 refl)
  total_at (suc t) = ⊎_elim (λ l. get_or-replicate (length first) t (pos 0) (pos 0) l) (λ l. get_or_past (replicate (length first) (pos 0)) t (pos 0) (omega (arith, length-replicate (length first) (pos 0)))) (cases_lt t (length first)) ∙ sym (unit-other 0 (suc t) (λ e. omega (arith, e)))

  class_entry : (t u : ℕ) → t < length first → get_or (set (replicate (length first) (pos 0)) t (pos 1)) u (pos 0) ≡ unit (suc t) (suc u)
  class_entry t u l = ⊎_elim here there (cases_eq u t)
    where
      here : u ≡ t → get_or (set (replicate (length first) (pos 0)) t (pos 1)) u (pos 0) ≡ unit (suc t) (suc u)
      here e =
          ap (λ k. get_or (set (replicate (length first) (pos 0)) t (pos 1)) k (pos 0)) e
          ∙ get_or-set_same (replicate (length first) (pos 0)) t (pos 1) (pos 0) (omega (arith, length-replicate (length first) (pos 0))) ∙ sym (unit-same (suc t) (suc u) (ap suc e))

      there : u ≢ t → get_or (set (replicate (length first) (pos 0)) t (pos 1)) u (pos 0) ≡ unit (suc t) (suc u)
      there n =
          get_or-set_other (replicate (length first) (pos 0)) t u (pos 1) (pos 0) n
          ∙ ⊎_elim (λ k. get_or-replicate (length first) u (pos 0) (pos 0) k) (λ k. get_or_past (replicate (length first) (pos 0)) u (pos 0) (omega (arith, length-replicate (length first) (pos 0)))) (cases_lt u (length first))
          ∙ sym (unit-other (suc t) (suc u) (λ e. n (omega (arith, e))))

  class_at : (t l : ℕ) → t < length first → number_at (class_row (length first) (t, get_or first t 0)) l ≡ pos (get_or first t 0) *ℤ unit 0 l +ℤ pos 1 *ℤ unit (suc t) l
  class_at t zero k = omega (arith, ints, ap (λ z. pos (get_or first t 0) *ℤ z) (unit-same 0 0 refl), mul_comm (pos (get_or first t 0)) (pos 1), one-mul (pos (get_or first t 0)), ap (λ z. pos 1 *ℤ z) (unit-other (suc t) 0 (λ e. omega (arith, e))), mul-zero (pos 1))
  class_at t (suc u) k =
      class_entry t u k
      ∙ omega (arith, ints, ap (λ z. pos (get_or first t 0) *ℤ z) (unit-other 0 (suc u) (λ e. omega (arith, e))), mul-zero (pos (get_or first t 0)), one-mul (unit (suc t) (suc u)))

  -- in the total row, each slack has the coefficient 0
  slack_total : (t : ℕ) → coefficient table (total_row (length first)) (Slack t) ≡ pos 0
  slack_total t = coefficient-Slack table (total_row (length first)) t ∙ total_at (suc t) ∙ unit-other 0 (suc t) (λ e. omega (arith, e))

  -- in the total row, column 0 has the coefficient 1
  column_total : coefficient table (total_row (length first)) (Column 0) ≡ pos 1
  unfolding table
  column_total =
      coefficient-value (first_table sizes first bits) (total_row (length first)) (Column 0)
      ∙ omega (arith, ints, dot-none first (λ t. number_at (total_row (length first)) (suc t)) (λ t. total_at (suc t) ∙ unit-other 0 (suc t) (λ e. omega (arith, e))))

  -- in the row of class t, slack u has the coefficient 1 if u is t, else 0
  slack_class : (t u : ℕ) → t < length first → coefficient table (class_row (length first) (t, get_or first t 0)) (Slack u) ≡ unit (suc t) (suc u)
  slack_class t u l = coefficient-Slack table (class_row (length first) (t, get_or first t 0)) u ∙ class_entry t u l

  -- in the row of class t, column 0 has the coefficient 0
  column_class : (t : ℕ) → t < length first → coefficient table (class_row (length first) (t, get_or first t 0)) (Column 0) ≡ pos 0
  unfolding table
  column_class t l =
      coefficient-value (first_table sizes first bits) (class_row (length first) (t, get_or first t 0)) (Column 0)
      ∙ omega (
        arith,
        ints,
        dot-picks first t (λ u. number_at (class_row (length first) (t, get_or first t 0)) (suc u))
            (λ u e. class_entry t u l ∙ unit-same (suc t) (suc u) (ap suc e)) (λ u n. class_entry t u l ∙ unit-other (suc t) (suc u) (λ e. n (omega (arith, e)))),
      )

  classes : (t : ℕ) → suc t < length (first_rows first) → t < length first
  classes t l = omega (arith, rows_long)

  basic_slack : (t : ℕ) → t < length sizes → get_or (map Slack (range_with_len 0 (length sizes))) t (Slack (length sizes)) ≡ Slack t
  basic_slack t l =
      get_or-map Slack (range_with_len 0 (length sizes)) t 0 (Slack (length sizes)) (omega (arith, length-range_with_len 0 (length sizes)))
      ∙ ap Slack (get_or-range_with_len 0 (length sizes) t 0 l ∙ (let e : 0 + t ≡ t = omega arith in e))

  own : (i : ℕ) → i < length (first_rows first) → pos 0 <ℤ coefficient_at table i (basic_at table i)
  unfolding table
  own zero l = omega (arith, ints, column_total)
  own (suc t) l =
      let k = classes t l in
      let row = row_of_class t k in
      let same : coefficient_at (first_table sizes first bits) (suc t) (basic_at (first_table sizes first bits) (suc t)) ≡ pos 1 =
      ap₂ (coefficient (first_table sizes first bits)) row (basic_slack t (omega arith)) ∙ slack_class t t k ∙ unit-same (suc t) (suc t) refl in
      subst (λ z. pos 0 <ℤ z) (sym same) (omega (arith, ints))

  others : (i j : ℕ) → i < length (first_rows first) → j < length (first_rows first) → i ≢ j → coefficient_at table i (basic_at table j) ≡ pos 0
  unfolding table
  others zero zero l k n = absurd (n refl)
  others zero (suc u) l k n = ap (coefficient (first_table sizes first bits) (total_row (length first))) (basic_slack u (omega (arith, classes u k))) ∙ slack_total u
  others (suc t) zero l k n = ap (λ row. coefficient (first_table sizes first bits) row (Column 0)) (row_of_class t (classes t l)) ∙ column_class t (classes t l)
  others (suc t) (suc u) l k n =
      ap₂ (coefficient (first_table sizes first bits)) (row_of_class t (classes t l)) (basic_slack u (omega (arith, classes u k))) ∙ slack_class t u (classes t l)
      ∙ unit-other (suc t) (suc u) (λ e. n (sym e))

  all_rows : (P : Row → Type 0) → P (total_row (length first)) → ((t : ℕ) → t < length first → P (class_row (length first) (t, get_or first t 0))) → All P (first_rows first)
  all_rows P zero_holds class_holds = All-from_get_or P (first_rows first) (record { b = pos 0; a = [] }) by
    where
      by : (i : ℕ) → i < length (first_rows first) → P (get_or (first_rows first) i (record { b = pos 0; a = [] }))
      by zero l = zero_holds
      by (suc t) l = subst P (sym (row_of_class t (classes t l))) (class_holds t (classes t l))

  spans_total : IsSpanned (first_rows first) (unit 0)
  spans_total =
      span-same (first_rows first) (number_at (get_or (first_rows first) 0 (record { b = pos 0; a = [] }))) (unit 0) total_at
      (span-member (first_rows first) 0 (record { b = pos 0; a = [] }) (omega (arith, rows_long)))

  spans : (place : ℕ) → place ≤ length sizes → IsSpanned (first_rows first) (unit place)
  spans zero l = spans_total
  spans (suc t) l =
      let k : t < length first = omega arith in
      let count = pos (get_or first t 0) in
      let row = number_at (class_row (length first) (t, get_or first t 0)) in
      span-same (first_rows first) (λ q. pos 1 *ℤ row q +ℤ neg_ℤ count *ℤ unit 0 q) (unit (suc t))
      (λ q. omega (arith, ints, one-mul (row q), class_at t q k, neg-mul count (unit 0 q), one-mul (unit (suc t) q)))
      (span-two (first_rows first) (pos 1) (neg_ℤ count) row (unit 0)
      (subst (λ r. IsSpanned (first_rows first) (number_at r)) (row_of_class t k) (span-member (first_rows first) (suc t) (record { b = pos 0; a = [] }) (omega (arith, rows_long))))
      spans_total)

  -- each row of the first table has an entry for each class
  pub first_entries : All (λ row. length row.a ≡ length sizes) (first_rows first)
  first_entries = all_rows (λ row. length row.a ≡ length sizes) (length-replicate (length first) (pos 0) ∙ long) (λ t l. length-set (replicate (length first) (pos 0)) t (pos 1) ∙ length-replicate (length first) (pos 0) ∙ long)

  pub first_sides : All (λ row. unsigned_abs row.b < 2 ^ 127) (first_rows first)
  first_sides = all_rows (λ row. unsigned_abs row.b < 2 ^ 127) (omega arith)
      (λ t l. let b : get_or first t 0 ≤ get_or sizes t 0 = bound t (omega arith) in omega (arith, b, element_le_sum sizes t))

  pub first_small : All (λ row. All (λ x. unsigned_abs x < 2 ^ 127) row.a) (first_rows first)
  first_small = all_rows (λ row. All (λ x. unsigned_abs x < 2 ^ 127) row.a) (zeros (length first))
      (λ t l. All-set (λ x. unsigned_abs x < 2 ^ 127) (replicate (length first) (pos 0)) t (pos 1) (omega arith) (zeros (length first)))
    where
      zeros : (n : ℕ) → All (λ x. unsigned_abs x < 2 ^ 127) (replicate n (pos 0))
      zeros n = All-replicate (λ x. unsigned_abs x < 2 ^ 127) n (pos 0) (omega arith)

  pub started : (reaches : List ℤ) → all_in_turn (reach_operations (width_limit bits) sizes) 0 (first_rows first) ≡ Ok reaches → IsInOrder (first_table sizes first bits)
  unfolding table
  started reaches e = record {
    some_class = some;
    sizes = each;
    few = few;
    some_bits = some_bits;
    few_bits = few_bits;
    row_count = omega (arith, rows_long);
    basic_count = omega (arith, length-map (range_with_len 0 (length sizes)) Slack, length-range_with_len 0 (length sizes));
    entry_count = entry_counts;
    divisor_one = all_rows (λ row. common_divisor row ≡ 1) (row_divisor_one (total_row (length first)) 0 (omega arith) refl)
        (λ t l. row_divisor_one (class_row (length first) (t, get_or first t 0)) (suc t) (omega (arith, length-set (replicate (length first) (pos 0)) t (pos 1), length-replicate (length first) (pos 0)))
        (class_entry t t l ∙ unit-same (suc t) (suc t) refl));
    within_width = All-from_get_or (λ row. reach sizes row ≤ width_limit bits) (first_rows first) (record { b = pos 0; a = [] })
        (λ i l. reach-within (width_limit bits) (0 + i) sizes (get_or (first_rows first) i (record { b = pos 0; a = [] })) (get_or reaches i (pos 0)) some (entry_counts i (record { b = pos 0; a = [] }) l)
        (all_in_turn-each (reach_operations (width_limit bits) sizes) 0 (first_rows first) reaches i (record { b = pos 0; a = [] }) (pos 0) e l));
    sides = all_rows (λ row. pos 0 ≤ℤ row.b) (omega (arith, ints)) (λ t l. omega (arith, ints));
    basic_known = All-from_get_or (IsKnown (first_table sizes first bits)) (Column 0 ∷ map Slack (range_with_len 0 (length sizes))) (Slack (length sizes)) knowns;
    basic_different = λ i j l k s. ⊎_elim (λ q. q) (λ n. absurd (omega (arith, ints, own i l, others i j l k n, ap (coefficient_at (first_table sizes first bits) i) s))) (cases_eq i j);
    basic_own = own;
    basic_others = others;
    units = spans;
    columns_different = λ c d l k. absurd (omega arith);
    count_each = All-cons (λ counts. length counts ≡ length sizes) first [] long (All-nil (λ counts. length counts ≡ length sizes));
    count_bound = bounds;
    settled_each = length-replicate (length sizes) false;
    stage_each = All-nil (λ marks. length marks ≡ length sizes);
    stage_count = refl;
    closed_known = All-nil (λ i. i < length (first_rows first));
    closed_basic = λ k l. absurd (omega arith);
    closed_entries = λ k t l u. absurd (omega arith);
    closed_few = omega arith;
    open_unsettled = λ f. absurd cc;
    open_same = λ f. absurd cc;
  }
    where
      entry_counts : All (λ row. length row.a ≡ length sizes) (first_rows first)
      entry_counts = all_rows (λ row. length row.a ≡ length sizes) (length-replicate (length first) (pos 0) ∙ long) (λ t l. length-set (replicate (length first) (pos 0)) t (pos 1) ∙ length-replicate (length first) (pos 0) ∙ long)

      knowns : (i : ℕ) → i < length (Column 0 ∷ map Slack (range_with_len 0 (length sizes))) → IsKnown (first_table sizes first bits) (get_or (Column 0 ∷ map Slack (range_with_len 0 (length sizes))) i (Slack (length sizes)))
      knowns zero l = omega arith
      knowns (suc t) l =
          let k : t < length sizes = omega (arith, length-map (range_with_len 0 (length sizes)) Slack, length-range_with_len 0 (length sizes)) in subst (IsKnown (first_table sizes first bits)) (sym (basic_slack t k)) k

      bounds : (c t : ℕ) → c < length (first ∷ []) → t < length sizes → slice_index (get_or (first ∷ []) c []) t ≤ slice_index sizes t
      bounds zero t l k = bound t k
      bounds (suc c) t l k = absurd (omega arith)

  pub start-keeps : (made : Table) → start sizes first bits ≡ Ok made → IsInOrder made
  unfolding start
  start-keeps made e =
      let parts = after-Ok_parts (all_in_turn (reach_operations (width_limit bits) sizes) 0 (first_rows first)) (λ reaches. Ok (first_table sizes first bits)) made e in
      let same : ◌≡◌ {A = Table} (first_table sizes first bits) made = cc in subst IsInOrder same (started parts.0 parts.1)
