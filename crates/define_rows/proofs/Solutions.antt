-- What the values of the solution are, and that its columns are in rising order.
use Rattle.std.proofs.Common.{◌≡◌, ◌≢◌, ℕ, zero, suc, ◌+◌, ◌<◌, ◌≤◌, Bool, true, false, cond, length, Option, Some, None, ℤ, pos, ◌<ℤ◌, refl, sym, ap, ◌∙◌, subst, arith, inl, inr, ◌⊎◌}
use Rattle.std.specs.Prelude.{int_lt, unsigned_abs, filter_map}
use Rattle.std.specs.List.{All, AllPairs, AllByRecursion, range_with_len, cons_option}
use Rattle.std.specs.Option.{option_and_then}
use Rattle.std.proofs.lemmas.Int.{ints}
use Rattle.std.proofs.lemmas.Bool.{cases_eq, eq-eqb}
use Rattle.std.proofs.lemmas.List.Elements.{All-from_recursion, recursion_from_All}
use Rattle.std.proofs.lemmas.List.Kept.{AllPairs-cons}
use Rattle.define_pools.proofs.Integers.{tested-lt}
use Rattle.define_pools.proofs.Found.{position-None}
use Rattle.define_rows.specs.declared.Var.{Var}
use Rattle.define_rows.specs.declared.Var.TheVariants.{Slack, Stage, Column}
use Rattle.define_rows.specs.Table.{Table, coefficient_at, row_at, basic_at, is_same}
use Rattle.define_rows.specs.Choice.{basic_row}
use Rattle.define_rows.specs.Steps.{ColumnValue, value_in, value_of, solution}
use Rattle.define_rows.specs.InOrder.{IsInOrder}
use Rattle.define_rows.proofs.Entered.{place_of}

pub is_same_refl : (x : Var) → is_same x x ≡ true
is_same_refl (Slack t) = eq-eqb t t refl
is_same_refl (Stage r) = eq-eqb r r refl
is_same_refl (Column c) = eq-eqb c c refl

-- if Q holds of each value that g returns for a number of the range, it holds of each element of the filtered map
pub filtered-each : {X : Type 0} (Q : X → Type 0) (g : ℕ → Option X) (a n : ℕ) → ((k : ℕ) (x : X) → a ≤ k → k < a + n → g k ≡ Some x → Q x) → AllByRecursion Q (filter_map g (range_with_len a n))
filtered-each Q g a zero h = tt
filtered-each {X} Q g a (suc n) h = by (g a) refl (filtered-each Q g (a + 1) n (λ k x l m e. h k x (omega arith) (omega arith) e))
  where
    by : (o : Option X) → g a ≡ o → AllByRecursion Q (filter_map g (range_with_len (a + 1) n)) → AllByRecursion Q (cons_option o (filter_map g (range_with_len (a + 1) n)))
    by None e rest = rest
    by (Some x) e rest = (h a x (omega arith) (omega arith) e, rest)

-- if Q holds of each element of the filtered map, it holds of each value that g returns for a number of the range
pub each-filtered : {X : Type 0} (Q : X → Type 0) (g : ℕ → Option X) (a n k : ℕ) (x : X) → AllByRecursion Q (filter_map g (range_with_len a n)) → a ≤ k → k < a + n → g k ≡ Some x → Q x
each-filtered Q g a zero k x h l m e = absurd (omega arith)
each-filtered {X} Q g a (suc n) k x h l m e = by (g a) refl (cases_eq k a) h (λ o r. each-filtered Q g (a + 1) n k x r (omega arith) (omega arith) e)
  where
    by : (o : Option X) → g a ≡ o → (k ≡ a) ⊎ (k ≢ a) → AllByRecursion Q (cons_option o (filter_map g (range_with_len (a + 1) n))) → (k ≢ a → AllByRecursion Q (filter_map g (range_with_len (a + 1) n)) → Q x) → Q x
    by None f (inl s) h later = let none : g k ≡ None = ap g s ∙ f in absurd cc
    by None f (inr o) h later = later o h
    by (Some y) f (inl s) h later = let same : ◌≡◌ {A = Option X} (Some y) (Some x) = sym f ∙ ap g (sym s) ∙ e in (let z : y ≡ x = cc in subst Q z h.0)
    by (Some y) f (inr o) h later = later o h.1

-- if `number x` is k for each x that g returns for k, the filtered map of a range rises by `number`
filtered_rises : {X : Type 0} (number : X → ℕ) (g : ℕ → Option X) (a n : ℕ) → ((k : ℕ) (x : X) → g k ≡ Some x → number x ≡ k) → AllPairs (λ x y. number x < number y) (filter_map g (range_with_len a n))
filtered_rises number g a zero h = λ i j d l m. absurd (omega arith)
filtered_rises {X} number g a (suc n) h = by (g a) refl (filtered_rises number g (a + 1) n h)
  where
    by : (o : Option X) → g a ≡ o → AllPairs (λ x y. number x < number y) (filter_map g (range_with_len (a + 1) n)) → AllPairs (λ x y. number x < number y) (cons_option o (filter_map g (range_with_len (a + 1) n)))
    by None e rest = rest
    by (Some x) e rest =
        AllPairs-cons (λ x y. number x < number y) x (filter_map g (range_with_len (a + 1) n))
        (All-from_recursion (λ y. number x < number y) (filter_map g (range_with_len (a + 1) n)) (filtered-each (λ y. number x < number y) g (a + 1) n (λ k y l m f. omega (arith, h a x e, h k y f)))) rest

-- `there` is the value of column c, which is basic in a row whose right side is above 0
pub record StandsAt (table : Table) (c : ℕ) (there : ColumnValue) : Type 0 where
  pub row : ℕ
  pub found : basic_row table (Column c) ≡ Some row
  pub in_rows : row < length table.rows
  pub basic : basic_at table row ≡ Column c
  pub above : pos 0 <ℤ (row_at table row).b
  pub column_is : there.column ≡ c
  pub side_is : there.side ≡ unsigned_abs (row_at table row).b
  pub coefficient_is : there.coefficient ≡ unsigned_abs (coefficient_at table row (Column c))

module _ (table : Table) (h : IsInOrder table) where
  pub stands-at : (c : ℕ) (there : ColumnValue) → value_of table c ≡ Some there → StandsAt table c there
  stands-at c there e = by (basic_row table (Column c)) refl e
    where
      by : (o : Option ℕ) → basic_row table (Column c) ≡ o → option_and_then (value_in table c) o ≡ Some there → StandsAt table c there
      by None f k = absurd cc
      by (Some i) f k = test (int_lt (pos 0) (row_at table i).b) refl k
        where
          here : ColumnValue
          here = record { column = c; side = unsigned_abs (row_at table i).b; coefficient = unsigned_abs (coefficient_at table i (Column c)) }

          test : (b : Bool) → int_lt (pos 0) (row_at table i).b ≡ b →
              cond b (Some (record { column = c; side = unsigned_abs (row_at table i).b; coefficient = unsigned_abs (coefficient_at table i (Column c)) })) None ≡ Some there → StandsAt table c there
          test false g k = absurd cc
          test true g k =
              let place = place_of table (Column c) i f in
              let same : record { column = c; side = unsigned_abs (row_at table i).b; coefficient = unsigned_abs (coefficient_at table i (Column c)) } ≡ there = cc in
              record {
                row = i;
                found = f;
                in_rows = omega (arith, place.0, h.basic_count, h.row_count);
                basic = place.1;
                above = omega (arith, ints);
                column_is = sym (ap (λ v. v.column) same);
                side_is = sym (ap (λ v. v.side) same);
                coefficient_is = sym (ap (λ v. v.coefficient) same);
              }

  -- if `there` is the value of column c, which is basic in a row with a right side above 0, `value_of` returns `there`
  pub stands-value : (c : ℕ) (there : ColumnValue) → StandsAt table c there → value_of table c ≡ Some there
  stands-value c there s =
      ap (option_and_then (value_in table c)) s.found ∙ ap (λ b. cond b (Some (record { column = c; side = unsigned_abs (row_at table s.row).b; coefficient = unsigned_abs (coefficient_at table s.row (Column c)) })) None) (tested-lt (pos 0) (row_at table s.row).b s.above)
      ∙ ap Some (same c (unsigned_abs (row_at table s.row).b) (unsigned_abs (coefficient_at table s.row (Column c))) there s.column_is s.side_is s.coefficient_is)
    where
      same : (c s k : ℕ) (there : ColumnValue) → there.column ≡ c → there.side ≡ s → there.coefficient ≡ k → record { column = c; side = s; coefficient = k } ≡ there
      same c s k there e f g = λ i. record { column = sym e i; side = sym f i; coefficient = sym g i }

  -- if Q holds of the value of each column that is basic in a row with a right side above 0, it holds of each value in the solution
  pub solution-each : (Q : ColumnValue → Type 0) → ((c : ℕ) (there : ColumnValue) → c < length table.columns → StandsAt table c there → Q there) → All Q (solution table)
  unfolding solution
  solution-each Q each = All-from_recursion Q (solution table) (filtered-each Q (value_of table) 0 (length table.columns) (λ k x l m e. each k x (omega arith) (stands-at k x e)))

  -- if Q holds of each value in the solution, it holds of the value of each column that has one
  pub each-solution : (Q : ColumnValue → Type 0) (c : ℕ) (there : ColumnValue) → All Q (solution table) → c < length table.columns → value_of table c ≡ Some there → Q there
  unfolding solution
  each-solution Q c there all l e = each-filtered Q (value_of table) 0 (length table.columns) c there (recursion_from_All Q (solution table) all) (omega arith) (omega arith) e

  pub solution-rises : AllPairs (λ a b. a.column < b.column) (solution table)
  unfolding solution
  solution-rises = filtered_rises (λ v. v.column) (value_of table) 0 (length table.columns) (λ k x e. (stands-at k x e).column_is)

  -- the right side and the coefficient of a column's value are above 0
  pub stands-positive : (c : ℕ) (there : ColumnValue) → StandsAt table c there → (0 < there.side) × (0 < there.coefficient)
  stands-positive c there s =
      let own : pos 0 <ℤ coefficient_at table s.row (Column c) = subst (λ x. pos 0 <ℤ coefficient_at table s.row x) s.basic (h.basic_own s.row s.in_rows) in
      (above_abs (row_at table s.row).b there.side s.above s.side_is, above_abs (coefficient_at table s.row (Column c)) there.coefficient own s.coefficient_is)
    where
      above_abs : (z : ℤ) (n : ℕ) → pos 0 <ℤ z → n ≡ unsigned_abs z → 0 < n
      above_abs z n l e = omega (arith, ints)

  -- if v is basic in row i, `basic_row` finds row i
  pub found-basic : (i : ℕ) (v : Var) → i < length table.rows → basic_at table i ≡ v → basic_row table v ≡ Some i
  found-basic i v l e = by (basic_row table v) refl
    where
      by : (o : Option ℕ) → basic_row table v ≡ o → basic_row table v ≡ Some i
      by None f =
          let fails = position-None (λ x. is_same x v) table.basic i (Slack (length table.sizes)) f (omega (arith, h.basic_count, h.row_count)) in
          let passes : is_same (basic_at table i) v ≡ true = ap (λ x. is_same x v) e ∙ is_same_refl v in absurd cc
      by (Some j) f =
          let place = place_of table v j f in
          f ∙ ap Some (h.basic_different j i (omega (arith, place.0, h.basic_count, h.row_count)) l (place.1 ∙ sym e))
