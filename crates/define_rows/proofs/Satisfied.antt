-- The amounts of the basic variables satisfy the equation of each unit row. So the values of the solution sum to one.
use Rattle.std.proofs.Common.{◌≡◌, ◌≢◌, ℕ, zero, suc, ◌*◌, ◌/◌, ◌<◌, ◌≤◌, Bool, true, false, cond, [], length, get_or, Option, Some, None, ℤ, pos, negsuc, ◌*ℤ◌, ◌<ℤ◌, refl, sym, ap, ap₂, ◌∙◌, subst, arith}
use Rattle.std.specs.Prelude.{int_lt, unsigned_abs, sum_by}
use Rattle.std.specs.Int.{◌∣◌}
use Rattle.std.specs.List.{All}
use Rattle.std.specs.Option.{option_and_then}
use Rattle.std.proofs.Math.Nat.{mul-div_cancel'}
use Rattle.std.proofs.lemmas.Int.{ints}
use Rattle.std.proofs.lemmas.List.Elements.{All-from_get_or}
use Rattle.define_pools.proofs.Found.{position-None}
use Rattle.define_pools.proofs.Integers.{mul_comm, mul_assoc, mul-left_comm, mul-zero, one-mul, same-unscaled, as_natural, same_pos, zero-mul}
use Rattle.frac128.specs.Divisors.{gcd_of}
use Rattle.frac128.specs.Fractions.{lowest_of}
use Rattle.frac128.proofs.DivisorLaws.{IsGcd-gcd_of}
use Rattle.define_rows.specs.declared.Var.{Var}
use Rattle.define_rows.specs.declared.Var.TheVariants.{Slack, Stage, Column}
use Rattle.define_rows.specs.Table.{Table, coefficient_at, row_at, basic_at, is_same, sizes_where}
use Rattle.define_rows.specs.Choice.{basic_row}
use Rattle.define_rows.specs.Steps.{ColumnValue, value_in, value_of, solution}
use Rattle.define_rows.specs.InOrder.{IsInOrder, IsKnown, IsSpanned, combination, unit}
use Rattle.define_rows.specs.Solutions.{numerator_over, SolutionStands, IsTight}
use Rattle.define_rows.proofs.Linear.{value, value-combination, value-same, value-scaled, unit-same, unit-other, dot-none}
use Rattle.define_rows.proofs.CoefficientLaws.{coefficient-Column}
use Rattle.define_rows.proofs.Entered.{place_of, is_same-true}
use Rattle.define_rows.proofs.Totals.{total, total-none, total-same, total-scaled, total-swap, total-picks, combination-total, coefficients-total, amount, filtered-total}
use Rattle.define_rows.proofs.Solutions.{StandsAt, is_same_refl, solution-each, each-solution, solution-rises, stands-positive, found-basic}

-- a positive factor can be cancelled
cancel : (a b c : ℤ) → pos 0 <ℤ c → c *ℤ a ≡ c *ℤ b → a ≡ b
cancel a b (pos zero) l e = absurd (omega (arith, ints))
cancel a b (pos (suc n)) l e = same-unscaled a b (suc n) (omega arith) e
cancel a b (negsuc n) l e = absurd (omega (arith, ints))

-- f c if variable x is `kind c` for some c below n, else 0
abbrev pub only : Var → (ℕ → Var) → ℕ → (ℕ → ℤ) → ℤ
only x kind n f = total n (λ c. cond (is_same x (kind c)) (f c) (pos 0))

pub only-none : (x : Var) (kind : ℕ → Var) (n : ℕ) (f : ℕ → ℤ) → ((c : ℕ) → is_same x (kind c) ≡ false) → only x kind n f ≡ pos 0
only-none x kind n f h = total-none n (λ c. cond (is_same x (kind c)) (f c) (pos 0)) (λ k l. ap (λ b. cond b (f k) (pos 0)) (h k))

pub only-picks : (x : Var) (kind : ℕ → Var) (n c : ℕ) (f : ℕ → ℤ) → c < n → is_same x (kind c) ≡ true → ((k : ℕ) → x ≡ kind k → k ≡ c) → only x kind n f ≡ f c
only-picks x kind n c f l same one = total-picks n c (λ k. cond (is_same x (kind k)) (f k) (pos 0)) l (λ k m o. by k o (is_same x (kind k)) refl) ∙ ap (λ b. cond b (f c) (pos 0)) same
  where
    by : (k : ℕ) → k ≢ c → (b : Bool) → is_same x (kind k) ≡ b → cond b (f k) (pos 0) ≡ pos 0
    by k o true e = absurd (o (one k (is_same-true x (kind k) e)))
    by k o false e = refl

-- f i if the variable is basic in row i, or 0 if it is not basic
abbrev pub in_row : Option ℕ → (ℕ → ℤ) → ℤ
in_row None f = pos 0
in_row (Some i) f = f i

module _ (table : Table) (h : IsInOrder table) where
  -- if a combination of the rows is `multiple` times a unit row, then row i's factor times its own coefficient is `multiple` times the
  -- coefficient of row i's basic variable in the unit row
  factor_at : (place : ℕ) (s : IsSpanned table.rows (unit place)) (i : ℕ) → i < length table.rows →
      s.factors i *ℤ coefficient_at table i (basic_at table i) ≡ pos s.multiple *ℤ value table (basic_at table i) (unit place)
  factor_at place s i l =
      sym (total-picks (length table.rows) i (λ k. s.factors k *ℤ coefficient_at table k (basic_at table i)) l (λ k m n. ap (λ z. s.factors k *ℤ z) (h.basic_others k i m l n) ∙ mul-zero (s.factors k)))
      ∙ sym (coefficients-total table (basic_at table i) s.factors table.rows) ∙ sym (value-combination table (basic_at table i) s.factors table.rows)
      ∙ value-same table (basic_at table i) (combination s.factors table.rows) (λ l. pos s.multiple *ℤ unit place l) s.sums ∙ value-scaled table (basic_at table i) (pos s.multiple) (unit place)

  -- suppose that each row's amount times its own coefficient is `scale` times its right side, except for rows whose basic variable has the
  -- coefficient 0 in the unit row. Then the amounts satisfy `scale` times the unit row's equation
  pub satisfied : (place : ℕ) → place ≤ length table.sizes → (scale : ℤ) (amounts : ℕ → ℤ) →
      ((i : ℕ) → i < length table.rows →
      value table (basic_at table i) (unit place) *ℤ (amounts i *ℤ coefficient_at table i (basic_at table i)) ≡ value table (basic_at table i) (unit place) *ℤ (scale *ℤ (row_at table i).b)) →
      total (length table.rows) (λ i. value table (basic_at table i) (unit place) *ℤ amounts i) ≡ scale *ℤ unit place 0
  satisfied place l scale amounts own = same-unscaled (total (length table.rows) (λ i. value table (basic_at table i) (unit place) *ℤ amounts i)) (scale *ℤ unit place 0) s.multiple s.positive whole
    where
      s : IsSpanned table.rows (unit place)
      s = h.units place l

      term : (M v V own scale f b : ℤ) → pos 0 <ℤ own → v *ℤ (V *ℤ own) ≡ v *ℤ (scale *ℤ b) → f *ℤ own ≡ M *ℤ v → M *ℤ (v *ℤ V) ≡ scale *ℤ (f *ℤ b)
      term M v V own scale f b some e k =
          cancel (M *ℤ (v *ℤ V)) (scale *ℤ (f *ℤ b)) own some
          (mul-left_comm own M (v *ℤ V) ∙ ap (λ z. M *ℤ z) (mul-left_comm own v V ∙ ap (λ z. v *ℤ z) (mul_comm own V) ∙ e) ∙ sym (mul_assoc M v (scale *ℤ b)) ∙ ap (λ z. z *ℤ (scale *ℤ b)) (sym k ∙ mul_comm f own)
          ∙ mul_assoc own f (scale *ℤ b) ∙ ap (λ z. own *ℤ z) (mul-left_comm f scale b))

      whole : pos s.multiple *ℤ total (length table.rows) (λ i. value table (basic_at table i) (unit place) *ℤ amounts i) ≡ pos s.multiple *ℤ (scale *ℤ unit place 0)
      whole =
          sym (total-scaled (length table.rows) (pos s.multiple) (λ i. value table (basic_at table i) (unit place) *ℤ amounts i))
          ∙ total-same (length table.rows) (λ i. pos s.multiple *ℤ (value table (basic_at table i) (unit place) *ℤ amounts i)) (λ i. scale *ℤ (s.factors i *ℤ (row_at table i).b))
          (λ i m. term (pos s.multiple) (value table (basic_at table i) (unit place)) (amounts i) (coefficient_at table i (basic_at table i)) scale (s.factors i) (row_at table i).b (h.basic_own i m) (own i m) (factor_at place s i m))
          ∙ total-scaled (length table.rows) scale (λ i. s.factors i *ℤ (row_at table i).b) ∙ ap (λ z. scale *ℤ z) (sym (combination-total s.factors table.rows 0) ∙ s.sums 0) ∙ mul-left_comm scale (pos s.multiple) (unit place 0)

  -- the sum over the rows whose basic variable is of `kind` equals the sum over the variables of this kind
  pub by-variable : (kind : ℕ → Var) (n : ℕ) (f : ℕ → ℕ → ℤ) → total (length table.rows) (λ i. only (basic_at table i) kind n (f i)) ≡ total n (λ c. in_row (basic_row table (kind c)) (λ i. f i c))
  by-variable kind n f =
      total-swap (length table.rows) n (λ i c. cond (is_same (basic_at table i) (kind c)) (f i c) (pos 0))
      ∙ total-same n (λ c. total (length table.rows) (λ i. cond (is_same (basic_at table i) (kind c)) (f i c) (pos 0))) (λ c. in_row (basic_row table (kind c)) (λ i. f i c)) (λ c l. by c (basic_row table (kind c)) refl)
    where
      by : (c : ℕ) (o : Option ℕ) → basic_row table (kind c) ≡ o → total (length table.rows) (λ i. cond (is_same (basic_at table i) (kind c)) (f i c) (pos 0)) ≡ in_row o (λ i. f i c)
      by c None e =
          total-none (length table.rows) (λ i. cond (is_same (basic_at table i) (kind c)) (f i c) (pos 0))
          (λ i l. ap (λ b. cond b (f i c) (pos 0)) (position-None (λ x. is_same x (kind c)) table.basic i (Slack (length table.sizes)) e (omega (arith, h.basic_count, h.row_count))))
      by c (Some j) e =
          total-picks (length table.rows) j (λ i. cond (is_same (basic_at table i) (kind c)) (f i c) (pos 0)) in_rows (λ i l n. other i l n (is_same (basic_at table i) (kind c)) refl)
          ∙ ap (λ b. cond b (f j c) (pos 0)) (ap (λ x. is_same x (kind c)) place.1 ∙ same)
        where
          place : (j < length table.basic) × (basic_at table j ≡ kind c)
          place = place_of table (kind c) j e

          in_rows : j < length table.rows
          in_rows = omega (arith, place.0, h.basic_count, h.row_count)

          same : is_same (kind c) (kind c) ≡ true
          same = is_same_refl (kind c)

          other : (i : ℕ) → i < length table.rows → i ≢ j → (b : Bool) → is_same (basic_at table i) (kind c) ≡ b → cond b (f i c) (pos 0) ≡ pos 0
          other i l n true k = absurd (n (h.basic_different i j l in_rows (is_same-true (basic_at table i) (kind c) k ∙ sym place.1)))
          other i l n false k = refl

  -- a sum over the solution equals a sum over the rows
  pub solution-total : (f : ColumnValue → ℕ) →
      pos (sum_by f (solution table)) ≡ total (length table.rows) (λ i. only (basic_at table i) Column (length table.columns) (λ c. amount f (value_in table c i)))
  unfolding solution
  solution-total f =
      filtered-total f (value_of table) (length table.columns)
      ∙ total-same (length table.columns) (λ c. amount f (value_of table c)) (λ c. in_row (basic_row table (Column c)) (λ i. amount f (value_in table c i))) (λ c l. by c (basic_row table (Column c)))
      ∙ sym (by-variable Column (length table.columns) (λ i c. amount f (value_in table c i)))
    where
      by : (c : ℕ) (o : Option ℕ) → amount f (option_and_then (value_in table c) o) ≡ in_row o (λ i. amount f (value_in table c i))
      by c None = refl
      by c (Some i) = refl

  -- if column c is basic in row i and f is the column's value times `scale`, then f (or 0 if the column has no value) times row i's own
  -- coefficient is `scale` times its right side
  pub amount-own : (f : ColumnValue → ℕ) (scale i c : ℕ) → i < length table.rows → basic_at table i ≡ Column c → ((there : ColumnValue) → value_of table c ≡ Some there → f there * there.coefficient ≡ scale * there.side) →
      amount f (value_in table c i) *ℤ coefficient_at table i (basic_at table i) ≡ pos scale *ℤ (row_at table i).b
  amount-own f scale i c l e each = by (int_lt (pos 0) (row_at table i).b) refl
    where
      here : ColumnValue
      here = record { column = c; side = unsigned_abs (row_at table i).b; coefficient = unsigned_abs (coefficient_at table i (Column c)) }

      by : (b : Bool) → int_lt (pos 0) (row_at table i).b ≡ b →
          amount f (cond b (Some (record { column = c; side = unsigned_abs (row_at table i).b; coefficient = unsigned_abs (coefficient_at table i (Column c)) })) None) *ℤ coefficient_at table i (basic_at table i) ≡ pos scale *ℤ (row_at table i).b
      by true t =
          let there : ColumnValue = record { column = c; side = unsigned_abs (row_at table i).b; coefficient = unsigned_abs (coefficient_at table i (Column c)) } in
          let given : value_of table c ≡ Some there = ap (option_and_then (value_in table c)) (found-basic table h i (Column c) l e) ∙ ap (λ b. cond b (Some there) None) t in
          let own : pos 0 <ℤ coefficient_at table i (Column c) = subst (λ x. pos 0 <ℤ coefficient_at table i x) e (h.basic_own i l) in
          ap (λ z. pos (f there) *ℤ z) (ap (coefficient_at table i) e ∙ as_natural (coefficient_at table i (Column c)) (omega (arith, ints)))
          ∙ ap pos (each there given) ∙ ap (λ z. pos scale *ℤ z) (sym (as_natural (row_at table i).b (omega (arith, ints))))
      by false t =
          let none : (row_at table i).b ≡ pos 0 = omega (arith, ints, h.sides i (record { b = pos 0; a = [] }) l) in
          mul_comm (pos 0) (coefficient_at table i (basic_at table i)) ∙ mul-zero (coefficient_at table i (basic_at table i)) ∙ sym (mul-zero (pos scale)) ∙ ap (λ z. pos scale *ℤ z) (sym none)

  -- in the unit row of place 0, a column has coefficient 1
  first_of_column : (c : ℕ) → value table (Column c) (unit 0) ≡ pos 1
  first_of_column c = omega (arith, ints, unit-same 0 0 refl, dot-none (get_or table.columns c []) (λ t. unit 0 (suc t)) (λ k. unit-other 0 (suc k) (λ e. omega (arith, e))))

  -- in the unit row of place 0, a stage's variable has coefficient 0
  first_of_stage : (r : ℕ) → value table (Stage r) (unit 0) ≡ pos 0
  first_of_stage r = dot-none (sizes_where (get_or table.stages r []) table.sizes) (λ t. unit 0 (suc t)) (λ k. unit-other 0 (suc k) (λ e. omega (arith, e)))

  -- multiplying `only x Column` by the coefficient of x in the unit row of place 0 doesn't change it
  first_counts : (x : Var) (f : ℕ → ℤ) → value table x (unit 0) *ℤ only x Column (length table.columns) f ≡ only x Column (length table.columns) f
  first_counts (Slack t) f = let none = only-none (Slack t) Column (length table.columns) f (λ c. refl) in ap (λ z. unit 0 (suc t) *ℤ z) none ∙ mul-zero (unit 0 (suc t)) ∙ sym none
  first_counts (Stage r) f =
      let none = only-none (Stage r) Column (length table.columns) f (λ c. refl) in
      ap (λ z. value table (Stage r) (unit 0) *ℤ z) none ∙ mul-zero (value table (Stage r) (unit 0)) ∙ sym none
  first_counts (Column c) f = ap (λ z. z *ℤ only (Column c) Column (length table.columns) f) (first_of_column c) ∙ one-mul (only (Column c) Column (length table.columns) f)

  column_number : Var → ℕ
  column_number (Slack t) = t
  column_number (Stage r) = r
  column_number (Column c) = c

  -- for the variable of column c, `only` picks f c
  pub only-column : (c : ℕ) (f : ℕ → ℤ) → c < length table.columns → only (Column c) Column (length table.columns) f ≡ f c
  unfolding column_number
  only-column c f l = only-picks (Column c) Column (length table.columns) c f l (is_same_refl (Column c)) (λ k e. sym (ap column_number e))

  first_own : (x : Var) (f : ℕ → ℤ) (own wanted : ℤ) → IsKnown table x → ((c : ℕ) → c < length table.columns → x ≡ Column c → f c *ℤ own ≡ wanted) →
      value table x (unit 0) *ℤ (only x Column (length table.columns) f *ℤ own) ≡ value table x (unit 0) *ℤ wanted
  first_own (Slack t) f own wanted known each =
      let none = unit-other 0 (suc t) (λ e. omega (arith, e)) in
      ap (λ z. z *ℤ (only (Slack t) Column (length table.columns) f *ℤ own)) none ∙ zero-mul (only (Slack t) Column (length table.columns) f *ℤ own) ∙ sym (zero-mul wanted) ∙ ap (λ z. z *ℤ wanted) (sym none)
  first_own (Stage r) f own wanted known each =
      let none = first_of_stage r in
      ap (λ z. z *ℤ (only (Stage r) Column (length table.columns) f *ℤ own)) none ∙ zero-mul (only (Stage r) Column (length table.columns) f *ℤ own) ∙ sym (zero-mul wanted) ∙ ap (λ z. z *ℤ wanted) (sym none)
  first_own (Column c) f own wanted known each = ap (λ z. value table (Column c) (unit 0) *ℤ z) (ap (λ z. z *ℤ own) (only-column c f known) ∙ each c known refl)

  pub known-basic : (i : ℕ) → i < length table.rows → IsKnown table (basic_at table i)
  known-basic i l = h.basic_known i (Slack (length table.sizes)) (omega (arith, h.basic_count, h.row_count))

  -- if f is each column's value times `scale`, its sum over the solution is `scale`
  pub solution-whole : (f : ColumnValue → ℕ) (scale : ℕ) → ((c : ℕ) (there : ColumnValue) → c < length table.columns → value_of table c ≡ Some there → f there * there.coefficient ≡ scale * there.side) → sum_by f (solution table) ≡ scale
  solution-whole f scale each =
      same_pos (sum_by f (solution table)) scale
      (solution-total f
      ∙ total-same (length table.rows) amounts (λ i. value table (basic_at table i) (unit 0) *ℤ amounts i) (λ i l. sym (first_counts (basic_at table i) (λ c. amount f (value_in table c i))))
      ∙ satisfied 0 (omega arith) (pos scale) amounts
      (λ i l. first_own (basic_at table i) (λ c. amount f (value_in table c i)) (coefficient_at table i (basic_at table i)) (pos scale *ℤ (row_at table i).b) (known-basic i l) (λ c m e. amount-own f scale i c l e (λ there g. each c there m g)))
      ∙ ap (λ z. pos scale *ℤ z) (unit-same 0 0 refl) ∙ mul_comm (pos scale) (pos 1) ∙ one-mul (pos scale))
    where
      amounts : ℕ → ℤ
      amounts i = only (basic_at table i) Column (length table.columns) (λ c. amount f (value_in table c i))

-- the numerator over a common multiple is the value times that multiple
pub numerator-over : (common : ℕ) (there : ColumnValue) → (lowest_of there.side there.coefficient).den ∣ common → numerator_over common there * there.coefficient ≡ common * there.side
numerator-over common there d =
    let g = gcd_of there.side there.coefficient in
    let both = IsGcd-gcd_of there.side there.coefficient in
    let side : g * (there.side / g) ≡ there.side = mul-div_cancel' g both.0 in
    let coefficient : g * (there.coefficient / g) ≡ there.coefficient = mul-div_cancel' g both.1 in
    let whole : there.coefficient / g * (common / (there.coefficient / g)) ≡ common = mul-div_cancel' (there.coefficient / g) d in
    joined g (there.side / g) (there.coefficient / g) (common / (there.coefficient / g)) there.side there.coefficient common side coefficient whole
  where
    joined : (g n d q side coefficient common : ℕ) → g * n ≡ side → g * d ≡ coefficient → d * q ≡ common → n * q * coefficient ≡ common * side
    joined g n d q side coefficient common s c w =
        ap (λ z. n * q * z) (sym c) ∙ (let e : n * q * (g * d) ≡ d * q * (g * n) = omega arith in e) ∙ ap₂ (λ y z. y * z) w s

pub solution-stands : (table : Table) → IsInOrder table → SolutionStands table
solution-stands table h = record {
  rises = solution-rises table h;
  known = solution-each table h (λ there. there.column < length table.columns) (λ c there l s. subst (λ k. k < length table.columns) (sym s.column_is) l);
  positive = solution-each table h (λ there. (0 < there.side) × (0 < there.coefficient)) (λ c there l s. stands-positive table h c there s);
  one = λ common all. solution-whole table h (numerator_over common) common (λ c there l e. numerator-over common there (each-solution table h (λ there. (lowest_of there.side there.coefficient).den ∣ common) c there all l e));
}

-- a column of the solution is not basic in a closed row, so its coefficient there is 0
pub solution-tight : (table : Table) → IsInOrder table → All (λ there. All (IsTight table there.column) table.closed) (solution table)
solution-tight table h =
    solution-each table h (λ there. All (IsTight table there.column) table.closed) (λ c there l s. subst (λ k. All (IsTight table k) table.closed) (sym s.column_is) (All-from_get_or (IsTight table c) table.closed 0 (tight c there s)))
  where
    tight : (c : ℕ) (there : ColumnValue) → StandsAt table c there → (k : ℕ) → k < length table.closed → IsTight table c (get_or table.closed k 0)
    tight c there s k l =
        let i = get_or table.closed k 0 in
        let known : i < length table.rows = h.closed_known k 0 l in
        let apart : i ≢ s.row = λ e. let same : Column c ≡ Stage k = sym s.basic ∙ ap (basic_at table) (sym e) ∙ h.closed_basic k l in absurd cc in
        let zero : coefficient_at table i (Column c) ≡ pos 0 = ap (coefficient_at table i) (sym s.basic) ∙ h.basic_others i s.row known s.in_rows apart in
        omega (arith, ints, coefficient-Column table (row_at table i) c, zero)
