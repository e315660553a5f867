-- In a table in order (`IsInOrder`), each variable that may enter has a coefficient above 0 in some row.
use Rattle.std.proofs.Common.{◌≡◌, ◌≢◌, ℕ, zero, suc, ◌<◌, Bool, true, false, cond, List, [], ◌∷◌, length, get_or, ℤ, pos, ◌*ℤ◌, ◌≤ℤ◌, ◌<ℤ◌, refl, sym, ap, ◌∙◌, subst, arith, inl, inr, ◌⊎◌}
use Rattle.std.proofs.lemmas.Int.{ints}
use Rattle.std.proofs.lemmas.Bool.{cases_eq}
use Rattle.define_pools.proofs.Integers.{mul-zero, le-unscaled, product-not_negative, product-not_positive, factor-not_negative, factor-positive, other-zero}
use Rattle.define_rows.specs.declared.Var.{Var}
use Rattle.define_rows.specs.declared.Var.TheVariants.{Slack, Stage, Column}
use Rattle.define_rows.specs.Row.{Row}
use Rattle.define_rows.specs.Table.{Table, coefficient, coefficient_at, basic_at, sizes_where}
use Rattle.define_rows.specs.InOrder.{combination, unit, IsSpanned, IsInOrder, IsKnown}
use Rattle.define_rows.proofs.SumLaws.{get_or-sizes_where}
use Rattle.define_rows.proofs.Linear.{value, value-scaled, value-same, value-combination, sum_of_coefficients, unit-same, unit-other, dot-picks, dot-none}

abbrev zero_row : Row
zero_row = record { b = pos 0; a = [] }

module _ (table : Table) (x : Var) where
  sum-none : (factors : ℕ → ℤ) (rows : List Row) → ((k : ℕ) → k < length rows → coefficient table (get_or rows k zero_row) x ≡ pos 0) → sum_of_coefficients table x factors rows ≡ pos 0
  sum-none factors [] h = refl
  sum-none factors (row ∷ rows) h =
      omega (arith, ints, ap (λ z. factors 0 *ℤ z) (h 0 (omega arith)), mul-zero (factors 0), sum-none (λ k. factors (suc k)) rows (λ k l. h (suc k) (omega arith)))

  -- if only row i has a coefficient other than 0 on x, the sum is row i's factor times its coefficient on x
  sum-one : (factors : ℕ → ℤ) (rows : List Row) (i : ℕ) → i < length rows → ((k : ℕ) → k < length rows → k ≢ i → coefficient table (get_or rows k zero_row) x ≡ pos 0) →
      sum_of_coefficients table x factors rows ≡ factors i *ℤ coefficient table (get_or rows i zero_row) x
  sum-one factors [] i l h = absurd (omega arith)
  sum-one factors (row ∷ rows) zero l h = omega (arith, ints, sum-none (λ k. factors (suc k)) rows (λ k l. h (suc k) (omega arith) (λ e. omega (arith, e))))
  sum-one factors (row ∷ rows) (suc i) l h =
      omega (arith, ints, ap (λ z. factors 0 *ℤ z) (h 0 (omega arith) (λ e. omega (arith, e))), mul-zero (factors 0), sum-one (λ k. factors (suc k)) rows i (omega arith) (λ k l n. h (suc k) (omega arith) (λ e. n (omega (arith, e)))))

  -- if each term is at most 0, so is their sum
  sum-le : (factors : ℕ → ℤ) (rows : List Row) → ((k : ℕ) → k < length rows → (factors k *ℤ coefficient table (get_or rows k zero_row) x) ≤ℤ pos 0) → sum_of_coefficients table x factors rows ≤ℤ pos 0
  sum-le factors [] h = omega (arith, ints)
  sum-le factors (row ∷ rows) h = omega (arith, ints, h 0 (omega arith), sum-le (λ k. factors (suc k)) rows (λ k l. h (suc k) (omega arith)))

  -- if each term is at most 0 and their sum is 0, each term is 0
  sum-zero : (factors : ℕ → ℤ) (rows : List Row) → ((k : ℕ) → k < length rows → (factors k *ℤ coefficient table (get_or rows k zero_row) x) ≤ℤ pos 0) → sum_of_coefficients table x factors rows ≡ pos 0 →
      (k : ℕ) → k < length rows → factors k *ℤ coefficient table (get_or rows k zero_row) x ≡ pos 0
  sum-zero factors [] h e k l = absurd (omega arith)
  sum-zero factors (row ∷ rows) h e zero l = omega (arith, ints, h 0 (omega arith), sum-le (λ k. factors (suc k)) rows (λ k l. h (suc k) (omega arith)))
  sum-zero factors (row ∷ rows) h e (suc k) l =
      sum-zero (λ k. factors (suc k)) rows (λ k l. h (suc k) (omega arith)) (omega (arith, ints, h 0 (omega arith), sum-le (λ k. factors (suc k)) rows (λ k l. h (suc k) (omega arith)))) k (omega arith)

-- ---- the coefficients of variables in unit rows, by the kind of the variable

-- the variable is a column
abbrev is_column : Var → Bool
is_column (Slack t) = false
is_column (Stage r) = false
is_column (Column c) = true

side_of_column : (table : Table) (x : Var) → is_column x ≡ true → value table x (unit 0) ≡ pos 1
side_of_column table (Slack t) e = absurd cc
side_of_column table (Stage r) e = absurd cc
side_of_column table (Column c) e = omega (arith, ints, unit-same 0 0 refl, dot-none (get_or table.columns c []) (λ t. unit 0 (suc t)) (λ k. unit-other 0 (suc k) (λ e. omega (arith, e))))

side_of_other : (table : Table) (x : Var) → is_column x ≡ false → value table x (unit 0) ≡ pos 0
side_of_other table (Slack t) e = unit-other 0 (suc t) (λ e. omega (arith, e))
side_of_other table (Stage r) e = dot-none (sizes_where (get_or table.stages r []) table.sizes) (λ t. unit 0 (suc t)) (λ k. unit-other 0 (suc k) (λ e. omega (arith, e)))
side_of_other table (Column c) e = absurd cc

class_of_stage : (table : Table) (r t : ℕ) → value table (Stage r) (unit (suc t)) ≡ pos (get_or (sizes_where (get_or table.stages r []) table.sizes) t 0)
class_of_stage table r t =
    dot-picks (sizes_where (get_or table.stages r []) table.sizes) t (λ k. unit (suc t) (suc k)) (λ k e. unit-same (suc t) (suc k) (ap suc e)) (λ k n. unit-other (suc t) (suc k) (λ e. n (omega (arith, e))))

class_of_slack : (table : Table) (t : ℕ) → value table (Slack t) (unit (suc t)) ≡ pos 1
class_of_slack table t = unit-same (suc t) (suc t) refl

class_of_other : (table : Table) (x : Var) (t : ℕ) → is_column x ≡ false → pos 0 ≤ℤ value table x (unit (suc t))
class_of_other table (Slack u) t e = by (cases_eq (suc u) (suc t))
  where
    by : (suc u ≡ suc t) ⊎ (suc u ≢ suc t) → pos 0 ≤ℤ unit (suc t) (suc u)
    by (inl e) = omega (arith, ints, unit-same (suc t) (suc u) e)
    by (inr n) = omega (arith, ints, unit-other (suc t) (suc u) n)
class_of_other table (Stage r) t e = omega (arith, ints, class_of_stage table r t)
class_of_other table (Column c) t e = absurd cc

module _ (table : Table) (h : IsInOrder table) where
  -- if a combination of the rows is a multiple of a unit row, each variable's coefficient in it is the same multiple of that in the unit
  -- row
  spread : (place : ℕ) (s : IsSpanned table.rows (unit place)) (x : Var) → sum_of_coefficients table x s.factors table.rows ≡ pos s.multiple *ℤ value table x (unit place)
  spread place s x =
      sym (value-combination table x s.factors table.rows) ∙ value-same table x (combination s.factors table.rows) (λ l. pos s.multiple *ℤ unit place l) s.sums ∙ value-scaled table x (pos s.multiple) (unit place)

  -- row i's factor times its own coefficient is `multiple` times the coefficient of row i's basic variable in the unit row
  one_factor : (place : ℕ) (s : IsSpanned table.rows (unit place)) (i : ℕ) → i < length table.rows →
      s.factors i *ℤ coefficient_at table i (basic_at table i) ≡ pos s.multiple *ℤ value table (basic_at table i) (unit place)
  one_factor place s i l = sym (sum-one table (basic_at table i) s.factors table.rows i l (λ k m n. h.basic_others k i m l n)) ∙ spread place s (basic_at table i)

  module _ (v : Var) (none : (i : ℕ) → i < length table.rows → coefficient_at table i v ≤ℤ pos 0) where
    side_factors : (s : IsSpanned table.rows (unit 0)) (i : ℕ) → i < length table.rows → pos 0 ≤ℤ s.factors i
    side_factors s i l = by (is_column (basic_at table i)) refl
      where
        by : (b : Bool) → is_column (basic_at table i) ≡ b → pos 0 ≤ℤ s.factors i
        by true e = factor-not_negative (s.factors i) (coefficient_at table i (basic_at table i)) (h.basic_own i l)
            (omega (arith, ints, one_factor 0 s i l, ap (λ z. pos s.multiple *ℤ z) (side_of_column table (basic_at table i) e)))
        by false e = factor-not_negative (s.factors i) (coefficient_at table i (basic_at table i)) (h.basic_own i l)
            (omega (arith, ints, one_factor 0 s i l, ap (λ z. pos s.multiple *ℤ z) (side_of_other table (basic_at table i) e), mul-zero (pos s.multiple)))

    side_terms : (s : IsSpanned table.rows (unit 0)) (k : ℕ) → k < length table.rows → (s.factors k *ℤ coefficient table (get_or table.rows k zero_row) v) ≤ℤ pos 0
    side_terms s k l = product-not_positive (s.factors k) (coefficient_at table k v) (side_factors s k l) (none k l)

    no_column : is_column v ≡ true → ⊥
    no_column e =
        let s = h.units 0 (omega arith) in
        let le = sum-le table v s.factors table.rows (side_terms s) in
        let some = s.positive in
        omega (arith, ints, spread 0 s v, ap (λ z. pos s.multiple *ℤ z) (side_of_column table v e))

    columns_zero : is_column v ≡ false → (i : ℕ) → i < length table.rows → is_column (basic_at table i) ≡ true → coefficient_at table i v ≡ pos 0
    columns_zero e i l c =
        let s = h.units 0 (omega arith) in
        let some = s.positive in
        let sum : sum_of_coefficients table v s.factors table.rows ≡ pos 0 = omega (arith, ints, spread 0 s v, ap (λ z. pos s.multiple *ℤ z) (side_of_other table v e), mul-zero (pos s.multiple)) in
        let term = sum-zero table v s.factors table.rows (side_terms s) sum i l in
        let positive : pos 0 <ℤ s.factors i = factor-positive (s.factors i) (coefficient_at table i (basic_at table i)) (h.basic_own i l)
        (omega (arith, ints, one_factor 0 s i l, ap (λ z. pos s.multiple *ℤ z) (side_of_column table (basic_at table i) c))) in
        other-zero (s.factors i) (coefficient_at table i v) positive term

    class_terms : is_column v ≡ false → (t : ℕ) (s : IsSpanned table.rows (unit (suc t))) (k : ℕ) → k < length table.rows → (s.factors k *ℤ coefficient table (get_or table.rows k zero_row) v) ≤ℤ pos 0
    class_terms e t s k l = by (is_column (basic_at table k)) refl
      where
        by : (b : Bool) → is_column (basic_at table k) ≡ b → (s.factors k *ℤ coefficient_at table k v) ≤ℤ pos 0
        by true c = omega (arith, ints, ap (λ z. s.factors k *ℤ z) (columns_zero e k l c), mul-zero (s.factors k))
        by false c =
            let factor = factor-not_negative (s.factors k) (coefficient_at table k (basic_at table k)) (h.basic_own k l)
            (subst (λ z. pos 0 ≤ℤ z) (sym (one_factor (suc t) s k l)) (product-not_negative (pos s.multiple) (value table (basic_at table k) (unit (suc t))) (omega (arith, ints)) (class_of_other table (basic_at table k) t c))) in
            product-not_positive (s.factors k) (coefficient_at table k v) factor (none k l)

    -- if v isn't a column, and no row has a coefficient above 0 on v, no unit row of a class has one
    no_class : is_column v ≡ false → (t : ℕ) → t < length table.sizes → value table v (unit (suc t)) ≤ℤ pos 0
    no_class e t l =
        let s = h.units (suc t) (omega arith) in
        let some = s.positive in
        let le = sum-le table v s.factors table.rows (class_terms e t s) in
        by (value table v (unit (suc t))) s.multiple (subst (λ z. z ≤ℤ pos 0) (spread (suc t) s v) le) some
      where
        by : (z : ℤ) (m : ℕ) → (pos m *ℤ z) ≤ℤ pos 0 → 0 < m → z ≤ℤ pos 0
        by z m k p = le-unscaled z (pos 0) m p (omega (arith, ints, k, mul-zero (pos m)))

    -- if v is a variable of the table, some row has a coefficient above 0 on v. If v is a stage's variable, this requires that some class
    -- was unsettled when the stage was entered
    pub some_positive : IsKnown table v → ((r : ℕ) → v ≡ Stage r → (t : ℕ) × (t < length table.sizes) × (get_or (get_or table.stages r []) t false ≡ true)) → ⊥
    some_positive known stage = by v refl
      where
        by : (x : Var) → v ≡ x → ⊥
        by (Slack t) e =
            let l : t < length table.sizes = subst (IsKnown table) e known in
            omega (arith, ints, no_class (ap is_column e) t l, ap (λ x. value table x (unit (suc t))) e, class_of_slack table t)
        by (Stage r) e =
            let u = stage r e in
            let one = h.sizes u.0 0 u.1 in
            let marks = get_or table.stages r [] in
            let long : length marks ≡ length table.sizes = h.stage_each r [] (subst (IsKnown table) e known) in
            let weight = get_or-sizes_where marks table.sizes u.0 long ∙ ap (λ b. cond b (get_or table.sizes u.0 0) 0) u.2 in
            omega (arith, ints, no_class (ap is_column e) u.0 u.1, ap (λ x. value table x (unit (suc u.0))) e, class_of_stage table r u.0, weight)
        by (Column c) e = no_column (ap is_column e)
