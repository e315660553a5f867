-- Properties of the variable that enters, in a table in order (`IsInOrder`).
use Rattle.std.proofs.Common.{◌≡◌, ℕ, suc, ◌+◌, ◌-◌, ◌<◌, ◌≤◌, Bool, true, false, cond, not, ◌&&◌, List, [], ◌∷◌, length, map, get_or, Option, Some, None, ℤ, pos, ◌*ℤ◌, refl, sym, ap, ◌∙◌, subst, arith, inl, inr, ◌⊎◌, ⊎_elim}
use Rattle.std.specs.Prelude.{int_lt, slice_index, count_by}
use Rattle.std.specs.Ordering.{int_eq}
use Rattle.std.proofs.lemmas.Int.{ints}
use Rattle.std.proofs.lemmas.Bool.{and_parts, eqb-true, cases_lt, not-true}
use Rattle.std.proofs.lemmas.List.{get_or-map, get_or_past, length-map}
use Rattle.std.proofs.lemmas.List.Quantifiers.{position-Some}
use Rattle.std.proofs.lemmas.List.Sums.{sum_by-cons}
use Rattle.std.proofs.lemmas.List.Elements.{All-from_recursion}
use Rattle.define_pools.proofs.Each.{each_from_list_all}
use Rattle.define_pools.proofs.Found.{find-passes, find-each}
use Rattle.define_pools.proofs.Integers.{mul-zero, lt-tested, eq-tested}
use Rattle.define_rows.specs.declared.Var.{Var}
use Rattle.define_rows.specs.declared.Var.TheVariants.{Slack, Stage, Column}
use Rattle.define_rows.specs.Row.{sum_of_products}
use Rattle.define_rows.specs.Table.{Table, coefficient_at, row_at, basic_at, variables, is_same, stage_variable, sizes_where}
use Rattle.define_rows.specs.Choice.{is_eligible, basic_row, entering_from, entering}
use Rattle.define_rows.specs.InOrder.{IsKnown, IsUnsettled, IsInOrder}
use Rattle.define_rows.proofs.CoefficientLaws.{coefficient-Stage}
use Rattle.define_rows.proofs.Chosen.{each_variable}

-- if each marked class has the entry 0, the sum over the marked classes is 0
products-none : (marks : List Bool) (sizes : List ℕ) (xs : List ℤ) → ((t : ℕ) → get_or marks t false ≡ true → get_or xs t (pos 0) ≡ pos 0) → sum_of_products (sizes_where marks sizes) xs ≡ pos 0
products-none [] sizes xs h = refl
products-none (mark ∷ marks) [] xs h = refl
products-none (mark ∷ marks) (size ∷ sizes) [] h = refl
products-none (true ∷ marks) (size ∷ sizes) (x ∷ xs) h =
    omega (arith, ints, ap (λ z. pos size *ℤ z) (h 0 refl), mul-zero (pos size), products-none marks sizes xs (λ t e. h (suc t) e))
products-none (false ∷ marks) (size ∷ sizes) (x ∷ xs) h = omega (arith, ints, products-none marks sizes xs (λ t e. h (suc t) e))

-- if fewer than all elements are true, some element is false
pub some_fails : (xs : List Bool) → count_by (λ s. s) xs < length xs → (t : ℕ) × (t < length xs) × (get_or xs t true ≡ false)
some_fails [] l = absurd (omega arith)
some_fails (true ∷ xs) l =
    let rest = some_fails xs (omega (arith, sum_by-cons (λ b. cond b 1 0) true xs)) in (suc rest.0, omega (arith, rest.1), rest.2)
some_fails (false ∷ xs) l = (0, omega arith, refl)

pub is_same-true : (x y : Var) → is_same x y ≡ true → x ≡ y
is_same-true (Slack t) (Slack u) e = ap Slack (eqb-true t u e)
is_same-true (Slack t) (Stage s) e = absurd cc
is_same-true (Slack t) (Column d) e = absurd cc
is_same-true (Stage r) (Slack u) e = absurd cc
is_same-true (Stage r) (Stage s) e = ap Stage (eqb-true r s e)
is_same-true (Stage r) (Column d) e = absurd cc
is_same-true (Column c) (Slack u) e = absurd cc
is_same-true (Column c) (Stage s) e = absurd cc
is_same-true (Column c) (Column d) e = ap Column (eqb-true c d e)

-- if a row is found for a variable, the variable is basic in it
pub place_of : (table : Table) (v : Var) (i : ℕ) → basic_row table v ≡ Some i → (i < length table.basic) × (basic_at table i ≡ v)
place_of table v i e =
    let found = position-Some (λ x. is_same x v) table.basic i (Slack (length table.sizes)) e in
    (found.0, is_same-true (basic_at table i) v found.1)

module _ (table : Table) (h : IsInOrder table) (open_now : table.in_stage ≡ true) where
  pub stages_are : length table.stages ≡ length table.closed + 1
  stages_are = h.stage_count ∙ ap (λ b. length table.closed + cond b 1 0) open_now

  -- the open stage marks exactly the classes that are unsettled now
  pub marks_now : get_or table.stages (length table.stages - 1) [] ≡ map not table.settled
  marks_now = let n : length table.stages - 1 ≡ length table.closed = omega (arith, stages_are) in ap (λ k. get_or table.stages k []) n ∙ h.open_same open_now

  marked : (t : ℕ) → get_or (map not table.settled) t false ≡ true → IsUnsettled table t
  marked t e = ⊎_elim inside outside (cases_lt t (length table.settled))
    where
      inside : t < length table.settled → IsUnsettled table t
      inside l = not-true (get_or table.settled t true) (sym (get_or-map not table.settled t true false l) ∙ e)

      outside : length table.settled ≤ t → IsUnsettled table t
      outside l = let past : get_or (map not table.settled) t false ≡ false = get_or_past (map not table.settled) t false (omega (arith, length-map table.settled not)) in absurd cc

  -- the open stage's variable has coefficient 0 in each closed row
  stage_eligible : (k : ℕ) → k < length table.closed → coefficient_at table (slice_index table.closed k) (stage_variable table) ≡ pos 0
  stage_eligible k l =
      let row = row_at table (slice_index table.closed k) in
      coefficient-Stage table row (length table.stages - 1)
      ∙ ap (λ m. sum_of_products (sizes_where m table.sizes) row.a) marks_now
      ∙ products-none (map not table.settled) table.sizes row.a (λ t e. h.closed_entries k t l (marked t e))

  some_unsettled : (t : ℕ) × (t < length table.sizes) × (get_or (map not table.settled) t false ≡ true)
  some_unsettled =
      let u = some_fails table.settled (omega (arith, h.open_unsettled open_now, h.settled_each)) in
      (u.0, omega (arith, u.1, h.settled_each), get_or-map not table.settled u.0 true false u.1 ∙ ap not u.2)

  module _ (v : Var) (entered : entering table ≡ Some v) where
    cases : (v ≡ stage_variable table) ⊎ ((row : ℕ) × (basic_row table (stage_variable table) ≡ Some row) × (IsKnown table v) × (is_eligible table v ≡ true) × (int_lt (coefficient_at table row v) (pos 0) ≡ true))
    unfolding entering
    cases = by (basic_row table (stage_variable table)) refl entered
      where
        by : (o : Option ℕ) → basic_row table (stage_variable table) ≡ o → entering_from table o ≡ Some v →
            (v ≡ stage_variable table) ⊎ ((row : ℕ) × (basic_row table (stage_variable table) ≡ Some row) × (IsKnown table v) × (is_eligible table v ≡ true) × (int_lt (coefficient_at table row v) (pos 0) ≡ true))
        by None e f = inl cc
        by (Some row) e f =
            let p : Var → Bool = λ v. is_eligible table v && int_lt (coefficient_at table row v) (pos 0) in
            let parts = and_parts (is_eligible table v) (int_lt (coefficient_at table row v) (pos 0)) (find-passes p (variables table) v f) in
            inr (row, e, find-each p (IsKnown table) (variables table) v (each_variable table (IsKnown table) (λ v k. k)) f, parts.0, parts.1)

    pub entered-known : IsKnown table v
    entered-known = ⊎_elim (λ e. subst (IsKnown table) (sym e) (omega (arith, stages_are))) (λ p. p.2) cases

    -- the entering variable has coefficient 0 in each closed row
    pub entered-closed : (k : ℕ) → k < length table.closed → coefficient_at table (slice_index table.closed k) v ≡ pos 0
    entered-closed k l =
        ⊎_elim (λ e. ap (coefficient_at table (slice_index table.closed k)) e ∙ stage_eligible k l)
        (λ p. eq-tested (coefficient_at table (slice_index table.closed k) v) (pos 0) (All-from_recursion (λ i. int_eq (coefficient_at table i v) (pos 0) ≡ true) table.closed (each_from_list_all (λ i. int_eq (coefficient_at table i v) (pos 0)) table.closed p.3) k 0 l)) cases

    -- if a stage's variable enters, it is the open stage's, and some class was unsettled when that stage was entered
    pub entered-stage : (r : ℕ) → v ≡ Stage r → (t : ℕ) × (t < length table.sizes) × (get_or (get_or table.stages r []) t false ≡ true)
    entered-stage r e = ⊎_elim (λ same. newest (ap stage_number (sym e ∙ same))) (λ p. absurd (older p.0 p.1 p.2 p.4)) cases
      where
        stage_number : Var → ℕ
        stage_number (Slack t) = 0
        stage_number (Stage s) = s
        stage_number (Column c) = 0

        newest : r ≡ length table.stages - 1 → (t : ℕ) × (t < length table.sizes) × (get_or (get_or table.stages r []) t false ≡ true)
        newest n = let u = some_unsettled in (u.0, u.1, ap (λ m. get_or m u.0 false) (ap (λ k. get_or table.stages k []) n ∙ marks_now) ∙ u.2)

        older : (row : ℕ) → basic_row table (stage_variable table) ≡ Some row → IsKnown table v → int_lt (coefficient_at table row v) (pos 0) ≡ true → ⊥
        older row found known negative = ⊎_elim closed_one newest_one (cases_lt r (length table.closed))
          where
            place : (row < length table.basic) × (basic_at table row ≡ stage_variable table)
            place = place_of table (stage_variable table) row found

            closed_one : r < length table.closed → ⊥
            closed_one l =
                let i = slice_index table.closed r in
                let own = h.basic_own i (h.closed_known r 0 l) in
                let zero = entered-closed r l in
                omega (arith, ints, own, ap (coefficient_at table i) (h.closed_basic r l ∙ sym e), zero)

            newest_one : length table.closed ≤ r → ⊥
            newest_one l =
                let in_range : r < length table.stages = subst (IsKnown table) e known in
                let number : length table.stages - 1 ≡ r = omega (arith, stages_are) in
                let own = h.basic_own row (omega (arith, place.0, h.basic_count, h.row_count)) in
                omega (arith, ints, own, ap (coefficient_at table row) (place.1 ∙ ap Stage number ∙ sym e), lt-tested (coefficient_at table row v) (pos 0) negative)
