-- Properties of the row and the entering variable that Bland's rule chooses.
use Rattle.std.proofs.Common.{◌≡◌, ℕ, ◌<◌, Bool, true, false, not, ◌&&◌, ◌||◌, ◌++◌, length, map, Option, Some, None, pos, ◌*ℤ◌, ◌≤ℤ◌, ◌<ℤ◌, refl, sym, ap, ◌∙◌, arith}
use Rattle.std.specs.Prelude.{int_lt}
use Rattle.std.specs.Ordering.{int_eq}
use Rattle.std.specs.Option.{option_map, option_and_then}
use Rattle.std.specs.List.{AllByRecursion, list_all, range_with_len}
use Rattle.std.proofs.lemmas.Int.{ints}
use Rattle.std.proofs.lemmas.Bool.{and_parts}
use Rattle.define_pools.proofs.Integers.{lt-tested}
use Rattle.define_pools.proofs.Found.{find-each, find-passes}
use Rattle.define_pools.proofs.Each.{each_append, each_range, each_mapped, range_each, each_left, each_of_map, each_from_list_all}
pub use Rattle.define_pools.proofs.Each.{list_all_from_each as all_from_each, each_from_list_all as each_from_all}
pub use Rattle.define_pools.proofs.Found.{find-none}
use Rattle.define_rows.specs.declared.Var.{Var}
use Rattle.define_rows.specs.declared.Var.TheVariants.{Slack, Stage, Column}
use Rattle.define_rows.specs.Table.{Table, coefficient_at, row_at, basic_at, row_numbers, variables, comes_before}
use Rattle.define_rows.specs.Choice.{entering, may_leave, leaves_before, is_least, leaving, choice}
use Rattle.define_rows.specs.InOrder.{IsKnown}

-- if Q holds of each variable that belongs to the table, it holds of each in the list of all variables
pub each_variable : (table : Table) (Q : Var → Type 0) → ((v : Var) → IsKnown table v → Q v) → AllByRecursion Q (variables table)
each_variable table Q h =
    each_append Q (map Slack (range_with_len 0 (length table.sizes)) ++ map Stage (range_with_len 0 (length table.stages))) (map Column (range_with_len 0 (length table.columns)))
    (each_append Q (map Slack (range_with_len 0 (length table.sizes))) (map Stage (range_with_len 0 (length table.stages)))
    (each_mapped Q Slack (range_with_len 0 (length table.sizes)) (each_range (λ t. Q (Slack t)) 0 (length table.sizes) (λ k l m. h (Slack k) (omega arith))))
    (each_mapped Q Stage (range_with_len 0 (length table.stages)) (each_range (λ t. Q (Stage t)) 0 (length table.stages) (λ k l m. h (Stage k) (omega arith)))))
    (each_mapped Q Column (range_with_len 0 (length table.columns)) (each_range (λ t. Q (Column t)) 0 (length table.columns) (λ k l m. h (Column k) (omega arith))))

pub each_slack : (table : Table) (Q : Var → Type 0) (t : ℕ) → AllByRecursion Q (variables table) → t < length table.sizes → Q (Slack t)
each_slack table Q t h l =
    let first = each_left Q (map Slack (range_with_len 0 (length table.sizes)) ++ map Stage (range_with_len 0 (length table.stages))) (map Column (range_with_len 0 (length table.columns))) h in
    let slacks = each_left Q (map Slack (range_with_len 0 (length table.sizes))) (map Stage (range_with_len 0 (length table.stages))) first in
    range_each (λ t. Q (Slack t)) 0 (length table.sizes) t (each_of_map Q Slack (range_with_len 0 (length table.sizes)) slacks) (omega arith) (omega arith)

pub row_each : (table : Table) (Q : ℕ → Type 0) (i : ℕ) → AllByRecursion Q (row_numbers table) → i < length table.rows → Q i
row_each table Q i h l = range_each Q 0 (length table.rows) i h (omega arith) (omega arith)

pub each_row : (table : Table) (Q : ℕ → Type 0) → ((i : ℕ) → i < length table.rows → Q i) → AllByRecursion Q (row_numbers table)
each_row table Q h = each_range Q 0 (length table.rows) (λ k l m. h k (omega arith))

-- ---- the choice
pub record IsChosen (table : Table) (r : ℕ) (v : Var) : Type 0 where
  pub entered : entering table ≡ Some v
  pub left : leaving table v ≡ Some r

with_variable : Var → ℕ → ℕ × Var
with_variable x i = (i, x)

pub IsChosen-from : (table : Table) (r : ℕ) (v : Var) → choice table ≡ Some (r, v) → IsChosen table r v
unfolding choice with_variable
IsChosen-from table r v e = by (entering table) refl e
  where
    paired : Var → Option (ℕ × Var)
    paired x = option_map (with_variable x) (leaving table x)

    by : (o : Option Var) → entering table ≡ o → option_and_then paired o ≡ Some (r, v) → IsChosen table r v
    by None f k = absurd cc
    by (Some x) f k = then (leaving table x) refl k
      where
        then : (o : Option ℕ) → leaving table x ≡ o → option_map (with_variable x) o ≡ Some (r, v) → IsChosen table r v
        then None g k = absurd cc
        then (Some i) g k =
            let pair : ◌≡◌ {A = ℕ × Var} (i, x) (r, v) = cc in
            let same_v : x ≡ v = ap (λ p. p.1) pair in
            let same_r : i ≡ r = ap (λ p. p.0) pair in
            record { entered = f ∙ ap Some same_v; left = sym (ap (leaving table) same_v) ∙ g ∙ ap Some same_r }

module _ (table : Table) (r : ℕ) (v : Var) (c : IsChosen table r v) where
  pub left-row : r < length table.rows
  unfolding leaving
  left-row = find-each (is_least table v) (λ i. i < length table.rows) (row_numbers table) r (each_row table (λ i. i < length table.rows) (λ i l. l)) c.left

  least : is_least table v r ≡ true
  unfolding leaving
  least = find-passes (is_least table v) (row_numbers table) r c.left

  pub left-positive : pos 0 <ℤ coefficient_at table r v
  left-positive = lt-tested (pos 0) (coefficient_at table r v) (and_parts (may_leave table v r) (list_all (λ j. not (may_leave table v j) || not (leaves_before table v j r)) (row_numbers table)) least).0

  -- no row with a coefficient above 0 has a lesser ratio of right side to coefficient than row r, whose basic variable leaves
  pub left-least : (i : ℕ) → i < length table.rows → pos 0 <ℤ coefficient_at table i v → ((row_at table r).b *ℤ coefficient_at table i v) ≤ℤ ((row_at table i).b *ℤ coefficient_at table r v)
  left-least i l positive =
      let all = each_from_list_all (λ j. not (may_leave table v j) || not (leaves_before table v j r)) (row_numbers table)
      (and_parts (may_leave table v r) (list_all (λ j. not (may_leave table v j) || not (leaves_before table v j r)) (row_numbers table)) least).1 in
      let here = row_each table (λ j. (not (may_leave table v j) || not (leaves_before table v j r)) ≡ true) i all l in
      by (may_leave table v i) (int_lt ((row_at table i).b *ℤ coefficient_at table r v) ((row_at table r).b *ℤ coefficient_at table i v)) refl refl here
    where
      by : (a b : Bool) → may_leave table v i ≡ a → int_lt ((row_at table i).b *ℤ coefficient_at table r v) ((row_at table r).b *ℤ coefficient_at table i v) ≡ b →
          (not a || not (b || (int_eq ((row_at table i).b *ℤ coefficient_at table r v) ((row_at table r).b *ℤ coefficient_at table i v) && comes_before (basic_at table i) (basic_at table r)))) ≡ true →
          ((row_at table r).b *ℤ coefficient_at table i v) ≤ℤ ((row_at table i).b *ℤ coefficient_at table r v)
      by false b e f k = absurd (omega (arith, ints))
      by true true e f k = absurd cc
      by true false e f k = omega (arith, ints)
