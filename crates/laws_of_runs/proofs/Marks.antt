-- The volunteers who are settled by the stages before stage k are exactly those who were settled when stage k was entered.
use Rattle.std.proofs.Common.{◌≡◌, ℕ, zero, suc, ◌+◌, ◌<◌, ◌≤◌, Bool, true, false, cond, not, ◌||◌, [], length, get_or, ℤ, pos, ◌<ℤ◌, ◌≤ℤ◌, refl, sym, ap, ap₂, ◌∙◌, subst, arith, inl, inr, ◌⊎◌}
use Rattle.std.specs.Prelude.{count_by, int_lt}
use Rattle.std.specs.List.{list_all}
use Rattle.std.proofs.lemmas.Bool.{cases_lt, false≢true, or_right}
use Rattle.std.proofs.lemmas.Int.{ints}
use Rattle.std.proofs.lemmas.List.{get_or_past}
use Rattle.std.proofs.lemmas.List.Sums.{count_by-le-length}
use Rattle.define_pools.proofs.Lists.{all_pass}
use Rattle.define_pools.proofs.Each.{each_range, list_all_from_each}
use Rattle.define_pools.specs.Certificate.{is_positive, is_settled}
use Rattle.define_pools.specs.Pool.{Pool, everybody}
use Rattle.define_rows.specs.InOrder.{settled_count}
use Rattle.define_rows.specs.Settled.{KeepsStages, closed_entry, was_unsettled}
use Rattle.define_rows.specs.Table.{Table}
use Rattle.define_searches.specs.Classes.{MakesClasses, class_number, classes_by}
use Rattle.define_searches.proofs.ClassNumbers.{number_below}
use Rattle.define_runs.specs.Keeps.{KeepsRun}
use Rattle.define_runs.specs.Run.{RunLimits}
use Rattle.laws_of_runs.proofs.ClosedStages.{closed_row, earlier, size_count, stage_at}
use Rattle.laws_of_runs.proofs.StageRows.{weight_is_entry}

not_above : (z : ℤ) → z ≤ℤ pos 0 → int_lt (pos 0) z ≡ false
not_above z low = by (int_lt (pos 0) z) refl
  where
    by : (b : Bool) → int_lt (pos 0) z ≡ b → b ≡ false
    by false t = refl
    by true t = absurd (omega (arith, ints, low, t))

is_above : (z : ℤ) → pos 0 <ℤ z → int_lt (pos 0) z ≡ true
is_above z above = by (int_lt (pos 0) z) refl
  where
    by : (b : Bool) → int_lt (pos 0) z ≡ b → b ≡ true
    by true t = refl
    by false t = absurd (omega (arith, ints, above, t))

module _ (pool : Pool) (alike : ℕ → ℕ → Bool) (makes : MakesClasses pool alike) (limits : RunLimits) (table : Table) (keeps : KeepsRun (classes_by alike pool) limits table) (stages : KeepsStages table) (shut : table.in_stage ≡ false) where
  abbrev count : ℕ
  count = length pool.volunteers

  abbrev class_at : ℕ → ℕ
  class_at i = class_number (classes_by alike pool).classes i

  abbrev settled_before : ℕ → ℕ → Bool
  settled_before k i = is_settled (earlier (classes_by alike pool) table k) i

  pub stage_count : length table.stages ≡ length table.closed
  stage_count = keeps.in_order.stage_count ∙ ap (λ b. length table.closed + cond b 1 0) shut ∙ nothing (length table.closed)
    where
      nothing : (n : ℕ) → n + 0 ≡ n
      nothing n = omega arith

  -- ---- whom one stage settles

  pub positive_at : (k i : ℕ) → i < count → pos 0 <ℤ closed_entry table k (class_at i) → is_positive (stage_at (classes_by alike pool) table k) i ≡ true
  positive_at k i l above = ap (int_lt (pos 0)) (weight_is_entry pool alike makes (closed_row table k) i l) ∙ is_above (closed_entry table k (class_at i)) above

  not_positive_at : (k i : ℕ) → i < count → closed_entry table k (class_at i) ≤ℤ pos 0 → is_positive (stage_at (classes_by alike pool) table k) i ≡ false
  not_positive_at k i l low = ap (int_lt (pos 0)) (weight_is_entry pool alike makes (closed_row table k) i l) ∙ not_above (closed_entry table k (class_at i)) low

  -- ---- whom the earlier stages settle

  settled_by_one : (k j i : ℕ) → i < count → j < k → pos 0 <ℤ closed_entry table j (class_at i) → settled_before k i ≡ true
  settled_by_one zero j i l m above = absurd (omega arith)
  settled_by_one (suc k) j i l m above = by (λ before. settled_by_one k j i l before above) (cases_lt j k)
    where
      by : (j < k → settled_before k i ≡ true) → (j < k) ⊎ (k ≤ j) → settled_before (suc k) i ≡ true
      by rest (inl before) = or_right (is_positive (stage_at (classes_by alike pool) table k) i) (settled_before k i) (rest before)
      by rest (inr last) =
          let same : j ≡ k = omega arith in
          ap (λ b. b || settled_before k i) (positive_at k i l (subst (λ j. pos 0 <ℤ closed_entry table j (class_at i)) same above))

  settled_by_none : (k i : ℕ) → i < count → ((j : ℕ) → j < k → closed_entry table j (class_at i) ≤ℤ pos 0) → settled_before k i ≡ false
  settled_by_none zero i l low = refl
  settled_by_none (suc k) i l low = ap₂ (λ a b. a || b) (not_positive_at k i l (low k (omega arith))) (settled_by_none k i l (λ j m. low j (omega arith)))

  -- the stages before stage k settle exactly the volunteers whose class was settled when stage k was entered
  pub marked : (k i : ℕ) → k < length table.closed → i < count → settled_before k i ≡ not (was_unsettled table k (class_at i))
  marked k i l m = by (was_unsettled table k (class_at i)) refl
    where
      by : (b : Bool) → was_unsettled table k (class_at i) ≡ b → settled_before k i ≡ not b
      by true e = settled_by_none k i m (λ j before. stages.no_row_before j k (class_at i) (omega arith) before (omega (arith, stage_count)) e)
      by false e =
          let one = stages.some_stage_before k (class_at i) (omega (arith, stage_count)) (omega (arith, size_count pool alike makes limits table keeps, number_below pool alike makes i m)) e in
          settled_by_one k one.0 i m one.1 one.2.above

  pub was_left : (k i : ℕ) → k < length table.closed → i < count → settled_before k i ≡ false → was_unsettled table k (class_at i) ≡ true
  was_left k i l m s = by (was_unsettled table k (class_at i)) (sym (marked k i l m) ∙ s)
    where
      by : (b : Bool) → not b ≡ false → b ≡ true
      by true e = refl
      by false e = absurd (false≢true (sym e))

  -- each class that is marked as unsettled is one of the pool's classes
  pub within : (k t : ℕ) → k < length table.closed → was_unsettled table k t ≡ true → t < length (classes_by alike pool).classes
  within k t l u = by (cases_lt t (length (classes_by alike pool).classes))
    where
      marks : length (get_or table.stages k []) ≡ length (classes_by alike pool).classes
      marks = keeps.in_order.stage_each k [] (omega (arith, stage_count)) ∙ size_count pool alike makes limits table keeps

      by : (t < length (classes_by alike pool).classes) ⊎ (length (classes_by alike pool).classes ≤ t) → t < length (classes_by alike pool).classes
      by (inl m) = m
      by (inr m) = absurd (false≢true (sym (get_or_past (get_or table.stages k []) t false (omega (arith, marks))) ∙ u))

  -- ---- at the end everybody is settled

  pub all_settled : length table.sizes ≤ settled_count table → list_all (is_settled (earlier (classes_by alike pool) table (length table.closed))) (everybody pool) ≡ true
  all_settled settled =
      list_all_from_each (is_settled (earlier (classes_by alike pool) table (length table.closed))) (everybody pool)
      (each_range (λ i. settled_before (length table.closed) i ≡ true) 0 count (λ i low l. each i (omega arith)))
    where
      full : count_by (λ s. s) table.settled ≡ length table.settled
      full = omega (arith, count_by-le-length (λ (s : Bool). s) table.settled, keeps.in_order.settled_each)

      each : (i : ℕ) → i < count → settled_before (length table.closed) i ≡ true
      each i l =
          let one = stages.settled_by_stage (class_at i) (all_pass table.settled (class_at i) full (omega (arith, keeps.in_order.settled_each, size_count pool alike makes limits table keeps, number_below pool alike makes i l))) in
          settled_by_one (length table.closed) one.0 i l one.1.closed one.1.above
