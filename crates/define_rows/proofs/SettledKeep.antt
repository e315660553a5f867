-- Each step keeps `KeepsStages`: the record of settled classes still agrees with the closed rows.
use Rattle.std.proofs.Common.{◌≡◌, ℕ, zero, suc, ◌+◌, ◌<◌, ◌≤◌, Bool, true, false, cond, not, ◌||◌, List, [], ◌∷◌, ◌++◌, length, map, get_or, set, replicate, Ok, ℤ, pos, ◌≤ℤ◌, ◌<ℤ◌, refl, sym, ap, ◌∙◌, subst, arith, inl, inr, ◌⊎◌}
use Rattle.std.specs.Prelude.{int_lt, slice_index, count_by}
use Rattle.std.proofs.lemmas.Int.{ints}
use Rattle.std.proofs.lemmas.Bool.{cases_lt, not-true, not-false}
use Rattle.std.proofs.lemmas.List.{get_or_append_left, get_or_push, get_or_past, get_or_default, get_or-map, get_or-replicate, length_push, length-map, length-replicate}
use Rattle.std.proofs.lemmas.List.Sums.{sum_by-cons}
use Rattle.std.proofs.Math.Bool.{or-true}
use Rattle.define_pools.proofs.Integers.{tested-lt}
use Rattle.define_rows.specs.declared.Var.{Var}
use Rattle.define_rows.specs.Row.{Row, entry}
use Rattle.define_rows.specs.Table.{Table, row_at}
use Rattle.define_rows.specs.Pivot.{rows_after, pivot, first_rows, first_table, start}
use Rattle.define_rows.specs.Width.{width_limit, all_in_turn, reach_operations}
use Rattle.define_rows.specs.Steps.{enter_stage, open_row, settled_by, closed_by, close_stage, add_column}
use Rattle.define_rows.specs.InOrder.{IsInOrder, settled_count}
use Rattle.define_rows.specs.Laws.{HasClosedRowsOf, IsPivoted, MayClose, MayEnter}
use Rattle.define_rows.specs.Settled.{was_unsettled, closed_entry, Settles, KeepsStages}
use Rattle.define_rows.proofs.PivotLaws.{after-Ok_parts}
use Rattle.define_rows.proofs.Keeps.{pivot-keeps_closed}
use Rattle.define_rows.proofs.StepsKeep.{close-keeps, some_settle, length-settled_by}

ones : Bool → ℕ
ones b = cond b 1 0

-- ---- the first table has no stage, and nobody is settled
nobody : (n t : ℕ) → get_or (replicate n false) t false ≡ false
nobody n t = by (cases_lt t n)
  where
    by : (t < n) ⊎ (n ≤ t) → get_or (replicate n false) t false ≡ false
    by (inl l) = get_or-replicate n t false false l
    by (inr l) = get_or_past (replicate n false) t false (omega (arith, length-replicate n false))

first-keeps : (sizes first : List ℕ) (bits : ℕ) → KeepsStages (first_table sizes first bits)
first-keeps sizes first bits = record {
  none_below = λ k t l u. absurd (omega arith);
  some_above = λ k l. absurd (omega arith);
  settled_by_row = λ k t l a. absurd (omega arith);
  settled_by_stage = λ t e. let none = nobody (length sizes) t in absurd cc;
  no_row_before = λ j k t c l m u. absurd (omega arith);
  some_stage_before = λ k t l m u. absurd (omega arith);
}

pub start-keeps_stages : (sizes first : List ℕ) (bits : ℕ) (made : Table) → start sizes first bits ≡ Ok made → KeepsStages made
unfolding start
start-keeps_stages sizes first bits made e =
    let parts = after-Ok_parts (all_in_turn (reach_operations (width_limit bits) sizes) 0 (first_rows first)) (λ reaches. Ok (first_table sizes first bits)) made e in
    let same : ◌≡◌ {A = Table} (first_table sizes first bits) made = cc in subst KeepsStages same (first-keeps sizes first bits)

-- ---- a column is added
pub add-keeps_stages : (table : Table) (counts : List ℕ) → KeepsStages table → KeepsStages (add_column table counts)
unfolding add_column
add-keeps_stages table counts h = record {
  none_below = h.none_below;
  some_above = λ k l. let s = h.some_above k l in (s.0, again s.1);
  settled_by_row = h.settled_by_row;
  settled_by_stage = λ t e. let s = h.settled_by_stage t e in (s.0, again s.1);
  no_row_before = h.no_row_before;
  some_stage_before = λ k t l m u. let s = h.some_stage_before k t l m u in (s.0, s.1, again s.2);
}
  where
    again : {k t : ℕ} → Settles table k t → Settles (record table { columns = table.columns ++ counts ∷ [] }) k t
    again s = record { closed = s.closed; unsettled = s.unsettled; above = s.above }

-- ---- a pivot
module _ (table : Table) (rows : List Row) (r : ℕ) (v : Var) where
  made : Table
  made = record table { rows = rows; basic = set table.basic r v; pivots = table.pivots + 1 }

  replaced-keeps : HasClosedRowsOf table (record table { rows = rows; basic = set table.basic r v; pivots = table.pivots + 1 }) → KeepsStages table →
      KeepsStages (record table { rows = rows; basic = set table.basic r v; pivots = table.pivots + 1 })
  unfolding made
  replaced-keeps kept h = record {
    none_below = λ k t l u. subst (λ z. pos 0 ≤ℤ z) (sym (same k t l)) (h.none_below k t l u);
    some_above = λ k l. let s = h.some_above k l in (s.0, again k s.0 s.1);
    settled_by_row = λ k t l a. h.settled_by_row k t l (subst (λ z. pos 0 <ℤ z) (same k t l) a);
    settled_by_stage = λ t e. let s = h.settled_by_stage t e in (s.0, again s.0 t s.1);
    no_row_before = λ j k t c l m u. subst (λ z. z ≤ℤ pos 0) (sym (same j t c)) (h.no_row_before j k t c l m u);
    some_stage_before = λ k t l m u. let s = h.some_stage_before k t l m u in (s.0, s.1, again s.0 t s.2);
  }
    where
      same : (k t : ℕ) → k < length table.closed → closed_entry made k t ≡ closed_entry table k t
      same k t l = ap (λ row. entry row t) (kept.numbers k 0 l)

      again : (k t : ℕ) → Settles table k t → Settles made k t
      again k t s = record { closed = s.closed; unsettled = s.unsettled; above = subst (λ z. pos 0 <ℤ z) (sym (same k t s.closed)) s.above }

pub pivot-keeps_stages : (table made : Table) (r : ℕ) (v : Var) → IsPivoted table made r v → KeepsStages table → KeepsStages made
unfolding pivot
pivot-keeps_stages table made r v p h =
    let parts = after-Ok_parts (rows_after table r v) (λ rows. Ok (record table { rows = rows; basic = set table.basic r v; pivots = table.pivots + 1 })) made p.pivoted in
    let same : ◌≡◌ {A = Table} (record table { rows = parts.0; basic = set table.basic r v; pivots = table.pivots + 1 }) made = cc in
    let kept = pivot-keeps_closed table p.in_order p.open_now r v p.chosen made p.pivoted in
    subst KeepsStages same (replaced-keeps table parts.0 r v (subst (HasClosedRowsOf table) (sym same) kept) h)

-- ---- a stage is entered
-- a class that `map not settled` marks is unsettled
unsettled_marks : (settled : List Bool) (t : ℕ) → get_or (map not settled) t false ≡ true → (t < length settled) × (get_or settled t false ≡ false)
unsettled_marks settled t e = by (cases_lt t (length settled))
  where
    by : (t < length settled) ⊎ (length settled ≤ t) → (t < length settled) × (get_or settled t false ≡ false)
    by (inl l) = (l, not-true (get_or settled t false) (sym (get_or-map not settled t false false l) ∙ e))
    by (inr l) = let past : get_or (map not settled) t false ≡ false = get_or_past (map not settled) t false (omega (arith, length-map settled not)) in absurd cc

pub enter-keeps_stages : (table : Table) → MayEnter table → KeepsStages table → KeepsStages (enter_stage table)
unfolding enter_stage ones
enter-keeps_stages table may h = record {
  none_below = λ k t l u. h.none_below k t l (sym (old k t (omega (arith, shut))) ∙ u);
  some_above = λ k l. let s = h.some_above k l in (s.0, again s.1);
  settled_by_row = h.settled_by_row;
  settled_by_stage = λ t e. let s = h.settled_by_stage t e in (s.0, again s.1);
  no_row_before = λ j k t c l m u. before j k t c l m u (cases_lt k (length table.stages));
  some_stage_before = λ k t l m u. some k t l m u (cases_lt k (length table.stages));
}
  where
    shut : length table.stages ≡ length table.closed
    shut = let n : length table.stages ≡ length table.closed + 0 = may.in_order.stage_count ∙ ap (λ b. length table.closed + ones b) may.shut in omega arith

    later : Table
    later = record table { stages = table.stages ++ map not table.settled ∷ []; in_stage = true }

    old : (k t : ℕ) → k < length table.stages → get_or (get_or (table.stages ++ map not table.settled ∷ []) k []) t false ≡ was_unsettled table k t
    old k t l = ap (λ marks. get_or marks t false) (get_or_append_left table.stages (map not table.settled ∷ []) [] k l)

    newest : (k t : ℕ) → length table.stages ≡ k → get_or (get_or (table.stages ++ map not table.settled ∷ []) k []) t false ≡ get_or (map not table.settled) t false
    newest k t e = ap (λ marks. get_or marks t false) (get_or_push table.stages (map not table.settled) [] k e)

    again : {k t : ℕ} → Settles table k t → Settles (record table { stages = table.stages ++ map not table.settled ∷ []; in_stage = true }) k t
    again {k} {t} s = record { closed = s.closed; unsettled = old k t (let l = s.closed in omega (arith, shut)) ∙ s.unsettled; above = s.above }

    before : (j k t : ℕ) → j < length table.closed → j < k → k < length (table.stages ++ map not table.settled ∷ []) → get_or (get_or (table.stages ++ map not table.settled ∷ []) k []) t false ≡ true →
        (k < length table.stages) ⊎ (length table.stages ≤ k) → closed_entry table j t ≤ℤ pos 0
    before j k t c l m u (inl o) = h.no_row_before j k t c l o (sym (old k t o) ∙ u)
    before j k t c l m u (inr o) =
        let marks = unsettled_marks table.settled t (sym (newest k t (omega (arith, length_push table.stages (map not table.settled)))) ∙ u) in
        by (int_lt (pos 0) (closed_entry table j t)) refl marks.1
      where
        by : (b : Bool) → int_lt (pos 0) (closed_entry table j t) ≡ b → get_or table.settled t false ≡ false → closed_entry table j t ≤ℤ pos 0
        by true e f = let settled = h.settled_by_row j t c (omega (arith, ints)) in absurd cc
        by false e f = omega (arith, ints)

    some : (k t : ℕ) → k < length (table.stages ++ map not table.settled ∷ []) → t < length table.sizes → get_or (get_or (table.stages ++ map not table.settled ∷ []) k []) t false ≡ false →
        (k < length table.stages) ⊎ (length table.stages ≤ k) → (j : ℕ) × (j < k) × Settles (record table { stages = table.stages ++ map not table.settled ∷ []; in_stage = true }) j t
    some k t l m u (inl o) = let s = h.some_stage_before k t o m (sym (old k t o) ∙ u) in (s.0, s.1, again s.2)
    some k t l m u (inr o) =
        let marks = newest k t (omega (arith, length_push table.stages (map not table.settled))) in
        let settled : get_or table.settled t false ≡ true = not-false (get_or table.settled t false) (sym (get_or-map not table.settled t false false (omega (arith, may.in_order.settled_each))) ∙ sym marks ∙ u) in
        let s = h.settled_by_stage t settled in
        let c = (s.1).closed in
        (s.0, omega (arith, shut), again s.1)

-- ---- a stage closes
settled-at : (xs : List ℤ) (was : List Bool) (t : ℕ) → length xs ≡ length was → t < length was → get_or (settled_by xs was) t false ≡ (get_or was t false || int_lt (pos 0) (get_or xs t (pos 0)))
settled-at xs [] t e l = absurd (omega arith)
settled-at [] (b ∷ was) t e l = absurd (omega arith)
settled-at (x ∷ xs) (b ∷ was) zero e l = refl
settled-at (x ∷ xs) (b ∷ was) (suc t) e l = settled-at xs was t (omega arith) (omega arith)

-- if more classes are settled than before, some class is settled that was not
somebody-settles : (xs : List ℤ) (was : List Bool) → count_by (λ s. s) was < count_by (λ s. s) (settled_by xs was) → (t : ℕ) × (t < length was) × (get_or was t false ≡ false) × (int_lt (pos 0) (get_or xs t (pos 0)) ≡ true)
somebody-settles [] [] l = absurd (omega arith)
somebody-settles (x ∷ xs) [] l = absurd (omega arith)
somebody-settles [] (b ∷ was) l = absurd (omega arith)
somebody-settles (x ∷ xs) (true ∷ was) l =
    let rest = somebody-settles xs was (omega (arith, sum_by-cons (λ (b : Bool). cond b 1 0) true was, sum_by-cons (λ (b : Bool). cond b 1 0) true (settled_by xs was))) in
    (suc rest.0, omega (arith, rest.1), rest.2, rest.3)
somebody-settles (x ∷ xs) (false ∷ was) l = by (int_lt (pos 0) x) refl (somebody-settles xs was)
  where
    by : (b : Bool) → int_lt (pos 0) x ≡ b →
        (count_by (λ s. s) was < count_by (λ s. s) (settled_by xs was) → (t : ℕ) × (t < length was) × (get_or was t false ≡ false) × (int_lt (pos 0) (get_or xs t (pos 0)) ≡ true)) →
        (t : ℕ) × (t < length (false ∷ was)) × (get_or (false ∷ was) t false ≡ false) × (int_lt (pos 0) (get_or (x ∷ xs) t (pos 0)) ≡ true)
    by true e later = (0, omega arith, refl, e)
    by false e later =
        let here : count_by (λ s. s) (settled_by (x ∷ xs) (false ∷ was)) ≡ 0 + count_by (λ s. s) (settled_by xs was) =
        sum_by-cons (λ (b : Bool). cond b 1 0) (int_lt (pos 0) x) (settled_by xs was) ∙ ap (λ b. cond b 1 0 + count_by (λ s. s) (settled_by xs was)) e in
        let rest = later (omega (arith, sum_by-cons (λ (b : Bool). cond b 1 0) false was, here)) in (suc rest.0, omega (arith, rest.1), rest.2, rest.3)

module _ (table : Table) (may : MayClose table) (h : KeepsStages table) where
  closed : Table
  closed = record table { closed = table.closed ++ open_row table ∷ []; settled = settled_by (row_at table (open_row table)).a table.settled; in_stage = false }

  in_order : IsInOrder closed
  unfolding closed closed_by
  in_order = close-keeps table may.in_order may.open_now may.done

  more_settle : settled_count table < settled_count closed
  unfolding closed closed_by
  more_settle = some_settle table may.in_order may.open_now may.done

  stages_are : length table.stages ≡ length table.closed + 1
  unfolding ones
  stages_are = may.in_order.stage_count ∙ ap (λ b. length table.closed + ones b) may.open_now

  earlier : (k : ℕ) → k < length table.closed → slice_index (table.closed ++ open_row table ∷ []) k ≡ slice_index table.closed k
  earlier k l = get_or_append_left table.closed (open_row table ∷ []) 0 k l

  last : (k : ℕ) → length table.closed ≡ k → slice_index (table.closed ++ open_row table ∷ []) k ≡ open_row table
  last k e = get_or_push table.closed (open_row table) 0 k e

  entry_old : (k t : ℕ) → k < length table.closed → closed_entry closed k t ≡ closed_entry table k t
  unfolding closed
  entry_old k t l = ap (λ i. entry (row_at table i) t) (earlier k l)

  entry_new : (k t : ℕ) → length table.closed ≡ k → closed_entry closed k t ≡ get_or (row_at table (open_row table)).a t (pos 0)
  unfolding closed
  entry_new k t e = ap (λ i. entry (row_at table i) t) (last k e)

  long : length (row_at table (open_row table)).a ≡ length table.settled
  unfolding closed
  long =
      let known : slice_index (table.closed ++ open_row table ∷ []) (length table.closed) < length table.rows = in_order.closed_known (length table.closed) 0 (omega (arith, length_push table.closed (open_row table))) in
      may.in_order.entry_count (open_row table) (record { b = pos 0; a = [] }) (subst (λ i. i < length table.rows) (last (length table.closed) refl) known) ∙ sym may.in_order.settled_each

  marks : (k t : ℕ) → length table.closed ≡ k → was_unsettled table k t ≡ get_or (map not table.settled) t false
  marks k t e = ap (λ q. get_or q t false) (ap (λ n. get_or table.stages n []) (sym e) ∙ may.in_order.open_same may.open_now)

  -- an unsettled class has no entry below 0 in the row that closes
  not_below : (t : ℕ) → t < length table.settled → get_or table.settled t false ≡ false → pos 0 ≤ℤ get_or (row_at table (open_row table)).a t (pos 0)
  unfolding closed
  not_below t l u = by (int_lt (pos 0) (get_or (row_at table (open_row table)).a t (pos 0))) refl
    where
      by : (b : Bool) → int_lt (pos 0) (get_or (row_at table (open_row table)).a t (pos 0)) ≡ b → pos 0 ≤ℤ get_or (row_at table (open_row table)).a t (pos 0)
      by true e = omega (arith, ints)
      by false e =
          let still : get_or (settled_by (row_at table (open_row table)).a table.settled) t false ≡ false =
          settled-at (row_at table (open_row table)).a table.settled t long l ∙ ap (λ b. b || int_lt (pos 0) (get_or (row_at table (open_row table)).a t (pos 0))) u ∙ e in
          let read = get_or_default (settled_by (row_at table (open_row table)).a table.settled) t true false (omega (arith, length-settled_by (row_at table (open_row table)).a table.settled)) in
          let zero = in_order.closed_entries (length table.closed) t (omega (arith, length_push table.closed (open_row table))) (read ∙ still) in
          omega (arith, ints, zero, entry_new (length table.closed) t refl)

  again : (k t : ℕ) → Settles table k t → Settles closed k t
  unfolding closed
  again k t s = record {
    closed = (let l = s.closed in omega (arith, length_push table.closed (open_row table)));
    unsettled = s.unsettled;
    above = subst (λ z. pos 0 <ℤ z) (sym (entry_old k t s.closed)) s.above;
  }

  settles_now : (t : ℕ) → t < length table.settled → get_or table.settled t false ≡ false → int_lt (pos 0) (get_or (row_at table (open_row table)).a t (pos 0)) ≡ true → Settles closed (length table.closed) t
  unfolding closed
  settles_now t l u e = record {
    closed = omega (arith, length_push table.closed (open_row table));
    unsettled = marks (length table.closed) t refl ∙ get_or-map not table.settled t false false l ∙ ap not u;
    above = (let at = entry_new (length table.closed) t refl in omega (arith, ints));
  }

  closed-keeps : KeepsStages closed
  unfolding closed
  closed-keeps = record {
    none_below = λ k t l u. below k t l u (cases_lt k (length table.closed));
    some_above = λ k l. some k l (cases_lt k (length table.closed));
    settled_by_row = λ k t l a. settled k t l a (cases_lt k (length table.closed));
    settled_by_stage = settlers;
    no_row_before = λ j k t c l m u. let o : j < length table.closed = omega (arith, stages_are) in subst (λ z. z ≤ℤ pos 0) (sym (entry_old j t o)) (h.no_row_before j k t o l m u);
    some_stage_before = λ k t l m u. let s = h.some_stage_before k t l m u in (s.0, s.1, again s.0 t s.2);
  }
    where
      below : (k t : ℕ) → k < length (table.closed ++ open_row table ∷ []) → was_unsettled table k t ≡ true → (k < length table.closed) ⊎ (length table.closed ≤ k) → pos 0 ≤ℤ closed_entry closed k t
      below k t l u (inl o) = subst (λ z. pos 0 ≤ℤ z) (sym (entry_old k t o)) (h.none_below k t o u)
      below k t l u (inr o) =
          let e : length table.closed ≡ k = omega (arith, length_push table.closed (open_row table)) in
          let now = unsettled_marks table.settled t (sym (marks k t e) ∙ u) in
          subst (λ z. pos 0 ≤ℤ z) (sym (entry_new k t e)) (not_below t now.0 now.1)

      some : (k : ℕ) → k < length (table.closed ++ open_row table ∷ []) → (k < length table.closed) ⊎ (length table.closed ≤ k) → (t : ℕ) × Settles closed k t
      some k l (inl o) = let s = h.some_above k o in (s.0, again k s.0 s.1)
      some k l (inr o) =
          let e : length table.closed ≡ k = omega (arith, length_push table.closed (open_row table)) in
          let s = somebody-settles (row_at table (open_row table)).a table.settled more_settle in
          (s.0, subst (λ n. Settles closed n s.0) e (settles_now s.0 s.1 s.2 s.3))

      in_range : (k t : ℕ) → length table.closed ≡ k → pos 0 <ℤ closed_entry closed k t → t < length table.settled
      in_range k t e a = by (cases_lt t (length table.settled))
        where
          by : (t < length table.settled) ⊎ (length table.settled ≤ t) → t < length table.settled
          by (inl l) = l
          by (inr l) = let none = get_or_past (row_at table (open_row table)).a t (pos 0) (omega (arith, long)) in absurd (omega (arith, ints, entry_new k t e, none))

      stays : (t : ℕ) → get_or table.settled t false ≡ true → get_or (settled_by (row_at table (open_row table)).a table.settled) t false ≡ true
      stays t e = by (cases_lt t (length table.settled))
        where
          by : (t < length table.settled) ⊎ (length table.settled ≤ t) → get_or (settled_by (row_at table (open_row table)).a table.settled) t false ≡ true
          by (inl l) = settled-at (row_at table (open_row table)).a table.settled t long l ∙ ap (λ b. b || int_lt (pos 0) (get_or (row_at table (open_row table)).a t (pos 0))) e
          by (inr l) = let past : get_or table.settled t false ≡ false = get_or_past table.settled t false l in absurd cc

      settled : (k t : ℕ) → k < length (table.closed ++ open_row table ∷ []) → pos 0 <ℤ closed_entry closed k t → (k < length table.closed) ⊎ (length table.closed ≤ k) →
          get_or (settled_by (row_at table (open_row table)).a table.settled) t false ≡ true
      settled k t l a (inl o) = stays t (h.settled_by_row k t o (subst (λ z. pos 0 <ℤ z) (entry_old k t o) a))
      settled k t l a (inr o) =
          let e : length table.closed ≡ k = omega (arith, length_push table.closed (open_row table)) in
          let positive : int_lt (pos 0) (get_or (row_at table (open_row table)).a t (pos 0)) ≡ true = tested-lt (pos 0) (get_or (row_at table (open_row table)).a t (pos 0)) (subst (λ z. pos 0 <ℤ z) (entry_new k t e) a) in
          settled-at (row_at table (open_row table)).a table.settled t long (in_range k t e a) ∙ ap (λ b. get_or table.settled t false || b) positive ∙ or-true (get_or table.settled t false)

      settlers : (t : ℕ) → get_or (settled_by (row_at table (open_row table)).a table.settled) t false ≡ true → (k : ℕ) × Settles closed k t
      settlers t e = by (cases_lt t (length table.settled))
        where
          by : (t < length table.settled) ⊎ (length table.settled ≤ t) → (k : ℕ) × Settles closed k t
          by (inr l) =
              let past : get_or (settled_by (row_at table (open_row table)).a table.settled) t false ≡ false =
              get_or_past (settled_by (row_at table (open_row table)).a table.settled) t false (omega (arith, length-settled_by (row_at table (open_row table)).a table.settled)) in absurd cc
          by (inl l) = then (get_or table.settled t false) refl
            where
              then : (b : Bool) → get_or table.settled t false ≡ b → (k : ℕ) × Settles closed k t
              then true f = let s = h.settled_by_stage t f in (s.0, again s.0 t s.1)
              then false f =
                  (length table.closed, settles_now t l f (sym (ap (λ b. b || int_lt (pos 0) (get_or (row_at table (open_row table)).a t (pos 0))) f) ∙ sym (settled-at (row_at table (open_row table)).a table.settled t long l) ∙ e))

  pub close-keeps_stages : KeepsStages (close_stage table)
  unfolding closed closed_by
  close-keeps_stages = closed-keeps
