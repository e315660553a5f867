-- Entering a stage, adding a column and closing a stage keep a table in order (`IsInOrder`).
use Rattle.std.proofs.Common.{◌≡◌, ◌≢◌, ℕ, zero, suc, ◌+◌, ◌-◌, ◌<◌, ◌≤◌, Bool, true, false, cond, not, ◌&&◌, List, [], ◌∷◌, ◌++◌, length, map, get_or, Option, Some, None, ℤ, pos, ◌≤ℤ◌, ◌<ℤ◌, refl, sym, ap, ◌∙◌, subst, arith, inl, inr, ◌⊎◌, ⊎_elim}
use Rattle.std.specs.Prelude.{int_lt, slice_index, slice_index_or, count_by, unwrap_or}
use Rattle.std.specs.Ordering.{int_eq}
use Rattle.std.proofs.lemmas.Int.{ints}
use Rattle.std.proofs.lemmas.Bool.{cases_lt, not-true}
use Rattle.std.proofs.lemmas.Bool.Decides.{Decides-int_eq}
use Rattle.std.proofs.lemmas.List.{get_or_append_left, get_or_push, get_or_past, get_or_default, get_or-map, length_push, length-map}
use Rattle.std.proofs.lemmas.List.Elements.{All-push, recursion_from_All}
use Rattle.std.proofs.lemmas.List.Sums.{sum_by-cons}
use Rattle.define_pools.proofs.Each.{list_all_from_each}
use Rattle.define_pools.proofs.Found.{find-none}
use Rattle.define_pools.proofs.Integers.{product-not_positive}
use Rattle.define_rows.specs.declared.Var.{Var}
use Rattle.define_rows.specs.declared.Var.TheVariants.{Slack, Stage}
use Rattle.define_rows.specs.Row.{entry, sum_of_products}
use Rattle.define_rows.specs.Table.{Table, coefficient_at, row_at, basic_at, stage_variable, sizes_where, variables}
use Rattle.define_rows.specs.Choice.{basic_row, is_eligible, entering, entering_from, choice}
use Rattle.define_rows.specs.Steps.{enter_stage, open_row, settled_by, closed_by, close_stage, add_column}
use Rattle.define_rows.specs.InOrder.{IsUnsettled, IsInOrder, settled_count}
use Rattle.define_rows.proofs.CoefficientLaws.{coefficient-Slack, coefficient-Stage}
use Rattle.define_rows.proofs.Chosen.{each_slack}
use Rattle.define_rows.proofs.Entered.{place_of, marks_now, stages_are}
use Rattle.define_rows.proofs.Leaving.{entering-none}
use Rattle.define_rows.proofs.RowsStay.{as_before, as_itself, columns_stand, rows_stay, stages_stand}

ones : Bool → ℕ
ones b = cond b 1 0

pub enter-keeps : (table : Table) → IsInOrder table → table.in_stage ≡ false → settled_count table < length table.sizes → IsInOrder (enter_stage table)
unfolding enter_stage ones
enter-keeps table h shut some =
    let marks = map not table.settled in
    rows_stay table h table.columns (table.stages ++ marks ∷ []) (as_itself [] table.columns) (as_before [] table.stages marks) table.closed table.settled true table.pivots (columns_stand table h) (record {
      settled_each = h.settled_each;
      stage_each = All-push (λ m. length m ≡ length table.sizes) table.stages marks h.stage_each (length-map table.settled not ∙ h.settled_each);
      stage_count = length_push table.stages marks ∙ (let n : length table.stages + 1 ≡ length table.closed + 1 = omega (arith, h.stage_count, ap ones shut) in n);
      closed_known = h.closed_known;
      closed_basic = h.closed_basic;
      closed_entries = h.closed_entries;
      closed_few = h.closed_few;
      open_unsettled = λ e. some;
      open_same = λ e. get_or_push table.stages marks [] (length table.closed) (omega (arith, h.stage_count, ap ones shut));
    })

-- ---- a new column
pub add-keeps : (table : Table) (counts : List ℕ) → IsInOrder table → length counts ≡ length table.sizes → ((t : ℕ) → t < length table.sizes → slice_index counts t ≤ slice_index table.sizes t) →
    ((c : ℕ) → c < length table.columns → slice_index_or table.columns c [] ≢ counts) → IsInOrder (add_column table counts)
unfolding add_column
add-keeps table counts h long bound fresh =
    rows_stay table h (table.columns ++ counts ∷ []) table.stages (as_before [] table.columns counts) (as_itself [] table.stages) table.closed table.settled table.in_stage table.pivots (record {
      columns_different = λ c d l m e. different c d l m (cases_lt d (length table.columns)) e;
      count_each = All-push (λ c. length c ≡ length table.sizes) table.columns counts h.count_each long;
      count_bound = λ c t l m. bounded c t l m (cases_lt c (length table.columns));
    }) (stages_stand table h)
  where
    columns : List (List ℕ)
    columns = table.columns ++ counts ∷ []

    old : (c : ℕ) → c < length table.columns → get_or (table.columns ++ counts ∷ []) c [] ≡ get_or table.columns c []
    old c l = get_or_append_left table.columns (counts ∷ []) [] c l

    last : (c : ℕ) → c < length (table.columns ++ counts ∷ []) → length table.columns ≤ c → get_or (table.columns ++ counts ∷ []) c [] ≡ counts
    last c l m = get_or_push table.columns counts [] c (omega (arith, length_push table.columns counts))

    different : (c d : ℕ) → c < d → d < length (table.columns ++ counts ∷ []) → (d < length table.columns) ⊎ (length table.columns ≤ d) →
        get_or (table.columns ++ counts ∷ []) c [] ≡ get_or (table.columns ++ counts ∷ []) d [] → ⊥
    different c d l m (inl o) e = h.columns_different c d l o (sym (old c (omega arith)) ∙ e ∙ old d o)
    different c d l m (inr o) e =
        let n : c < length table.columns = omega (arith, length_push table.columns counts) in fresh c n (sym (old c n) ∙ e ∙ last d m o)

    bounded : (c t : ℕ) → c < length (table.columns ++ counts ∷ []) → t < length table.sizes → (c < length table.columns) ⊎ (length table.columns ≤ c) →
        slice_index (get_or (table.columns ++ counts ∷ []) c []) t ≤ slice_index table.sizes t
    bounded c t l m (inl o) = subst (λ q. slice_index q t ≤ slice_index table.sizes t) (sym (old c o)) (h.count_bound c t o m)
    bounded c t l m (inr o) = subst (λ q. slice_index q t ≤ slice_index table.sizes t) (sym (last c l o)) (bound t m)

-- ---- a stage closes
pub length-settled_by : (xs : List ℤ) (was : List Bool) → length (settled_by xs was) ≡ length was
length-settled_by [] [] = refl
length-settled_by (x ∷ xs) [] = refl
length-settled_by [] (b ∷ was) = refl
length-settled_by (x ∷ xs) (b ∷ was) = ap suc (length-settled_by xs was)

-- a class that is unsettled after the closing was unsettled before, and its entry in the closing row is not above 0
still_unsettled : (xs : List ℤ) (was : List Bool) (t : ℕ) → length xs ≡ length was → get_or (settled_by xs was) t true ≡ false → (get_or was t true ≡ false) × (int_lt (pos 0) (get_or xs t (pos 0)) ≡ false)
still_unsettled [] [] t e k = absurd cc
still_unsettled (x ∷ xs) [] t e k = absurd (omega arith)
still_unsettled [] (b ∷ was) t e k = absurd (omega arith)
still_unsettled (x ∷ xs) (true ∷ was) zero e k = absurd cc
still_unsettled (x ∷ xs) (false ∷ was) zero e k = (refl, k)
still_unsettled (x ∷ xs) (b ∷ was) (suc t) e k = still_unsettled xs was t (omega arith) k

count_one : Bool → ℕ
count_one b = cond b 1 0

settled-le : (xs : List ℤ) (was : List Bool) → count_by (λ s. s) was ≤ count_by (λ s. s) (settled_by xs was)
settled-le [] [] = omega arith
settled-le (x ∷ xs) [] = omega arith
settled-le [] (b ∷ was) = omega arith
settled-le (x ∷ xs) (true ∷ was) = omega (arith, settled-le xs was, sum_by-cons (λ (b : Bool). cond b 1 0) true was, sum_by-cons (λ (b : Bool). cond b 1 0) true (settled_by xs was))
settled-le (x ∷ xs) (false ∷ was) =
    omega (arith, settled-le xs was, sum_by-cons (λ (b : Bool). cond b 1 0) false was, sum_by-cons (λ (b : Bool). cond b 1 0) (int_lt (pos 0) x) (settled_by xs was))

settled-lt : (xs : List ℤ) (was : List Bool) (t : ℕ) → get_or was t true ≡ false → int_lt (pos 0) (get_or xs t (pos 0)) ≡ true → count_by (λ s. s) was < count_by (λ s. s) (settled_by xs was)
unfolding count_one
settled-lt xs [] t u p = absurd cc
settled-lt [] (b ∷ was) t u p = absurd cc
settled-lt (x ∷ xs) (true ∷ was) zero u p = absurd cc
settled-lt (x ∷ xs) (false ∷ was) zero u p =
    let one : count_by (λ s. s) (settled_by (x ∷ xs) (false ∷ was)) ≡ 1 + count_by (λ s. s) (settled_by xs was) =
    sum_by-cons (λ (b : Bool). cond b 1 0) (int_lt (pos 0) x) (settled_by xs was) ∙ ap (λ b. count_one b + count_by (λ s. s) (settled_by xs was)) p in
    omega (arith, settled-le xs was, sum_by-cons (λ (b : Bool). cond b 1 0) false was, one)
settled-lt (x ∷ xs) (true ∷ was) (suc t) u p = omega (arith, settled-lt xs was t u p, sum_by-cons (λ (b : Bool). cond b 1 0) true was, sum_by-cons (λ (b : Bool). cond b 1 0) true (settled_by xs was))
settled-lt (x ∷ xs) (false ∷ was) (suc t) u p =
    omega (arith, settled-lt xs was t u p, sum_by-cons (λ (b : Bool). cond b 1 0) false was, sum_by-cons (λ (b : Bool). cond b 1 0) (int_lt (pos 0) x) (settled_by xs was))

-- if the sum of size times entry over the marked classes is above 0, some marked class has an entry above 0
some_term : (marks : List Bool) (sizes : List ℕ) (xs : List ℤ) → pos 0 <ℤ sum_of_products (sizes_where marks sizes) xs → (t : ℕ) × (get_or marks t false ≡ true) × (int_lt (pos 0) (get_or xs t (pos 0)) ≡ true)
some_term [] sizes xs l = absurd (omega (arith, ints))
some_term (mark ∷ marks) [] xs l = absurd (omega (arith, ints))
some_term (mark ∷ marks) (size ∷ sizes) [] l = absurd (omega (arith, ints))
some_term (false ∷ marks) (size ∷ sizes) (x ∷ xs) l = let rest = some_term marks sizes xs (omega (arith, ints)) in (suc rest.0, rest.1, rest.2)
some_term (true ∷ marks) (size ∷ sizes) (x ∷ xs) l = by (int_lt (pos 0) x) refl (some_term marks sizes xs)
  where
    by : (t : Bool) → int_lt (pos 0) x ≡ t → (pos 0 <ℤ sum_of_products (sizes_where marks sizes) xs → (t : ℕ) × (get_or marks t false ≡ true) × (int_lt (pos 0) (get_or xs t (pos 0)) ≡ true)) →
        (t : ℕ) × (get_or (true ∷ marks) t false ≡ true) × (int_lt (pos 0) (get_or (x ∷ xs) t (pos 0)) ≡ true)
    by true e rest = (0, refl, e)
    by false e rest = let r = rest (omega (arith, ints, product-not_positive (pos size) x (omega (arith, ints)) (omega (arith, ints)))) in (suc r.0, r.1, r.2)

module _ (table : Table) (h : IsInOrder table) (open_now : table.in_stage ≡ true) (none : choice table ≡ None) where
  -- the stage's variable is basic in some row r, and no eligible slack has a coefficient below 0 in row r
  pub open_found : (r : ℕ) × (basic_row table (stage_variable table) ≡ Some r) × ((t : ℕ) → t < length table.sizes → (is_eligible table (Slack t) && int_lt (coefficient_at table r (Slack t)) (pos 0)) ≡ false)
  unfolding entering
  open_found = by (basic_row table (stage_variable table)) refl (entering-none table h open_now none)
    where
      by : (o : Option ℕ) → basic_row table (stage_variable table) ≡ o → entering_from table o ≡ None →
          (r : ℕ) × (basic_row table (stage_variable table) ≡ Some r) × ((t : ℕ) → t < length table.sizes → (is_eligible table (Slack t) && int_lt (coefficient_at table r (Slack t)) (pos 0)) ≡ false)
      by None e f = absurd cc
      by (Some r) e f =
          let p : Var → Bool = λ v. is_eligible table v && int_lt (coefficient_at table r v) (pos 0) in
          (r, e, λ t l. each_slack table (λ v. p v ≡ false) t (find-none p (variables table) f) l)

  pub open_is : open_row table ≡ open_found.0
  open_is = ap (λ o. unwrap_or o 0) open_found.1

  in_rows : open_found.0 < length table.rows
  in_rows = let place = place_of table (stage_variable table) open_found.0 open_found.1 in omega (arith, place.0, h.basic_count, h.row_count)

  basic_here : basic_at table open_found.0 ≡ stage_variable table
  basic_here = (place_of table (stage_variable table) open_found.0 open_found.1).1

  entries : List ℤ
  entries = (row_at table open_found.0).a

  entries_long : length (row_at table open_found.0).a ≡ length table.settled
  entries_long = h.entry_count open_found.0 (record { b = pos 0; a = [] }) in_rows ∙ sym h.settled_each

  -- an unsettled class has no entry below 0 in the open row
  not_below : (t : ℕ) → t < length table.sizes → IsUnsettled table t → pos 0 ≤ℤ entry (row_at table open_found.0) t
  not_below t l u =
      let eligible : is_eligible table (Slack t) ≡ true = list_all_from_each (λ i. int_eq (coefficient_at table i (Slack t)) (pos 0)) table.closed
      (recursion_from_All (λ i. int_eq (coefficient_at table i (Slack t)) (pos 0) ≡ true) table.closed (λ k d m. zero_in k d m)) in
      let test : (true && int_lt (coefficient_at table open_found.0 (Slack t)) (pos 0)) ≡ false = ap (λ b. b && int_lt (coefficient_at table open_found.0 (Slack t)) (pos 0)) (sym eligible) ∙ open_found.2 t l in
      omega (arith, ints, coefficient-Slack table (row_at table open_found.0) t)
    where
      zero_in : (k d : ℕ) → k < length table.closed → int_eq (coefficient_at table (get_or table.closed k d) (Slack t)) (pos 0) ≡ true
      zero_in k d m =
          (Decides-int_eq (coefficient_at table (get_or table.closed k d) (Slack t)) (pos 0)).1
          (coefficient-Slack table (row_at table (get_or table.closed k d)) t ∙ ap (λ i. entry (row_at table i) t) (get_or_default table.closed k d 0 m) ∙ h.closed_entries k t m u)

  -- some unsettled class has an entry above 0 in the open row, and so settles
  somebody : (t : ℕ) × (get_or (map not table.settled) t false ≡ true) × (int_lt (pos 0) (get_or (row_at table open_found.0).a t (pos 0)) ≡ true)
  somebody =
      let own = h.basic_own open_found.0 in_rows in
      let value : coefficient_at table open_found.0 (basic_at table open_found.0) ≡ sum_of_products (sizes_where (map not table.settled) table.sizes) (row_at table open_found.0).a =
      ap (coefficient_at table open_found.0) basic_here ∙ coefficient-Stage table (row_at table open_found.0) (length table.stages - 1)
      ∙ ap (λ m. sum_of_products (sizes_where m table.sizes) (row_at table open_found.0).a) (marks_now table h open_now) in
      some_term (map not table.settled) table.sizes (row_at table open_found.0).a (subst (λ z. pos 0 <ℤ z) value own)

  -- a class that is marked as unsettled is unsettled
  was_unsettled : (t : ℕ) → get_or (map not table.settled) t false ≡ true → get_or table.settled t true ≡ false
  was_unsettled t e = ⊎_elim inside outside (cases_lt t (length table.settled))
    where
      inside : t < length table.settled → get_or table.settled t true ≡ false
      inside l = not-true (get_or table.settled t true) (sym (get_or-map not table.settled t true false l) ∙ e)

      outside : length table.settled ≤ t → get_or table.settled t true ≡ false
      outside l = let past : get_or (map not table.settled) t false ≡ false = get_or_past (map not table.settled) t false (omega (arith, length-map table.settled not)) in absurd cc

  closed_zero : (t : ℕ) → get_or (settled_by (row_at table open_found.0).a table.settled) t true ≡ false → entry (row_at table open_found.0) t ≡ pos 0
  closed_zero t u =
      let before = still_unsettled (row_at table open_found.0).a table.settled t entries_long u in
      ⊎_elim (λ l. omega (arith, ints, not_below t l before.0, before.1)) (λ l. get_or_past (row_at table open_found.0).a t (pos 0) (omega (arith, entries_long, h.settled_each))) (cases_lt t (length table.sizes))

  pub some_settle : settled_count table < settled_count (close_stage table)
  unfolding closed_by
  some_settle = subst (λ r. count_by (λ s. s) table.settled < count_by (λ s. s) (settled_by (row_at table r).a table.settled)) (sym open_is) (settled-lt (row_at table open_found.0).a table.settled somebody.0 (was_unsettled somebody.0 somebody.1) somebody.2)

  closed_keeps : IsInOrder (closed_by open_found.0 (row_at table open_found.0).a table)
  unfolding closed_by
  closed_keeps =
      rows_stay table h table.columns table.stages (as_itself [] table.columns) (as_itself [] table.stages) (table.closed ++ open_found.0 ∷ []) (settled_by (row_at table open_found.0).a table.settled) false table.pivots (columns_stand table h) (record {
        settled_each = length-settled_by (row_at table open_found.0).a table.settled ∙ h.settled_each;
        stage_each = h.stage_each;
        stage_count = omega (arith, stages_are table h open_now, length_push table.closed open_found.0);
        closed_known = All-push (λ i. i < length table.rows) table.closed open_found.0 h.closed_known in_rows;
        closed_basic = λ k l. basics k l (cases_lt k (length table.closed));
        closed_entries = λ k t l u. zeros k t l u (cases_lt k (length table.closed));
        closed_few = omega (arith, length_push table.closed open_found.0, h.closed_few, settled-lt (row_at table open_found.0).a table.settled somebody.0 (was_unsettled somebody.0 somebody.1) somebody.2);
        open_unsettled = λ e. absurd cc;
        open_same = λ e. absurd cc;
      })
    where
      last : (k : ℕ) → k < length (table.closed ++ open_found.0 ∷ []) → length table.closed ≤ k → slice_index (table.closed ++ open_found.0 ∷ []) k ≡ open_found.0
      last k l m = get_or_push table.closed open_found.0 0 k (omega (arith, length_push table.closed open_found.0))

      earlier : (k : ℕ) → k < length table.closed → slice_index (table.closed ++ open_found.0 ∷ []) k ≡ slice_index table.closed k
      earlier k l = get_or_append_left table.closed (open_found.0 ∷ []) 0 k l

      basics : (k : ℕ) → k < length (table.closed ++ open_found.0 ∷ []) → (k < length table.closed) ⊎ (length table.closed ≤ k) → basic_at table (slice_index (table.closed ++ open_found.0 ∷ []) k) ≡ Stage k
      basics k l (inl m) = ap (basic_at table) (earlier k m) ∙ h.closed_basic k m
      basics k l (inr m) =
          let n : length table.stages - 1 ≡ k = omega (arith, stages_are table h open_now, length_push table.closed open_found.0) in ap (basic_at table) (last k l m) ∙ basic_here ∙ ap Stage n

      zeros : (k t : ℕ) → k < length (table.closed ++ open_found.0 ∷ []) → get_or (settled_by (row_at table open_found.0).a table.settled) t true ≡ false → (k < length table.closed) ⊎ (length table.closed ≤ k) →
          entry (row_at table (slice_index (table.closed ++ open_found.0 ∷ []) k)) t ≡ pos 0
      zeros k t l u (inl m) = ap (λ i. entry (row_at table i) t) (earlier k m) ∙ h.closed_entries k t m (still_unsettled (row_at table open_found.0).a table.settled t entries_long u).0
      zeros k t l u (inr m) = ap (λ i. entry (row_at table i) t) (last k l m) ∙ closed_zero t u

  pub close-keeps : IsInOrder (close_stage table)
  close-keeps = subst (λ r. IsInOrder (closed_by r (row_at table r).a table)) (sym open_is) closed_keeps
