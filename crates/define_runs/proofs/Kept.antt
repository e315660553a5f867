-- Each step of a run keeps `KeepsRun`.
use Rattle.std.proofs.Common.{◌≡◌, ℕ, zero, suc, ◌+◌, ◌<◌, ◌≤◌, Bool, true, false, List, [], ◌∷◌, ◌++◌, length, length-append, map, take, Some, None, Result, Ok, refl, sym, ap, ap₂, ◌∙◌, subst, arith, inl, inr, ◌⊎◌}
use Rattle.std.specs.Prelude.{slice_index, slice_set, sum, Contains}
use Rattle.std.specs.List.{All}
use Rattle.std.proofs.lemmas.Bool.{cases_lt}
use Rattle.std.proofs.lemmas.List.{get_or_append_left, get_or_push, map-append, take-append-le, length-map, take_all}
use Rattle.std.proofs.lemmas.List.Elements.{All-cons, All-nil, All-push, All-from_recursion, recursion_from_All}
use Rattle.std.proofs.lemmas.List.Sums.{sum-map}
use Rattle.define_pools.proofs.Lists.{map_same}
use Rattle.define_pools.proofs.Each.{each_mapped}
use Rattle.define_rows.specs.declared.Pass.{Pass}
use Rattle.define_rows.specs.declared.Var.{Var}
use Rattle.define_rows.specs.Choice.{choice}
use Rattle.define_rows.specs.InOrder.{IsInOrder, settled_count}
use Rattle.define_rows.specs.Laws.{HasClosedRowsOf}
use Rattle.define_rows.specs.Pivot.{start, pivot, rows_after, first_table, first_rows}
use Rattle.define_rows.specs.Row.{Row}
use Rattle.define_rows.specs.Steps.{add_column, close_stage, closed_by, enter_stage, open_row}
use Rattle.define_rows.specs.Table.{Table, row_at}
use Rattle.define_rows.specs.Width.{all_in_turn, width_limit, reach_operations}
use Rattle.define_rows.proofs.Keeps.{pivot-keeps, pivot-keeps_closed}
use Rattle.define_rows.proofs.PivotLaws.{after-Ok_parts}
use Rattle.define_rows.proofs.Starts.{start-keeps}
use Rattle.define_rows.proofs.StepsKeep.{add-keeps, close-keeps, enter-keeps}
use Rattle.define_searches.specs.Classes.{Class, Classes, KeepsLimits}
use Rattle.define_searches.specs.Compositions.{all_counts, compositions, is_composition, price, taken_of}
use Rattle.define_searches.specs.Fronts.{sizes_of}
use Rattle.define_searches.proofs.FirstSearch.{composition_parts}
use Rattle.define_searches.proofs.Contained.{each_contains, each_itself, filtered, first_there}
use Rattle.define_runs.specs.Run.{RunLimits, Next, GoOn, Ended, closed_rows, follow, opening, priced, step}
use Rattle.define_runs.specs.Keeps.{AreRunLimits, IsPriced, IsReached, KeepsRun}
use Rattle.define_runs.proofs.StepCases.{StepIs, Enters, Answers, NoPivot, Pivots, Passes, NoVisits, Widens, Closes, step_is, OpeningIs, Spends, FindsNoPanel, IsWide, Begins, opening_is}
use Rattle.define_runs.proofs.Priced.{FitsSizes, better, composition_fits, may_be_added}

-- the chosen pivot leaves the closed rows as they are
pub closed_rows_stay : (table : Table) → IsInOrder table → table.in_stage ≡ true → (r : ℕ) (v : Var) → choice table ≡ Some (r, v) → (made : Table) → pivot table r v ≡ Ok made → closed_rows made ≡ closed_rows table
closed_rows_stay table h open_now r v chosen made e =
    let stays = pivot-keeps_closed table h open_now r v chosen made e in
    ap (map (row_at made)) stays.closed ∙ map_same (row_at made) (row_at table) table.closed (recursion_from_All (λ i. row_at made i ≡ row_at table i) table.closed stays.numbers)

-- ---- one step

module _ (all : Classes) (limits : RunLimits) (table : Table) (keeps : KeepsRun all limits table) where
  pub entered_kept : table.in_stage ≡ false → settled_count table < length table.sizes → KeepsRun all limits (enter_stage table)
  unfolding enter_stage
  entered_kept shut some = record {
    in_order = enter-keeps table keeps.in_order shut some;
    sizes = keeps.sizes;
    width = keeps.width;
    pivots = keeps.pivots;
    columns = keeps.columns;
    priced_out = keeps.priced_out;
  }

  pub added_kept : (counts : List ℕ) → KeepsLimits all → IsPriced all limits table counts → KeepsRun all limits (add_column table counts)
  unfolding add_column
  added_kept counts limited priced =
      let may = may_be_added all limits table counts limited priced in record {
        in_order = add-keeps table counts keeps.in_order may.each may.bounds may.fresh;
        sizes = keeps.sizes;
        width = keeps.width;
        pivots = keeps.pivots;
        columns = All-push (Contains (compositions all)) table.columns counts keeps.columns (better all limits table counts limited priced).composition;
        priced_out = keeps.priced_out;
      }

  pub closed_kept : table.in_stage ≡ true → choice table ≡ None → price all (closed_rows table) (row_at table (open_row table)) ≡ None → KeepsRun all limits (close_stage table)
  unfolding closed_by
  closed_kept open_now done none = record {
    in_order = close-keeps table keeps.in_order open_now done;
    sizes = keeps.sizes;
    width = keeps.width;
    pivots = keeps.pivots;
    columns = keeps.columns;
    priced_out = λ k l. by k (omega (arith, length-append table.closed (open_row table ∷ []), l)) (cases_lt k (length table.closed));
  }
    where
      rows_are : map (row_at table) (table.closed ++ open_row table ∷ []) ≡ closed_rows table ++ row_at table (open_row table) ∷ []
      rows_are = map-append (row_at table) table.closed (open_row table ∷ [])

      as_many : length (closed_rows table) ≡ length table.closed
      as_many = length-map table.closed (row_at table)

      by : (k : ℕ) → k ≤ length table.closed → (k < length table.closed) ⊎ (length table.closed ≤ k) →
          price all (take k (map (row_at table) (table.closed ++ open_row table ∷ []))) (row_at table (slice_index (table.closed ++ open_row table ∷ []) k)) ≡ None
      by k l (inl m) =
          let first : take k (map (row_at table) (table.closed ++ open_row table ∷ [])) ≡ take k (closed_rows table) =
          ap (take k) rows_are ∙ take-append-le k (closed_rows table) (row_at table (open_row table) ∷ []) (omega (arith, as_many)) in
          let here : slice_index (table.closed ++ open_row table ∷ []) k ≡ slice_index table.closed k = get_or_append_left table.closed (open_row table ∷ []) 0 k m in
          ap₂ (λ rows i. price all rows (row_at table i)) first here ∙ keeps.priced_out k m
      by k l (inr m) =
          let last : k ≡ length table.closed = omega arith in
          let first : take k (map (row_at table) (table.closed ++ open_row table ∷ [])) ≡ closed_rows table =
          ap (take k) rows_are ∙ take-append-le k (closed_rows table) (row_at table (open_row table) ∷ []) (omega (arith, as_many))
          ∙ take_all k (closed_rows table) (omega (arith, as_many)) in
          let here : slice_index (table.closed ++ open_row table ∷ []) k ≡ open_row table = get_or_push table.closed (open_row table) 0 k (sym last) in
          ap₂ (λ rows i. price all rows (row_at table i)) first here ∙ none

  pub pivoted_kept : table.in_stage ≡ true → (r : ℕ) (v : Var) → choice table ≡ Some (r, v) → table.pivots < limits.pivots → (made : Table) → pivot table r v ≡ Ok made → KeepsRun all limits made
  unfolding pivot
  pivoted_kept open_now r v chosen few made e = record {
    in_order = pivot-keeps table keeps.in_order open_now r v chosen made e;
    sizes = sym (ap (λ t. t.sizes) same) ∙ keeps.sizes;
    width = sym (ap (λ t. t.bits) same) ∙ keeps.width;
    pivots = subst (λ n. n ≤ limits.pivots) (ap (λ t. t.pivots) same) (more table.pivots few);
    columns = subst (All (Contains (compositions all))) (ap (λ t. t.columns) same) keeps.columns;
    priced_out = λ k l.
        let before : k < length table.closed = omega (arith, l, ap length stays.closed) in
        let at_k : slice_index made.closed k ≡ slice_index table.closed k = ap (λ is. slice_index is k) stays.closed in
        ap₂ (λ rows row. price all rows row) (ap (take k) rows_stay) (ap (row_at made) at_k ∙ stays.numbers k 0 before) ∙ keeps.priced_out k before;
  }
    where
      parts : (rows : List Row) × (rows_after table r v ≡ Ok rows) × (◌≡◌ {A = Result Table Pass} (Ok (record table { rows = rows; basic = slice_set table.basic r v; pivots = table.pivots + 1 })) (Ok made))
      parts = after-Ok_parts (rows_after table r v) (λ rows. Ok (record table { rows = rows; basic = slice_set table.basic r v; pivots = table.pivots + 1 })) made e

      same : ◌≡◌ {A = Table} (record table { rows = parts.0; basic = slice_set table.basic r v; pivots = table.pivots + 1 }) made
      same = let p = parts.2 in cc

      stays : HasClosedRowsOf table made
      stays = pivot-keeps_closed table keeps.in_order open_now r v chosen made e

      rows_stay : closed_rows made ≡ closed_rows table
      rows_stay = closed_rows_stay table keeps.in_order open_now r v chosen made e

      more : (n : ℕ) → n < limits.pivots → n + 1 ≤ limits.pivots
      more n l = omega arith

  -- if the run goes on after a step, `KeepsRun` holds of the table that was made
  pub step_kept : KeepsLimits all → (made : Table) → step all limits table ≡ GoOn made → KeepsRun all limits made
  step_kept limited made e = by (step all limits table) e (step_is all limits table)
    where
      by : (next : Next) → next ≡ GoOn made → StepIs all limits table next → KeepsRun all limits made
      by next f (Enters shut some is) = let same : enter_stage table ≡ made = cc in subst (KeepsRun all limits) same (entered_kept shut some)
      by next f (Answers shut settled is) = absurd cc
      by next f (NoPivot open_now most is) = absurd cc
      by next f (Pivots open_now r v after chosen few p is) = let same : after ≡ made = cc in pivoted_kept open_now r v chosen few made (p ∙ ap Ok same)
      by next f (Passes open_now r v pass chosen few p is) = absurd cc
      by next f (NoVisits open_now done more is) = absurd cc
      by next f (Widens open_now done counts p is) =
          let same : add_column table counts ≡ made = cc in
          subst (KeepsRun all limits) same (added_kept counts limited (record { keeps = keeps; open_now = open_now; done = done; found = p }))
      by next f (Closes open_now done p is) = let same : close_stage table ≡ made = cc in subst (KeepsRun all limits) same (closed_kept open_now done p)

-- ---- the first table

some_taken : (p : Class → Bool) (classes : List Class) (counts : List ℕ) → 0 < taken_of p classes counts → 0 < length (map (λ class. length class.members) classes)
some_taken p [] counts l = absurd (omega arith)
some_taken p (class ∷ classes) counts l = omega arith

-- the conditions under which the first table can be made
pub record MayBegin (all : Classes) (first : List ℕ) : Type 0 where
  pub some : 0 < length (sizes_of all)
  pub each : All (λ size. 1 ≤ size) (sizes_of all)
  pub few : sum (sizes_of all) ≤ 4000
  pub fits : FitsSizes all first

pub may_begin : (all : Classes) → KeepsLimits all → (first : List ℕ) → Contains (compositions all) first → MayBegin all first
may_begin all limited first there = record {
  some =
      let takes = (composition_parts all first composes).size in
      some_taken (λ class. true) all.classes first (omega (arith, takes, limited.size.0));
  each = All-from_recursion (λ size. 1 ≤ size) (sizes_of all) (each_mapped (λ size. 1 ≤ size) (λ class. length class.members) all.classes
      (recursion_from_All (λ class. 1 ≤ length class.members) all.classes limited.members));
  few = omega (arith, sum-map (λ (class : Class). length class.members) all.classes, limited.few_members);
  fits = composition_fits all limited first there;
}
  where
    composes : is_composition all first ≡ true
    composes = (each_contains (λ counts. Contains (all_counts all.classes) counts × (is_composition all counts ≡ true)) (compositions all) first
        (filtered (Contains (all_counts all.classes)) (is_composition all) (all_counts all.classes) (each_itself (all_counts all.classes))) there).1

-- if `start` doesn't fail, it returns the definition's `first_table`
pub first_table_is : (sizes first : List ℕ) (bits : ℕ) (made : Table) → start sizes first bits ≡ Ok made → ◌≡◌ {A = Table} (first_table sizes first bits) made
unfolding start
first_table_is sizes first bits made e =
    let parts = after-Ok_parts (all_in_turn (reach_operations (width_limit bits) sizes) 0 (first_rows first)) (λ reaches. Ok (first_table sizes first bits)) made e in
    let last : ◌≡◌ {A = Result Table Pass} (Ok (first_table sizes first bits)) (Ok made) = parts.2 in cc

module _ (all : Classes) (limits : RunLimits) (limited : KeepsLimits all) (ranges : AreRunLimits limits) where
  started_kept : (first : List ℕ) → Contains (compositions all) first → (made : Table) → start (sizes_of all) first limits.bits ≡ Ok made → KeepsRun all limits made
  started_kept first there made e =
      let may = may_begin all limited first there in
      let same = first_table_is (sizes_of all) first limits.bits made e in
      record {
        in_order = start-keeps (sizes_of all) first limits.bits may.some may.each may.few may.fits.each (λ t l. may.fits.bounds t) ranges.some_bits ranges.few_bits made e;
        sizes = sym (ap (λ t. t.sizes) same);
        width = sym (ap (λ t. t.bits) same);
        pivots = subst (λ n. n ≤ limits.pivots) (ap (λ t. t.pivots) same) (omega arith);
        columns = subst (All (Contains (compositions all))) (ap (λ t. t.columns) same) (All-cons (Contains (compositions all)) first [] there (All-nil (Contains (compositions all))));
        priced_out = λ k l. absurd (omega (arith, l, ap (λ t. length t.closed) same));
      }

  pub opening_kept : (made : Table) → opening all limits ≡ GoOn made → KeepsRun all limits made
  opening_kept made e = by (opening all limits) e (opening_is all limits)
    where
      by : (next : Next) → next ≡ GoOn made → OpeningIs all limits next → KeepsRun all limits made
      by next f (Spends more is) = absurd cc
      by next f (FindsNoPanel within none is) = absurd cc
      by next f (IsWide first pass found p is) = absurd cc
      by next f (Begins first table found p is) = let same : table ≡ made = cc in started_kept first (first_there (compositions all) first found) made (p ∙ ap Ok same)

  -- ---- all steps

  followed_kept : (next : Next) → ((table : Table) → next ≡ GoOn table → KeepsRun all limits table) → (n : ℕ) (made : Table) → follow all limits next n ≡ GoOn made → KeepsRun all limits made
  followed_kept next h zero made e = h made e
  followed_kept (Ended ending) h (suc n) made e = absurd cc
  followed_kept (GoOn table) h (suc n) made e = followed_kept (step all limits table) (λ after f. step_kept all limits table (h table refl) limited after f) n made e

  pub reached_kept : (table : Table) → IsReached all limits table → KeepsRun all limits table
  reached_kept table reached = followed_kept (opening all limits) opening_kept reached.steps table reached.there
