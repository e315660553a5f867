-- What a step of the run requires, and the table after it.
use Rattle.std.proofs.Common.{◌≡◌, ℕ, ◌^◌, ◌<◌, ◌≤◌, Bool, true, false, cond, leb, ltb, List, [], ◌∷◌, ◌++◌, length, Option, Some, None, Err, pos, ◌≤ℤ◌, refl, sym, ap, ap₂, ◌∙◌, subst, arith}
use Rattle.std.specs.Prelude.{IsFalse}
use Rattle.std.specs.List.{AllByRecursion}
use Rattle.std.proofs.Math.Nat.{pow-le-pow_right}
use Rattle.std.proofs.lemmas.Bool.{le-ltb}
use Rattle.std.proofs.lemmas.Nat.{pow_pos}
use Rattle.std.proofs.lemmas.List.{length-map, map-append}
use Rattle.std.proofs.lemmas.List.Elements.{recursion_from_All}
use Rattle.define_pools.proofs.Each.{each_map, each_mapped}
use Rattle.define_rows.specs.declared.Var.{Var}
use Rattle.define_rows.specs.Choice.{choice}
use Rattle.define_rows.specs.InOrder.{settled_count}
use Rattle.define_rows.specs.Laws.{MayAdd}
use Rattle.define_rows.specs.Pivot.{pivot}
use Rattle.define_rows.specs.Row.{Row, reach}
use Rattle.define_rows.specs.Steps.{add_column, close_stage, closed_by, enter_stage, open_row}
use Rattle.define_rows.specs.Table.{Table, row_at}
use Rattle.define_searches.specs.Classes.{Classes}
use Rattle.define_searches.specs.Compositions.{price}
use Rattle.define_searches.specs.Fronts.{HaveEntries, HaveReach, sizes_of}
use Rattle.define_runs.specs.Sharing.{with_pricing}
use Rattle.define_searches.specs.Waves.{best_in_waves}
use Rattle.define_runs.specs.Run.{RunLimits, Next, GoOn, Ended, NodesSpent, PivotsSpent, answered, closed_rows, parts_of, pivoted, priced, pricing_visits, step, step_in_stage}
use Rattle.define_runs.specs.Spreading.{spread}
use Rattle.define_runs.specs.Keeps.{IsPriced, KeepsRun}
use Rattle.define_runs.proofs.Kept.{step_kept}
use Rattle.define_runs.proofs.Priced.{may_be_added}
use Rattle.panel_search.specs.declared.searching.SearchStop.{SearchStop}
use Rattle.panel_search.specs.declared.searching.SearchStop.TheVariants.{Spent, OutOfMemory}
use Rattle.leximin_run.specs.Advancing.{HoldsFrom, Prices, Refuses, Stands, refusal_of}
use Rattle.leximin_run.proofs.Budgets.{from_none, stands_with, stands_without}

-- ---- the rows that are priced

module _ (all : Classes) (limits : RunLimits) (table : Table) (keeps : KeepsRun all limits table) where
  each_row : (Q : Row → Type 0) → ((i : ℕ) → i < length table.rows → Q (row_at table i)) → AllByRecursion Q (closed_rows table)
  each_row Q h = each_mapped Q (row_at table) table.closed (each_map (λ i. i < length table.rows) (λ i. Q (row_at table i)) h table.closed (recursion_from_All (λ i. i < length table.rows) table.closed keeps.in_order.closed_known))

  entries_fit : (i : ℕ) → i < length table.rows → length (row_at table i).a ≡ length all.classes
  entries_fit i l = keeps.in_order.entry_count i (record { b = pos 0; a = [] }) l ∙ ap length keeps.sizes ∙ length-map all.classes (λ class. length class.members)

  reach_fits : (i : ℕ) → i < length table.rows → reach (sizes_of all) (row_at table i) < 2 ^ 127
  reach_fits i l =
      let within = keeps.in_order.within_width i (record { b = pos 0; a = [] }) l in
      let two : 0 < 2 = omega arith in let few = pow-le-pow_right {n = 2} two {i = table.bits} {j = 127} keeps.in_order.few_bits in
      subst (λ sizes. reach sizes (row_at table i) < 2 ^ 127) keeps.sizes (omega (arith, within, few, pow_pos table.bits))

  pub have_entries : (row : Row) (i : ℕ) → i < length table.rows → row ≡ row_at table i → (closed : List Row) → closed ≡ closed_rows table → HaveEntries all (row ∷ closed)
  have_entries row i l same closed are = (
    ap (λ r. length r.a) same ∙ entries_fit i l,
    subst (AllByRecursion (λ row. length row.a ≡ length all.classes)) (sym are) (each_row (λ row. length row.a ≡ length all.classes) entries_fit),
  )

  -- no right side is below 0
  pub has_side : (row : Row) (i : ℕ) → i < length table.rows → row ≡ row_at table i → pos 0 ≤ℤ row.b
  has_side row i l same = subst (λ r. pos 0 ≤ℤ r.b) (sym same) (keeps.in_order.sides i (record { b = pos 0; a = [] }) l)

  pub have_reach : (row : Row) (i : ℕ) → i < length table.rows → row ≡ row_at table i → (closed : List Row) → closed ≡ closed_rows table → HaveReach all (row ∷ closed)
  have_reach row i l same closed are = (
    subst (λ r. reach (sizes_of all) r < 2 ^ 127) (sym same) (reach_fits i l),
    subst (AllByRecursion (λ row. reach (sizes_of all) row < 2 ^ 127)) (sym are) (each_row (λ row. reach (sizes_of all) row < 2 ^ 127) reach_fits),
  )

-- ---- which step is next

abbrev between : Classes → RunLimits → Table → Next
between all limits table = cond (ltb (settled_count table) (length table.sizes)) (GoOn (enter_stage table)) (Ended (answered all table (spread all (parts_of table))))

pub pivot_due : (all : Classes) (limits : RunLimits) (table : Table) (r : ℕ) (v : Var) → table.in_stage ≡ true → choice table ≡ Some (r, v) → (b : Bool) → leb limits.pivots table.pivots ≡ b →
    step all limits table ≡ cond b (Ended (PivotsSpent table)) (pivoted table (pivot table r v))
unfolding step
pivot_due all limits table r v open_now chosen b t =
    ap (λ s. cond s (step_in_stage all limits table (choice table)) (between all limits table)) open_now ∙ ap (step_in_stage all limits table) chosen
    ∙ ap (λ s. cond s (Ended (PivotsSpent table)) (pivoted table (pivot table r v))) t

pub price_due : (all : Classes) (limits : RunLimits) (table : Table) → table.in_stage ≡ true → choice table ≡ None →
    (b : Bool) → ltb limits.pricing (pricing_visits all (closed_rows table) (row_at table (open_row table))) ≡ b →
    step all limits table ≡ cond b (Ended (NodesSpent (Some table))) (priced table (price all (closed_rows table) (row_at table (open_row table))))
unfolding step
price_due all limits table open_now done b t =
    ap (λ s. cond s (step_in_stage all limits table (choice table)) (between all limits table)) open_now ∙ ap (step_in_stage all limits table) done
    ∙ ap (λ s. cond s (Ended (NodesSpent (Some table))) (priced table (price all (closed_rows table) (row_at table (open_row table))))) t

pub enter_due : (all : Classes) (limits : RunLimits) (table : Table) → table.in_stage ≡ false → ltb (settled_count table) (length table.sizes) ≡ true → step all limits table ≡ GoOn (enter_stage table)
unfolding step
enter_due all limits table shut some =
    ap (λ s. cond s (step_in_stage all limits table (choice table)) (between all limits table)) shut
    ∙ ap (λ s. cond s (GoOn (enter_stage table)) (Ended (answered all table (spread all (parts_of table))))) some

-- ---- the same with each budget of pricing

pub pivot_steps : (share : Bool) (all : Classes) (limits : RunLimits) (table : Table) (r : ℕ) (v : Var) → table.in_stage ≡ true → choice table ≡ Some (r, v) → (b : Bool) → leb limits.pivots table.pivots ≡ b →
    (next : Next) → cond b (Ended (PivotsSpent table)) (pivoted table (pivot table r v)) ≡ next → HoldsFrom share limits (λ free. step all free table ≡ next)
pivot_steps share all limits table r v open_now chosen b t next is =
    from_none share limits (λ free. step all free table ≡ next) (λ pricing. pivot_due all (with_pricing limits pricing) table r v open_now chosen b t ∙ is)

pub enter_steps : (share : Bool) (all : Classes) (limits : RunLimits) (table : Table) → table.in_stage ≡ false → ltb (settled_count table) (length table.sizes) ≡ true →
    HoldsFrom share limits (λ free. step all free table ≡ GoOn (enter_stage table))
enter_steps share all limits table shut some = from_none share limits (λ free. step all free table ≡ GoOn (enter_stage table)) (λ pricing. enter_due all (with_pricing limits pricing) table shut some)

-- ---- the table after a step

-- If the run goes on after a step, `Stands` holds of the table after it.
pub stands_on : (all : Classes) (limits : RunLimits) (table : Table) (closed : List Row) → Stands all limits table closed → (after : Table) → step all limits table ≡ GoOn after →
    (rows : List Row) → rows ≡ closed_rows after → Stands all limits after rows
stands_on all limits table closed stands after e rows are =
    record { limited = stands.limited; ranges = stands.ranges; keeps = step_kept all limits table stands.keeps stands.limited after e; closed_are = are }

-- ---- pricing

-- the conditions before a pricing: the stage is open, no pivot is chosen, and `row` is the table's open row
pub record IsAsked (all : Classes) (limits : RunLimits) (table : Table) (closed : List Row) (row : Row) : Type 0 where
  pub stands : Stands all limits table closed
  pub open_now : table.in_stage ≡ true
  pub done : choice table ≡ None
  pub row_is : row ≡ row_at table (open_row table)

pub asked_so : {all : Classes} {limits : RunLimits} {table : Table} {kept closed : List Row} {row : Row} {place : ℕ} → Stands all limits table kept → table.in_stage ≡ true → choice table ≡ None →
    closed ≡ kept → row ≡ row_at table place → place ≡ open_row table → IsAsked all limits table closed row
asked_so {all = all} {limits = limits} {table = table} stands open_now done same row_is place_is =
    record { stands = subst (Stands all limits table) (sym same) stands; open_now = open_now; done = done; row_is = row_is ∙ ap (row_at table) place_is }

-- A pricing makes as many visits as the search for the best composition in waves.
pub visits_are : (all : Classes) (closed : List Row) (row : Row) → pricing_visits all closed row ≡ (best_in_waves all closed row).visits
unfolding pricing_visits
visits_are all closed row = refl

module _ (all : Classes) (limits : RunLimits) (table : Table) (closed : List Row) (row : Row) (asked : IsAsked all limits table closed row) where
  same_visits : pricing_visits all closed row ≡ pricing_visits all (closed_rows table) (row_at table (open_row table))
  same_visits = ap₂ (λ c r. pricing_visits all c r) asked.stands.closed_are asked.row_is

  same_price : price all closed row ≡ price all (closed_rows table) (row_at table (open_row table))
  same_price = ap₂ (λ c r. price all c r) asked.stands.closed_are asked.row_is

  priced_so : (counts : List ℕ) → Some counts ≡ price all closed row → IsPriced all limits table counts
  priced_so counts e = record { keeps = asked.stands.keeps; open_now = asked.open_now; done = asked.done; found = sym same_price ∙ sym e }

  pub column_may : (counts : List ℕ) → Some counts ≡ price all closed row → MayAdd table counts
  column_may counts e = may_be_added all limits table counts asked.stands.limited (priced_so counts e)

  pub refused_so : (share : Bool) (stop : SearchStop) (nodes : ℕ) → nodes ≡ limits.pricing → Prices share all closed row nodes (Err stop) → Refuses share all limits table (refusal_of stop) table
  refused_so share Spent nodes e answers = (record { open_now = asked.open_now; due = asked.done; more = omega (arith, answers, e, same_visits) }, refl)
  refused_so share OutOfMemory nodes e answers = tt

  within : (found : Option (List ℕ)) (pricing : ℕ) → pricing_visits all closed row ≤ pricing → found ≡ price all closed row → step all (with_pricing limits pricing) table ≡ priced table found
  within found pricing l e =
      price_due all (with_pricing limits pricing) table asked.open_now asked.done false (le-ltb pricing (pricing_visits all (closed_rows table) (row_at table (open_row table))) (omega (arith, l, same_visits)))
      ∙ ap (priced table) (sym same_price ∙ sym e)

  -- the step that follows a pricing, with each budget that the pricing keeps
  pub made : (share : Bool) (found : Option (List ℕ)) (next : Next) → priced table found ≡ next → (IsFalse share → pricing_visits all closed row ≤ limits.pricing) → found ≡ price all closed row →
      HoldsFrom share limits (λ free. step all free table ≡ next)
  made share found next is few e = record { least = pricing_visits all closed row; own = few; holds = λ pricing l. within found pricing l e ∙ is }

  -- the visits of the pricing as its budget
  abbrev enough : RunLimits
  enough = with_pricing limits (pricing_visits all closed row)

  pub column_stands : (counts : List ℕ) → Some counts ≡ price all closed row → Stands all limits (add_column table counts) closed
  unfolding add_column
  column_stands counts e =
      stands_without all limits (pricing_visits all closed row) (add_column table counts) closed
      (stands_on all enough table closed (stands_with all limits (pricing_visits all closed row) table closed asked.stands) (add_column table counts) (within (Some counts) (pricing_visits all closed row) (omega arith) e) closed asked.stands.closed_are)

  pub close_stands : None ≡ price all closed row → Stands all limits (close_stage table) (closed ++ row ∷ [])
  unfolding closed_by
  close_stands e =
      stands_without all limits (pricing_visits all closed row) (close_stage table) (closed ++ row ∷ [])
      (stands_on all enough table closed (stands_with all limits (pricing_visits all closed row) table closed asked.stands) (close_stage table) (within None (pricing_visits all closed row) (omega arith) e) (closed ++ row ∷ [])
      (ap₂ (λ c r. c ++ r ∷ []) asked.stands.closed_are asked.row_is ∙ sym (map-append (row_at table) table.closed (open_row table ∷ []))))

pub entered_stands : (all : Classes) (limits : RunLimits) (table : Table) (closed : List Row) → Stands all limits table closed → table.in_stage ≡ false →
    ltb (settled_count table) (length table.sizes) ≡ true → Stands all limits (enter_stage table) closed
unfolding enter_stage
entered_stands all limits table closed stands shut some = stands_on all limits table closed stands (enter_stage table) (enter_due all limits table shut some) closed stands.closed_are
