-- At each step of a run its legs are as the laws say, and the pivots of the last lead from where it began to the table that the run is at.
use Rattle.std.proofs.Common.{◌≡◌, ℕ, zero, suc, ◌+◌, ◌<◌, ◌≤◌, true, false, not, map, List, [], ◌∷◌, ◌++◌, length, set, Some, Result, Ok, Err, refl, sym, ap, ◌∙◌, subst, arith, inl, inr, ◌⊎◌}
use Rattle.std.specs.Prelude.{sum_by}
use Rattle.std.specs.List.{All, AllPairs}
use Rattle.std.proofs.lemmas.List.{length-map, length_push, map_push}
use Rattle.std.proofs.lemmas.List.Quantifiers.{all_pairs_push}
use Rattle.std.proofs.lemmas.List.Sums.{sum_by_push}
use Rattle.std.proofs.lemmas.List.Elements.{All-nil, All-push, All-from_recursion, recursion_from_All}
use Rattle.define_pools.specs.Lottery.{Lottery}
use Rattle.define_pools.proofs.Each.{each_left, each_right}
use Rattle.define_rows.specs.declared.Var.{Var}
use Rattle.define_rows.specs.Choice.{choice}
use Rattle.define_rows.specs.InOrder.{IsInOrder}
use Rattle.define_rows.specs.Pivot.{first_rows, first_table, pivot, rows_after, start}
use Rattle.define_rows.specs.Steps.{add_column, close_stage, closed_by, enter_stage}
use Rattle.define_rows.specs.Table.{Table}
use Rattle.define_rows.specs.Width.{all_in_turn, reach_operations, width_limit}
use Rattle.define_rows.proofs.PivotLaws.{after-Ok_parts}
use Rattle.define_searches.specs.Classes.{Classes, KeepsLimits}
use Rattle.define_searches.specs.Fronts.{sizes_of}
use Rattle.define_runs.specs.Spreading.{TotalPass, spread}
use Rattle.define_runs.specs.Keeps.{AreRunLimits, KeepsRun}
use Rattle.define_runs.specs.Run.{Ended, Ending, Found, GoOn, Next, NoPanel, NodesSpent, PivotsSpent, RunLimits, TooWide, TotalPasses, answered, follow, opening, parts_of, step}
use Rattle.define_runs.proofs.Kept.{opening_kept, step_kept}
use Rattle.define_runs.proofs.StepCases.{Answers, Begins, Closes, Enters, FindsNoPanel, IsWide, NoPivot, NoVisits, OpeningIs, Passes, Pivots, Spends, StepIs, Widens, opening_is, step_is}
use Rattle.define_legs.specs.Chains.{Leads}
use Rattle.define_legs.proofs.Frames.{SameFrame, frame-itself, frame-trans, step-from}
use Rattle.define_legs.proofs.Leads.{pivots-few}
use Rattle.define_rows.specs.Binomials.{basis_count}
use Rattle.define_legs.specs.declared.Leg.{Leg}
use Rattle.define_legs.specs.Legs.{leg_bases, leg_from, leg_place, legs_after, legs_to, longer, onward, pivot_limit, traced, with_pivot}
use Rattle.define_legs.specs.Laws.{LegsHaveFewPivots, LegsAreApart, LegsHavePivots, TracesTheRun}
use Rattle.define_legs.proofs.LegLists.{after_begin, after_other, after_pivot, sums_below, with_pivot-last}

-- a pivot is counted
pivot-counts : (table made : Table) (r : ℕ) (v : Var) → pivot table r v ≡ Ok made → made.pivots ≡ table.pivots + 1
unfolding pivot
pivot-counts table made r v e =
    let parts = after-Ok_parts (rows_after table r v) (λ rows. Ok (record table { rows = rows; basic = set table.basic r v; pivots = table.pivots + 1 })) made e in
    let same : ◌≡◌ {A = Table} (record table { rows = parts.0; basic = set table.basic r v; pivots = table.pivots + 1 }) made = cc in sym (ap (λ t. t.pivots) same)

-- at first there are no pivots, and no stage is open
started-table : (sizes first : List ℕ) (bits : ℕ) (made : Table) → start sizes first bits ≡ Ok made → (made.pivots ≡ 0) × (made.in_stage ≡ false)
unfolding start
started-table sizes first bits made e =
    let parts = after-Ok_parts (all_in_turn (reach_operations (width_limit bits) sizes) 0 (first_rows first)) (λ reaches. Ok (first_table sizes first bits)) made e in
    let same : ◌≡◌ {A = Table} (first_table sizes first bits) made = cc in
    (sym (ap (λ t. t.pivots) same), sym (ap (λ t. t.in_stage) same))

-- the last leg, and the table at which it began
record IsCurrent (table : Table) (legs : List Leg) : Type 0 where
  before : List Leg
  leg : Leg
  split : legs ≡ before ++ leg ∷ []
  stages : leg.stages ≡ length table.stages
  columns : leg.columns ≡ length table.columns
  first : Table
  in_order : IsInOrder first
  open_now : first.in_stage ≡ true
  frame : SameFrame first table
  leads : Leads leg.pivots first table

module _ (all : Classes) (limits : RunLimits) where
  abbrev classes : ℕ
  classes = length all.classes

  abbrev IsFew : Leg → Type 0
  IsFew leg = leg.pivots < leg_bases classes leg

  record KeepsLegs (table : Table) (legs : List Leg) : Type 0 where
    keeps : KeepsRun all limits table
    sum : sum_by (λ leg. leg.pivots) legs ≡ table.pivots
    few : All IsFew legs
    apart : AllPairs (λ a b. a < b) (map leg_place legs)
    within : All (λ place. place ≤ length table.stages + length table.columns) (map leg_place legs)
    current : table.in_stage ≡ true → IsCurrent table legs

  -- what an ending says of the legs
  abbrev Allows : Ending → List Leg → Type 0
  Allows NoPanel legs = Unit {0}
  Allows (Found last answer) legs = Unit {0}
  Allows (TooWide stood pass) legs = Unit {0}
  Allows (TotalPasses stood pass) legs = Unit {0}
  Allows (PivotsSpent stood) legs = limits.pivots < pivot_limit classes (with_pivot legs)
  Allows (NodesSpent stood) legs = Unit {0}

  abbrev Holds : Next → List Leg → Type 0
  Holds (GoOn table) legs = KeepsLegs table legs
  Holds (Ended ending) legs = All IsFew legs × AllPairs (λ a b. a < b) (map leg_place legs) × Allows ending legs

  -- the leg from `first`, with the pivots that lead on to `table`, is short
  short : (first table : Table) (n : ℕ) (leg : Leg) → IsInOrder first → first.in_stage ≡ true → Leads n first table → leg.pivots ≡ n → length first.sizes ≡ classes → leg.stages ≡ length first.stages → leg.columns ≡ length first.columns → IsFew leg
  short first table n leg h open_now leads e m s c =
      let few : n < basis_count (length first.sizes) (length first.stages) (length first.columns) = pivots-few first table n h open_now leads in
      let same : basis_count (length first.sizes) (length first.stages) (length first.columns) ≡ leg_bases classes leg =
      ap (λ k. basis_count k (length first.stages) (length first.columns)) m ∙ ap (λ k. basis_count classes k (length first.columns)) (sym s) ∙ ap (basis_count classes leg.stages) (sym c) in
      omega (arith, few, same, e)

  class_count : (table : Table) → table.sizes ≡ sizes_of all → length table.sizes ≡ classes
  class_count table e = ap length e ∙ length-map all.classes (λ class. length class.members)

  module _ (limited : KeepsLimits all) where
    -- a leg begins
    begins : (table made : Table) (legs : List Leg) → KeepsLegs table legs → step all limits table ≡ GoOn made → made.in_stage ≡ true → made.pivots ≡ table.pivots →
        (length table.stages < length made.stages) ⊎ (length table.columns < length made.columns) → length table.stages + length table.columns < length made.stages + length made.columns → KeepsLegs made (legs_after legs table made)
    begins table made legs h e open_now same more longer_now =
        subst (KeepsLegs made) (sym (after_begin legs table made same more)) (record {
          keeps = keeps;
          sum = sum_by_push (λ (leg : Leg). leg.pivots) legs (leg_from made) ∙ omega (arith, h.sum, same);
          few = All-push IsFew legs (leg_from made) h.few (short made made 0 (leg_from made) keeps.in_order open_now refl refl (class_count made keeps.sizes) refl refl);
          apart =
              subst (AllPairs (λ a b. a < b)) (sym (map_push leg_place legs (leg_from made)))
              (all_pairs_push (λ a b. a < b) (map leg_place legs) (leg_place (leg_from made)) h.apart (λ k d l. let w = h.within k d l in omega (arith, w, longer_now)));
          within =
              subst (All (λ place. place ≤ length made.stages + length made.columns)) (sym (map_push leg_place legs (leg_from made)))
              (All-push (λ place. place ≤ length made.stages + length made.columns) (map leg_place legs) (leg_place (leg_from made)) (λ k d l. let w = h.within k d l in omega (arith, w, longer_now)) (omega arith));
          current = λ o. record { before = legs; leg = leg_from made; split = refl; stages = refl; columns = refl; first = made; in_order = keeps.in_order; open_now = open_now; frame = frame-itself made; leads = refl };
        })
      where
        keeps : KeepsRun all limits made
        keeps = step_kept all limits table h.keeps limited made e

    pivots_on : (table made : Table) (legs : List Leg) (r : ℕ) (v : Var) → KeepsLegs table legs → step all limits table ≡ GoOn made → table.in_stage ≡ true → choice table ≡ Some (r, v) → pivot table r v ≡ Ok made →
        made.pivots ≡ table.pivots + 1 → KeepsLegs made (legs_after legs table made)
    pivots_on table made legs r v h e open_now chosen pivoted counted =
        let c = h.current open_now in
        let leg = c.leg in
        let is : legs_after legs table made ≡ c.before ++ longer leg ∷ [] = after_pivot legs table made (omega (arith, counted)) ∙ ap with_pivot c.split ∙ with_pivot-last c.before leg in
        let s = step-from table made r v h.keeps.in_order open_now chosen pivoted in
        let one : suc leg.pivots ≡ leg.pivots + 1 = omega arith in
        let leads : Leads (suc leg.pivots) c.first made = (table, c.leads, record { row = r; entering = v; chosen = chosen; pivoted = pivoted }) in
        let frame = frame-trans c.first table made c.frame s.frame in
        let sizes : length c.first.sizes ≡ classes = sym (ap length c.frame.sizes) ∙ class_count table h.keeps.sizes in
        let all_few = recursion_from_All IsFew (c.before ++ leg ∷ []) (subst (All IsFew) c.split h.few) in
        let places : map leg_place legs ≡ map leg_place (c.before ++ longer leg ∷ []) =
        ap (map leg_place) c.split ∙ map_push leg_place c.before leg ∙ sym (map_push leg_place c.before (longer leg)) in
        subst (KeepsLegs made) (sym is) (record {
          keeps = step_kept all limits table h.keeps limited made e;
          sum = omega (
            arith,
            sum_by_push (λ (leg : Leg). leg.pivots) c.before (longer leg),
            sum_by_push (λ (leg : Leg). leg.pivots) c.before leg,
            ap (sum_by (λ (leg : Leg). leg.pivots)) c.split,
            h.sum,
            counted,
          );
          few = All-push IsFew c.before (longer leg) (All-from_recursion IsFew c.before (each_left IsFew c.before (leg ∷ []) all_few))
              (short c.first made (suc leg.pivots) (longer leg) c.in_order c.open_now leads (sym one) sizes (omega (arith, c.stages, ap length c.frame.stages)) (omega (arith, c.columns, ap length c.frame.columns)));
          apart = subst (AllPairs (λ a b. a < b)) places h.apart;
          within = subst (All (λ place. place ≤ length made.stages + length made.columns)) places (λ k d l. let w = h.within k d l in omega (arith, w, ap length s.frame.stages, ap length s.frame.columns));
          current = λ o. record {
            before = c.before;
            leg = longer leg;
            split = refl;
            stages = omega (arith, c.stages, ap length s.frame.stages);
            columns = omega (arith, c.columns, ap length s.frame.columns);
            first = c.first;
            in_order = c.in_order;
            open_now = c.open_now;
            frame = frame;
            leads = subst (λ n. Leads n c.first made) one leads;
          };
        })

    closes : (table made : Table) (legs : List Leg) → KeepsLegs table legs → step all limits table ≡ GoOn made → made.in_stage ≡ false → made.pivots ≡ table.pivots → made.stages ≡ table.stages → made.columns ≡ table.columns → KeepsLegs made (legs_after legs table made)
    closes table made legs h e shut same stages columns =
        subst (KeepsLegs made) (sym (after_other legs table made same stages columns)) (record {
          keeps = step_kept all limits table h.keeps limited made e;
          sum = h.sum ∙ sym same;
          few = h.few;
          apart = h.apart;
          within = λ k d l. let w = h.within k d l in omega (arith, w, ap length stages, ap length columns);
          current = λ o. absurd cc;
        })

    spent : (table : Table) (legs : List Leg) → KeepsLegs table legs → table.in_stage ≡ true → limits.pivots ≤ table.pivots → limits.pivots < pivot_limit classes (with_pivot legs)
    spent table legs h open_now most =
        let c = h.current open_now in
        let all_few = recursion_from_All IsFew (c.before ++ c.leg ∷ []) (subst (All IsFew) c.split h.few) in
        let last = each_right IsFew c.before (c.leg ∷ []) all_few in
        let l = sums_below classes c.before c.leg (each_left IsFew c.before (c.leg ∷ []) all_few) last.0 in
        omega (arith, most, h.sum, ap (sum_by (λ (leg : Leg). leg.pivots)) c.split, l, ap (λ legs. pivot_limit classes (with_pivot legs)) c.split)

    allows-answered : (table : Table) (legs : List Leg) (o : Result Lottery TotalPass) → Allows (answered all table o) legs
    allows-answered table legs (Ok lottery) = tt
    allows-answered table legs (Err pass) = tt

    entered : (table : Table) (legs : List Leg) → KeepsLegs table legs → step all limits table ≡ GoOn (enter_stage table) → KeepsLegs (enter_stage table) (legs_after legs table (enter_stage table))
    unfolding enter_stage
    entered table legs h e = let more = length_push table.stages (map not table.settled) in begins table (enter_stage table) legs h e refl refl (inl (omega (arith, more))) (omega (arith, more))

    widened : (table : Table) (legs : List Leg) (counts : List ℕ) → KeepsLegs table legs → table.in_stage ≡ true → step all limits table ≡ GoOn (add_column table counts) → KeepsLegs (add_column table counts) (legs_after legs table (add_column table counts))
    unfolding add_column
    widened table legs counts h open_now e = let more = length_push table.columns counts in begins table (add_column table counts) legs h e open_now refl (inr (omega (arith, more))) (omega (arith, more))

    closed : (table : Table) (legs : List Leg) → KeepsLegs table legs → step all limits table ≡ GoOn (close_stage table) → KeepsLegs (close_stage table) (legs_after legs table (close_stage table))
    unfolding closed_by
    closed table legs h e = closes table (close_stage table) legs h e refl refl refl refl

    step_holds : (table : Table) (legs : List Leg) → KeepsLegs table legs → Holds (step all limits table) (legs_to legs table (step all limits table))
    step_holds table legs h = by (step all limits table) refl (step_is all limits table)
      where
        by : (next : Next) → step all limits table ≡ next → StepIs all limits table next → Holds next (legs_to legs table next)
        by next f (Enters shut some is) = subst (λ n. Holds n (legs_to legs table n)) (sym is) (entered table legs h (f ∙ is))
        by next f (Answers shut settled is) = subst (λ n. Holds n (legs_to legs table n)) (sym is) (h.few, h.apart, allows-answered table legs (spread all (parts_of table)))
        by next f (NoPivot open_now most is) = subst (λ n. Holds n (legs_to legs table n)) (sym is) (h.few, h.apart, spent table legs h open_now most)
        by next f (Pivots open_now r v after chosen few p is) =
            subst (λ n. Holds n (legs_to legs table n)) (sym is) (pivots_on table after legs r v h (f ∙ is) open_now chosen p (pivot-counts table after r v p))
        by next f (Passes open_now r v pass chosen few p is) = subst (λ n. Holds n (legs_to legs table n)) (sym is) (h.few, h.apart, tt)
        by next f (NoVisits open_now done more is) = subst (λ n. Holds n (legs_to legs table n)) (sym is) (h.few, h.apart, tt)
        by next f (Widens open_now done counts p is) = subst (λ n. Holds n (legs_to legs table n)) (sym is) (widened table legs counts h open_now (f ∙ is))
        by next f (Closes open_now done p is) = subst (λ n. Holds n (legs_to legs table n)) (sym is) (closed table legs h (f ∙ is))

    module _ (ranges : AreRunLimits limits) where
      none_apart : AllPairs (λ a b. a < b) []
      none_apart i j d l m = absurd (omega arith)

      opening_holds : Holds (opening all limits) []
      opening_holds = by (opening all limits) refl (opening_is all limits)
        where
          by : (next : Next) → opening all limits ≡ next → OpeningIs all limits next → Holds next []
          by next f (Spends more is) = subst (λ n. Holds n []) (sym is) (All-nil IsFew, none_apart, tt)
          by next f (FindsNoPanel within none is) = subst (λ n. Holds n []) (sym is) (All-nil IsFew, none_apart, tt)
          by next f (IsWide first pass found e is) = subst (λ n. Holds n []) (sym is) (All-nil IsFew, none_apart, tt)
          by next f (Begins first table found e is) =
              let at_start = started-table (sizes_of all) first limits.bits table e in
              subst (λ n. Holds n []) (sym is) (record { keeps = opening_kept all limits limited ranges table (f ∙ is); sum = sym at_start.0; few = All-nil IsFew; apart = none_apart; within = All-nil (λ place. place ≤ length table.stages + length table.columns); current = λ o. let shut = at_start.1 in absurd cc })

      traced_holds : (steps : ℕ) → Holds (traced all limits steps).next (traced all limits steps).legs
      traced_holds zero = opening_holds
      traced_holds (suc steps) = by (traced all limits steps).next (traced all limits steps).legs (traced_holds steps)
        where
          by : (next : Next) (legs : List Leg) → Holds next legs → Holds (onward all limits next legs).next (onward all limits next legs).legs
          by (GoOn table) legs h = step_holds table legs h
          by (Ended ending) legs h = h

pub few_pivots : LegsHaveFewPivots
few_pivots all limits steps limited ranges = by (traced all limits steps).next (traced all limits steps).legs (traced_holds all limits limited ranges steps)
  where
    by : (next : Next) (legs : List Leg) → Holds all limits next legs → All (IsFew all limits) legs
    by (GoOn table) legs h = h.few
    by (Ended ending) legs h = h.0

pub legs_apart : LegsAreApart
legs_apart all limits steps limited ranges = by (traced all limits steps).next (traced all limits steps).legs (traced_holds all limits limited ranges steps)
  where
    by : (next : Next) (legs : List Leg) → Holds all limits next legs → AllPairs (λ a b. a < b) (map leg_place legs)
    by (GoOn table) legs h = h.apart
    by (Ended ending) legs h = h.1

pub pivots_spent : (all : Classes) (limits : RunLimits) (steps : ℕ) (table : Table) → KeepsLimits all → AreRunLimits limits → (traced all limits steps).next ≡ Ended (PivotsSpent table) →
    limits.pivots < pivot_limit (length all.classes) (with_pivot (traced all limits steps).legs)
pivots_spent all limits steps table limited ranges e = (subst (λ next. Holds all limits next (traced all limits steps).legs) e (traced_holds all limits limited ranges steps)).2

pub all_pivots : LegsHavePivots
all_pivots all limits steps table limited ranges e =
    let h : KeepsLegs all limits table (traced all limits steps).legs = subst (λ next. Holds all limits next (traced all limits steps).legs) e (traced_holds all limits limited ranges steps) in h.sum

-- ---- the run that is traced
module _ (all : Classes) (limits : RunLimits) where
  -- one step more at the end of a run is one step more
  follow-more : (steps : ℕ) (next : Next) (legs : List Leg) → follow all limits next (suc steps) ≡ (onward all limits (follow all limits next steps) legs).next
  follow-more zero (GoOn table) legs = refl
  follow-more zero (Ended ending) legs = refl
  follow-more (suc steps) (GoOn table) legs = follow-more steps (step all limits table) legs
  follow-more (suc steps) (Ended ending) legs = refl

pub traces : TracesTheRun
traces all limits zero = refl
traces all limits (suc steps) =
    ap (λ next. (onward all limits next (traced all limits steps).legs).next) (traces all limits steps)
    ∙ sym (follow-more all limits steps (opening all limits) (traced all limits steps).legs)
