-- A composition that pricing finds isn't a column of the table yet. Once it is added as a column, a pivot is chosen.
use Rattle.std.proofs.Common.{◌≡◌, ◌≢◌, ℕ, zero, suc, ◌+◌, ◌<◌, ◌≤◌, Bool, true, false, ◌&&◌, List, [], ◌∷◌, ◌++◌, length, length-append, map, take, get_or, Option, Some, None, pos, ◌-ℤ◌, refl, sym, ap, ◌∙◌, subst, arith}
use Rattle.std.specs.Prelude.{int_lt, int_le, slice_index, Contains}
use Rattle.std.specs.Ordering.{int_eq}
use Rattle.std.specs.List.{AllByRecursion, range_with_len}
use Rattle.std.proofs.lemmas.Int.{ints}
use Rattle.std.proofs.lemmas.Bool.Decides.{Decides-int_eq}
use Rattle.std.proofs.lemmas.List.{get_or_push}
use Rattle.std.proofs.lemmas.List.Elements.{All-from_recursion, recursion_from_All}
use Rattle.define_pools.proofs.Found.{find-none}
use Rattle.define_pools.proofs.Each.{list_all_from_each, each_from_list_all, each_of_map, each_right}
use Rattle.define_rows.specs.declared.Var.{Var}
use Rattle.define_rows.specs.declared.Var.TheVariants.{Slack, Stage, Column}
use Rattle.define_rows.specs.Choice.{is_eligible, basic_row, entering_from, entering, choice}
use Rattle.define_rows.specs.Laws.{MayAdd}
use Rattle.define_rows.specs.Steps.{add_column, open_row}
use Rattle.define_rows.specs.Table.{Table, coefficient_at, row_at, stage_variable, variables}
use Rattle.define_rows.proofs.CoefficientLaws.{coefficient-Column}
use Rattle.define_rows.proofs.Leaving.{entering-none}
use Rattle.define_rows.proofs.StepsKeep.{add-keeps}
use Rattle.define_searches.specs.Classes.{Class, Classes, KeepsLimits}
use Rattle.define_searches.specs.Compositions.{all_counts, attains, compositions, is_composition, weight_in}
use Rattle.define_searches.specs.Fronts.{sizes_of}
use Rattle.define_searches.specs.Best.{Qualifies}
use Rattle.define_searches.proofs.Best.{price_found, price_none}
use Rattle.define_searches.proofs.Contained.{each_contains, filtered, first_pass}
use Rattle.define_searches.proofs.FirstSearch.{Gives, all_counts_give}
use Rattle.define_runs.specs.Run.{RunLimits, closed_rows}
use Rattle.define_runs.specs.Keeps.{KeepsRun, IsPriced}

-- a column's coefficient in a row is the right side less the column's weight
column_coefficient : (table : Table) (i c : ℕ) → coefficient_at table i (Column c) ≡ (row_at table i).b -ℤ weight_in (row_at table i).a (get_or table.columns c [])
column_coefficient table i c = coefficient-Column table (row_at table i) c

-- ---- a table in which no variable enters

pub record IsAtRest (table : Table) : Type 0 where
  pub row : ℕ
  pub found : basic_row table (stage_variable table) ≡ Some row
  pub none : AllByRecursion (λ v. (is_eligible table v && int_lt (coefficient_at table row v) (pos 0)) ≡ false) (variables table)

at_rest : (table : Table) → entering table ≡ None → IsAtRest table
unfolding entering
at_rest table e = by (basic_row table (stage_variable table)) refl e
  where
    by : (o : Option ℕ) → basic_row table (stage_variable table) ≡ o → entering_from table o ≡ None → IsAtRest table
    by None f k = absurd cc
    by (Some row) f k = record { row = row; found = f; none = find-none (λ v. is_eligible table v && int_lt (coefficient_at table row v) (pos 0)) (variables table) k }

at_place : (Q : ℕ → Type 0) (first count k : ℕ) → AllByRecursion Q (range_with_len first count) → k < count → Q (first + k)
at_place Q first zero k h l = absurd (omega arith)
at_place Q first (suc count) zero h l = let e : first + 0 ≡ first = omega arith in subst Q (sym e) h.0
at_place Q first (suc count) (suc k) h l =
    let e : first + 1 + k ≡ first + suc k = omega arith in subst Q e (at_place Q (first + 1) count k h.1 (omega arith))

each_column : (table : Table) (Q : Var → Type 0) (c : ℕ) → AllByRecursion Q (variables table) → c < length table.columns → Q (Column c)
each_column table Q c h l =
    let columns = each_right Q (map Slack (range_with_len 0 (length table.sizes)) ++ map Stage (range_with_len 0 (length table.stages))) (map Column (range_with_len 0 (length table.columns))) h in
    let e : 0 + c ≡ c = omega arith in subst (λ c. Q (Column c)) e (at_place (λ c. Q (Column c)) 0 (length table.columns) c (each_of_map Q Column (range_with_len 0 (length table.columns)) columns) l)

each_from_index : (P : ℕ → Type 0) (xs : List ℕ) → ((k : ℕ) → k < length xs → P (slice_index xs k)) → AllByRecursion P xs
each_from_index P [] h = tt
each_from_index P (x ∷ xs) h = (h 0 (omega arith), each_from_index P xs (λ k l. h (suc k) (omega arith)))

-- a composition is tight at the closed rows: it weighs the right side in each of them
abbrev pub IsTight : Table → List ℕ → Type 0
IsTight table counts = AllByRecursion (λ i. weight_in (row_at table i).a counts ≡ (row_at table i).b) table.closed

-- if no variable enters, no column that is tight at the closed rows weighs more in the open row than its right side
no_better_column : (table : Table) → entering table ≡ None → (c : ℕ) → c < length table.columns → IsTight table (get_or table.columns c []) →
    int_lt (row_at table (open_row table)).b (weight_in (row_at table (open_row table)).a (get_or table.columns c [])) ≡ false
no_better_column table e c l tight = by (int_lt (row_at table (open_row table)).b (weight_in (row_at table (open_row table)).a (get_or table.columns c []))) refl
  where
    rest : IsAtRest table
    rest = at_rest table e

    here : open_row table ≡ rest.row
    here = let found = rest.found in cc

    zero_in : (is : List ℕ) → AllByRecursion (λ i. weight_in (row_at table i).a (get_or table.columns c []) ≡ (row_at table i).b) is → AllByRecursion (λ i. int_eq (coefficient_at table i (Column c)) (pos 0) ≡ true) is
    zero_in [] h = tt
    zero_in (i ∷ is) h =
        let side = column_coefficient table i c in let weight = h.0 in
        ((Decides-int_eq (coefficient_at table i (Column c)) (pos 0)).1 (omega (arith, ints, side, weight)), zero_in is h.1)

    eligible : is_eligible table (Column c) ≡ true
    eligible = list_all_from_each (λ i. int_eq (coefficient_at table i (Column c)) (pos 0)) table.closed (zero_in table.closed tight)

    refused : (is_eligible table (Column c) && int_lt (coefficient_at table rest.row (Column c)) (pos 0)) ≡ false
    refused = each_column table (λ v. (is_eligible table v && int_lt (coefficient_at table rest.row v) (pos 0)) ≡ false) c rest.none l

    not_negative : int_lt (coefficient_at table (open_row table) (Column c)) (pos 0) ≡ false
    not_negative = ap (λ i. int_lt (coefficient_at table i (Column c)) (pos 0)) here ∙ ap (λ b. b && int_lt (coefficient_at table rest.row (Column c)) (pos 0)) (sym eligible) ∙ refused

    by : (b : Bool) → int_lt (row_at table (open_row table)).b (weight_in (row_at table (open_row table)).a (get_or table.columns c [])) ≡ b → b ≡ false
    by false t = refl
    by true t =
        let side = column_coefficient table (open_row table) c in let sign = not_negative in absurd (omega (arith, ints, side, sign, t))

-- ---- a composition that attains the closed rows

module _ (all : Classes) (limits : RunLimits) (table : Table) (keeps : KeepsRun all limits table) where
  pub tight : (counts : List ℕ) → Contains (compositions all) counts → attains (closed_rows table) counts ≡ true → IsTight table counts
  tight counts there attained =
      each_from_index (λ i. weight_in (row_at table i).a counts ≡ (row_at table i).b) table.closed (λ k l. let least = at_least k l in let most = at_most k l in omega (arith, ints))
    where
      at_least : (k : ℕ) → k < length table.closed → int_le (row_at table (slice_index table.closed k)).b (weight_in (row_at table (slice_index table.closed k)).a counts) ≡ true
      at_least k l = All-from_recursion (λ i. int_le (row_at table i).b (weight_in (row_at table i).a counts) ≡ true) table.closed
          (each_of_map (λ row. int_le row.b (weight_in row.a counts) ≡ true) (row_at table) table.closed
          (each_from_list_all (λ row. int_le row.b (weight_in row.a counts)) (closed_rows table) attained)) k 0 l

      at_most : (k : ℕ) → k < length table.closed → int_lt (row_at table (slice_index table.closed k)).b (weight_in (row_at table (slice_index table.closed k)).a counts) ≡ false
      at_most k l = price_none all (take k (closed_rows table)) (row_at table (slice_index table.closed k)) counts (keeps.priced_out k l) there
          (first_pass (λ row. int_le row.b (weight_in row.a counts)) k (closed_rows table) attained)

-- ---- the counts that classes can give

within_sizes : (classes : List Class) (counts : List ℕ) → AllByRecursion (λ class. class.most ≤ length class.members) classes → Gives classes counts → (t : ℕ) →
    slice_index counts t ≤ slice_index (map (λ class. length class.members) classes) t
within_sizes [] [] h g t = omega arith
within_sizes [] (c ∷ counts) h g t = absurd g
within_sizes (class ∷ classes) [] h g t = absurd g
within_sizes (class ∷ classes) (c ∷ counts) h g zero = let few = h.0 in let given = g.0 in omega arith
within_sizes (class ∷ classes) (c ∷ counts) h g (suc t) = within_sizes classes counts h.1 g.1 t

as_long : (classes : List Class) (counts : List ℕ) → Gives classes counts → length counts ≡ length (map (λ class. length class.members) classes)
as_long [] [] g = refl
as_long [] (c ∷ counts) g = absurd g
as_long (class ∷ classes) [] g = absurd g
as_long (class ∷ classes) (c ∷ counts) g = omega (arith, as_long classes counts g.1)

-- counts for all classes, each at most the size of its class
pub record FitsSizes (all : Classes) (counts : List ℕ) : Type 0 where
  pub each : length counts ≡ length (sizes_of all)
  pub bounds : (t : ℕ) → slice_index counts t ≤ slice_index (sizes_of all) t

pub composition_fits : (all : Classes) → KeepsLimits all → (counts : List ℕ) → Contains (compositions all) counts → FitsSizes all counts
composition_fits all keeps counts there =
    let given = filtered (Gives all.classes) (is_composition all) (all_counts all.classes) (all_counts_give all.classes keeps.searchable.in_order) in
    let gives = (each_contains (λ counts. Gives all.classes counts × (is_composition all counts ≡ true)) (compositions all) counts given there).0 in
    record {
      each = as_long all.classes counts gives;
      bounds = within_sizes all.classes counts (recursion_from_All (λ class. class.most ≤ length class.members) all.classes keeps.most) gives;
    }

-- ---- a composition that pricing found, as a new column

module _ (all : Classes) (limits : RunLimits) (table : Table) (counts : List ℕ) (limited : KeepsLimits all) (priced : IsPriced all limits table counts) where
  pub better : Qualifies all (closed_rows table) (row_at table (open_row table)) counts
  better = price_found all (closed_rows table) (row_at table (open_row table)) counts priced.found

  fits : FitsSizes all counts
  fits = composition_fits all limited counts better.composition

  fresh : (c : ℕ) → c < length table.columns → get_or table.columns c [] ≢ counts
  fresh c l same =
      let rest = entering-none table priced.keeps.in_order priced.open_now priced.done in
      let weighs = tight all limits table priced.keeps counts better.composition better.attained in
      let here = no_better_column table rest c l (subst (IsTight table) (sym same) weighs) in
      let above = better.above in
      let moved = ap (λ z. int_lt (row_at table (open_row table)).b (weight_in (row_at table (open_row table)).a z)) same in cc

  pub may_be_added : MayAdd table counts
  may_be_added = record {
    in_order = priced.keeps.in_order;
    each = fits.each ∙ sym (ap length priced.keeps.sizes);
    bounds = λ t l. subst (λ sizes. slice_index counts t ≤ slice_index sizes t) (sym priced.keeps.sizes) (fits.bounds t);
    fresh = fresh;
  }

  pub is_chosen : choice (add_column table counts) ≢ None
  unfolding add_column
  is_chosen none =
      let added = add_column table counts in
      let ordered = add-keeps table counts priced.keeps.in_order may_be_added.each may_be_added.bounds may_be_added.fresh in
      let rest = entering-none added ordered priced.open_now none in
      let weighs = tight all limits table priced.keeps counts better.composition better.attained in
      let last = get_or_push table.columns counts [] (length table.columns) refl in
      let here = no_better_column added rest (length table.columns) (omega (arith, length-append table.columns (counts ∷ []))) (subst (IsTight table) (sym last) weighs) in
      let above = better.above in
      let moved = ap (λ z. int_lt (row_at table (open_row table)).b (weight_in (row_at table (open_row table)).a z)) last in cc
