-- The stages of a table's closed rows. Their caps hold, since pricing found no composition that weighs more.
use Rattle.std.proofs.Common.{◌≡◌, ℕ, zero, suc, ◌+◌, ◌<◌, ◌≤◌, Bool, true, false, ◌&&◌, List, [], ◌∷◌, map, length, take, refl, sym, ap, ap₂, ◌∙◌, arith}
use Rattle.std.specs.Prelude.{int_le, slice_index}
use Rattle.std.specs.List.{range_with_len}
use Rattle.std.proofs.lemmas.List.{get_or-map, length-map}
use Rattle.std.proofs.lemmas.List.Folds.{list_all-append}
use Rattle.std.proofs.lemmas.List.FromFn.{map-range_with_len_more, take-map-range_with_len}
use Rattle.std.proofs.lemmas.List.Elements.{filter_agree}
use Rattle.define_pools.specs.Certificate.{Stage, is_capped}
use Rattle.define_pools.specs.Pool.{Pool}
use Rattle.define_rows.specs.Row.{Row}
use Rattle.define_rows.specs.Table.{Table, row_at}
use Rattle.define_searches.specs.Classes.{Classes, MakesClasses, classes_by}
use Rattle.define_searches.specs.Compositions.{attains, compositions, first_greatest, price, weight_in}
use Rattle.define_searches.specs.Stages.{WeighAlike, row_of}
use Rattle.define_searches.proofs.NothingToPrice.{capped_where_nothing_priced}
use Rattle.define_runs.specs.Keeps.{KeepsRun}
use Rattle.define_runs.specs.Run.{RunLimits, closed_rows, stage_of}
use Rattle.laws_of_runs.proofs.StageRows.{from_places, row_back, weighs_alike}

-- the row of closed stage k
abbrev pub closed_row : Table → ℕ → Row
closed_row table k = row_at table (slice_index table.closed k)

-- the stage that is made of the row of closed stage k
abbrev pub stage_at : Classes → Table → ℕ → Stage
stage_at all table k = stage_of all (closed_row table k)

-- the stages before stage k, the last one first
abbrev pub earlier : Classes → Table → ℕ → List Stage
earlier all table zero = []
earlier all table (suc k) = stage_at all table k ∷ earlier all table k

-- the rows of the stages before stage k, the last one first
abbrev rows_before : Table → ℕ → List Row
rows_before table zero = []
rows_before table (suc k) = closed_row table k ∷ rows_before table k

-- ---- the closed rows by their places

pub closed_rows_are : (table : Table) → map (closed_row table) (range_with_len 0 (length table.closed)) ≡ closed_rows table
closed_rows_are table =
    ap (λ n. map (closed_row table) (range_with_len 0 n)) (sym (length-map table.closed (row_at table)))
    ∙ from_places (closed_row table) 0 (closed_rows table) (row_at table 0)
    (λ i l. let here : 0 + i ≡ i = omega arith in ap (closed_row table) here ∙ sym (get_or-map (row_at table) table.closed i 0 (row_at table 0) (omega (arith, length-map table.closed (row_at table)))))

first_rows_are : (table : Table) (k : ℕ) → k ≤ length table.closed → take k (closed_rows table) ≡ map (closed_row table) (range_with_len 0 k)
first_rows_are table k l = ap (take k) (sym (closed_rows_are table)) ∙ take-map-range_with_len (closed_row table) 0 (length table.closed) k l

-- ---- `attains` and `price` don't depend on the order of rows

and_turned : (a b : Bool) → (a && b) ≡ (b && (a && true))
and_turned true true = refl
and_turned true false = refl
and_turned false true = refl
and_turned false false = refl

attained_same : (table : Table) (k : ℕ) (counts : List ℕ) → attains (rows_before table k) counts ≡ attains (map (closed_row table) (range_with_len 0 k)) counts
attained_same table zero counts = refl
attained_same table (suc k) counts =
    let passes : Row → Bool = λ row. int_le row.b (weight_in row.a counts) in
    let before : List Row = map (closed_row table) (range_with_len 0 k) in
    let next : k + 1 ≡ suc k = omega arith in
    ap (λ b. passes (closed_row table k) && b) (attained_same table k counts)
    ∙ and_turned (passes (closed_row table k)) (attains before counts)
    ∙ sym (list_all-append passes before (closed_row table k ∷ []))
    ∙ ap (λ rows. attains rows counts) (sym (map-range_with_len_more (closed_row table) 0 k k (omega arith)))
    ∙ ap (λ n. attains (map (closed_row table) (range_with_len 0 n)) counts) next

price_same : (all : Classes) (table : Table) (k : ℕ) (row : Row) → price all (rows_before table k) row ≡ price all (map (closed_row table) (range_with_len 0 k)) row
price_same all table k row =
    ap (first_greatest (weight_in row.a) row.b)
    (filter_agree (attains (rows_before table k)) (attains (map (closed_row table) (range_with_len 0 k))) (attained_same table k) (compositions all))

-- ---- the stages' caps hold

module _ (pool : Pool) (alike : ℕ → ℕ → Bool) (makes : MakesClasses pool alike) (limits : RunLimits) (table : Table) (keeps : KeepsRun (classes_by alike pool) limits table) where
  abbrev all : Classes
  all = classes_by alike pool

  pub size_count : length table.sizes ≡ length all.classes
  size_count = ap length keeps.sizes ∙ length-map all.classes (λ class. length class.members)

  pub entry_each : (k : ℕ) → k < length table.closed → length (closed_row table k).a ≡ length all.classes
  entry_each k l = keeps.in_order.entry_count (slice_index table.closed k) _ (keeps.in_order.closed_known k 0 l) ∙ size_count

  rows_back : (k : ℕ) → k ≤ length table.closed → map (row_of alike pool) (earlier all table k) ≡ rows_before table k
  rows_back zero l = refl
  rows_back (suc k) l = ap₂ (λ row rows. row ∷ rows) (row_back pool alike makes (closed_row table k) (entry_each k (omega arith))) (rows_back k (omega arith))

  weigh_alike : (k : ℕ) → WeighAlike alike (length pool.volunteers) (earlier all table k)
  weigh_alike zero = tt
  weigh_alike (suc k) = (weighs_alike pool alike makes (closed_row table k), weigh_alike k)

  pub capped : (k : ℕ) → k < length table.closed → is_capped pool (earlier all table k) (stage_at all table k) ≡ true
  capped k l =
      capped_where_nothing_priced pool alike (earlier all table k) (stage_at all table k) makes
      (weighs_alike pool alike makes (closed_row table k), weigh_alike k)
      (ap₂ (price all) (rows_back k (omega arith)) (row_back pool alike makes (closed_row table k) (entry_each k l))
      ∙ price_same all table k (closed_row table k)
      ∙ ap (λ rows. price all rows (closed_row table k)) (sym (first_rows_are table k (omega arith)))
      ∙ keeps.priced_out k l)
