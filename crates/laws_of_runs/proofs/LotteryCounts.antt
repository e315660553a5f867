-- Each panel of the spread lottery weighs the cap in each closed stage, and each volunteer's count is a sum of levels.
use Rattle.std.proofs.Common.{◌≡◌, ℕ, zero, suc, ◌+◌, ◌*◌, ◌/◌, ◌<◌, Bool, true, false, cond, not, ◌||◌, List, [], ◌∷◌, map, length, get_or, Ok, refl, sym, ap, ap₂, ◌∙◌, arith}
use Rattle.std.specs.Int.{◌∣◌}
use Rattle.std.specs.List.{All, AllByRecursion, range_with_len}
use Rattle.std.proofs.lemmas.List.{get_or-map}
use Rattle.std.proofs.lemmas.List.Elements.{All-from_recursion, recursion_from_All}
use Rattle.std.proofs.lemmas.Option.{slice_get-get_or}
use Rattle.std.proofs.Math.Nat.{mul-div_cancel_left}
use Rattle.define_pools.proofs.Sums.{total, sum_by-is-total}
use Rattle.define_pools.proofs.Each.{each_map}
use Rattle.frac128.specs.Fractions.{Fraction, lowest_of}
use Rattle.define_pools.specs.Certificate.{panel_weight}
use Rattle.define_pools.specs.Lottery.{Lottery, count}
use Rattle.define_pools.specs.Pool.{Pool}
use Rattle.define_rows.specs.InOrder.{count_in}
use Rattle.define_rows.specs.Levels.{HasLevels, count_over, class_levels}
use Rattle.define_rows.specs.Settled.{KeepsStages, was_unsettled}
use Rattle.define_rows.specs.Solutions.{IsTight, SolutionStands, numerator_over}
use Rattle.define_rows.specs.Steps.{ColumnValue, fraction_of, solution}
use Rattle.define_rows.specs.Table.{Table}
use Rattle.define_rows.proofs.Satisfied.{solution-stands, solution-tight}
use Rattle.define_searches.specs.Classes.{Classes, MakesClasses, class_by, class_number, classes_by}
use Rattle.define_searches.proofs.ClassNumbers.{number_below, number_has}
use Rattle.define_searches.proofs.Parting.{classes_part}
use Rattle.define_runs.specs.Spreading.{AreParts, expected, spread}
use Rattle.define_runs.proofs.CommonTotals.{each_den}
use Rattle.define_runs.proofs.Lotteries.{IsSpread, even_chances, is_spread, pool_can_give}
use Rattle.define_runs.proofs.SpreadPanels.{OfComposition, each_spread_panel}
use Rattle.define_runs.specs.Keeps.{KeepsRun}
use Rattle.define_runs.specs.Run.{RunLimits, parts_of}
use Rattle.define_runs.proofs.Parts.{parts_are}
use Rattle.laws_of_runs.specs.Levels.{Closed, levels_to_come}
use Rattle.laws_of_runs.proofs.ClosedStages.{closed_row, earlier, entry_each, size_count, stage_at}
use Rattle.laws_of_runs.proofs.Marks.{marked}
use Rattle.laws_of_runs.proofs.PanelWeights.{panel_weighs}

-- if P holds of each column of the solution with its fraction, P holds of each part
each_part : (table : Table) (P : List ℕ × Fraction → Type 0) (theres : List ColumnValue) →
    AllByRecursion (λ there. P (get_or table.columns there.column [], lowest_of there.side there.coefficient)) theres →
    AllByRecursion P (map (λ (c, value). (get_or table.columns c [], value)) (map fraction_of theres))
each_part table P [] h = tt
each_part table P (there ∷ theres) h = (h.0, each_part table P theres h.1)

each_column : (table : Table) (P : List ℕ × Fraction → Type 0) (theres : List ColumnValue) →
    AllByRecursion P (map (λ (c, value). (get_or table.columns c [], value)) (map fraction_of theres)) →
    AllByRecursion (λ there. P (get_or table.columns there.column [], lowest_of there.side there.coefficient)) theres
each_column table P [] h = tt
each_column table P (there ∷ theres) h = (h.0, each_column table P theres h.1)

-- the count that the parts give class t over `common` is the class's count over `common` in the solution
expected_is : (table : Table) (common t : ℕ) (theres : List ColumnValue) →
    total (λ (part : List ℕ × Fraction). get_or part.0 t 0 * (part.1.num * (common / part.1.den))) (map (λ (c, value). (get_or table.columns c [], value)) (map fraction_of theres))
    ≡ total (λ there. numerator_over common there * count_in table.columns there.column t) theres
expected_is table common t [] = refl
expected_is table common t (there ∷ theres) =
    ap₂ (λ a b. a + b) (turned (count_in table.columns there.column t) (numerator_over common there)) (expected_is table common t theres)
  where
    turned : (a b : ℕ) → a * b ≡ b * a
    turned a b = omega arith

module _ (pool : Pool) (alike : ℕ → ℕ → Bool) (makes : MakesClasses pool alike) (limits : RunLimits) (table : Table) (keeps : KeepsRun (classes_by alike pool) limits table) (lottery : Lottery)
    (lottery_is : spread (classes_by alike pool) (parts_of table) ≡ Ok lottery) where
  abbrev all : Classes
  all = classes_by alike pool

  abbrev class_at : ℕ → ℕ
  class_at i = class_number all.classes i

  parts : AreParts all (parts_of table)
  parts = parts_are all limits table keeps

  made : IsSpread all (parts_of table) lottery
  made = is_spread all (parts_of table) lottery parts lottery_is

  -- ---- each panel of the lottery weighs the cap

  solved : SolutionStands table
  solved = solution-stands table keeps.in_order

  pub caps_reached : (k : ℕ) → k < length table.closed → AllByRecursion (λ row. panel_weight (stage_at all table k) row.panel ≡ (closed_row table k).b) lottery.rows
  caps_reached k l =
      each_spread_panel pool alike makes (λ panel. panel_weight (stage_at all table k) panel ≡ (closed_row table k).b) (parts_of table) lottery parts lottery_is
      (each_part table (λ part. OfComposition pool alike makes (λ panel. panel_weight (stage_at all table k) panel ≡ (closed_row table k).b) part.0) (solution table)
      (each_map (λ there. All (IsTight table there.column) table.closed)
      (λ there. OfComposition pool alike makes (λ panel. panel_weight (stage_at all table k) panel ≡ (closed_row table k).b) (get_or table.columns there.column []))
      (λ there tight panel inside composed.
      panel_weighs pool alike makes (closed_row table k) (entry_each pool alike makes limits table keeps k l) (get_or table.columns there.column []) panel inside composed ∙ tight k 0 l) (solution table)
      (recursion_from_All (λ there. All (IsTight table there.column) table.closed) (solution table) (solution-tight table keeps.in_order))))

  -- ---- each volunteer's count

  divides : All (λ there. (lowest_of there.side there.coefficient).den ∣ lottery.total) (solution table)
  divides = All-from_recursion (λ there. (lowest_of there.side there.coefficient).den ∣ lottery.total) (solution table)
      (each_column table (λ part. part.1.den ∣ lottery.total) (solution table) (each_den all (parts_of table) lottery.total made.common))

  expected_count : (t : ℕ) → expected lottery.total (parts_of table) t ≡ count_over table lottery.total t
  expected_count t =
      sum_by-is-total (λ part. get_or part.0 t 0 * (part.1.num * (lottery.total / part.1.den))) (parts_of table)
      ∙ expected_is table lottery.total t (solution table)
      ∙ sym (sum_by-is-total (λ there. numerator_over lottery.total there * count_in table.columns there.column t) (solution table))

  -- a volunteer's count, times the size of the volunteer's class, is the class's count
  counted : (i : ℕ) → i < length pool.volunteers → count lottery i * get_or table.sizes (class_at i) 0 ≡ count_over table lottery.total (class_at i)
  counted i l =
      let class = get_or all.classes (class_at i) (class_by alike pool 0) in
      let inside = number_below pool alike makes i l in
      let size : get_or table.sizes (class_at i) 0 ≡ length class.members =
      ap (λ sizes. get_or sizes (class_at i) 0) keeps.sizes ∙ get_or-map (λ class. length class.members) all.classes (class_at i) (class_by alike pool 0) 0 inside in
      ap (λ size. count lottery i * size) size
      ∙ even_chances all (parts_of table) lottery (classes_part pool alike makes) (pool_can_give pool alike) parts lottery_is (class_at i) i class
      (slice_get-get_or all.classes (class_at i) (class_by alike pool 0) inside) (number_has pool alike makes i (class_by alike pool 0) l)
      ∙ expected_count (class_at i)

  some_size : (i : ℕ) → i < length pool.volunteers → 0 < get_or table.sizes (class_at i) 0
  some_size i l = keeps.in_order.sizes (class_at i) 0 (omega (arith, size_count pool alike makes limits table keeps, number_below pool alike makes i l))

  -- a volunteer's count, times the scale of the levels, is the total times the sum of the levels of the volunteer's class
  pub counts_are : (levels : HasLevels table) (i : ℕ) → i < length pool.volunteers → count lottery i * levels.scale ≡ lottery.total * class_levels table levels.level (class_at i)
  counts_are levels i l =
      let told = levels.counts_over lottery.total (class_at i) divides (omega (arith, size_count pool alike makes limits table keeps, number_below pool alike makes i l)) in
      scaled (count lottery i) (count_over table lottery.total (class_at i)) levels.scale lottery.total (get_or table.sizes (class_at i) 0) (class_levels table levels.level (class_at i)) (counted i l) told (some_size i l)
    where
      scaled : (n m scale sum size level : ℕ) → n * size ≡ m → scale * m ≡ sum * (size * level) → 0 < size → n * scale ≡ sum * level
      scaled n m scale sum size level e f some =
          let a : size * (n * scale) ≡ size * (sum * level) = turned n scale size ∙ ap (λ m. scale * m) e ∙ f ∙ turned_too sum size level in
          sym (mul-div_cancel_left (n * scale) some) ∙ ap (λ m. m / size) a ∙ mul-div_cancel_left (sum * level) some
        where
          turned : (n scale size : ℕ) → size * (n * scale) ≡ scale * (n * size)
          turned n scale size = omega arith

          turned_too : (sum size level : ℕ) → sum * (size * level) ≡ size * (sum * level)
          turned_too sum size level = omega arith

-- ---- the levels of the later stages

abbrev pub closed_at : Classes → Table → (ℕ → ℕ) → ℕ → Closed
closed_at all table level k = record { stage = stage_at all table k; level = level k }

module _ (pool : Pool) (alike : ℕ → ℕ → Bool) (makes : MakesClasses pool alike) (limits : RunLimits) (table : Table) (keeps : KeepsRun (classes_by alike pool) limits table) (stages : KeepsStages table) (shut : table.in_stage ≡ false) (level : ℕ → ℕ) where
  levels_from : (more k i : ℕ) → k + more ≡ length table.closed → i < length pool.volunteers →
      levels_to_come (earlier (classes_by alike pool) table k) (map (closed_at (classes_by alike pool) table level) (range_with_len k more)) i ≡ total (λ k. cond (was_unsettled table k (class_number (classes_by alike pool).classes i)) (level k) 0) (range_with_len k more)
  levels_from zero k i e l = refl
  levels_from (suc more) k i e l =
      let next : k + 1 ≡ suc k = omega arith in
      let rest : levels_to_come (earlier (classes_by alike pool) table (suc k)) (map (closed_at (classes_by alike pool) table level) (range_with_len (k + 1) more)) i ≡ total (λ k. cond (was_unsettled table k (class_number (classes_by alike pool).classes i)) (level k) 0) (range_with_len (k + 1) more) =
      ap (λ n. levels_to_come (earlier (classes_by alike pool) table n) (map (closed_at (classes_by alike pool) table level) (range_with_len (k + 1) more)) i) (sym next) ∙ levels_from more (k + 1) i (omega arith) l in
      ap₂ (λ a b. a + b) (ap (λ b. cond b 0 (level k)) (marked pool alike makes limits table keeps stages shut k i (omega arith) l) ∙ either (was_unsettled table k (class_number (classes_by alike pool).classes i))) rest
    where
      either : (b : Bool) → cond (not b) 0 (level k) ≡ cond b (level k) 0
      either true = refl
      either false = refl

  pub levels_are : (i : ℕ) → i < length pool.volunteers →
      levels_to_come [] (map (closed_at (classes_by alike pool) table level) (range_with_len 0 (length table.closed))) i ≡ class_levels table level (class_number (classes_by alike pool).classes i)
  levels_are i l =
      levels_from (length table.closed) 0 i (omega arith) l
      ∙ sym (sum_by-is-total (λ k. cond (was_unsettled table k (class_number (classes_by alike pool).classes i)) (level k) 0) (range_with_len 0 (length table.closed)))
