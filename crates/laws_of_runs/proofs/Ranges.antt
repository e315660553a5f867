-- The numbers of the answer that a run finds are in the ranges that they have in the text of a bundle.
use Rattle.std.proofs.Common.{◌≡◌, ℕ, zero, suc, ◌+◌, ◌*◌, ◌-◌, ◌^◌, ◌<◌, ◌≤◌, Bool, true, ◌&&◌, eqb, leb, ltb, List, [], ◌∷◌, map, length, sum_by, ℤ, pos, refl, sym, ap, ap₂, ◌∙◌, subst, arith}
use Rattle.std.specs.Prelude.{unsigned_abs}
use Rattle.std.specs.List.{AllByRecursion, list_all, range_with_len}
use Rattle.std.proofs.lemmas.Bool.{and_from, eq-eqb, false≢true, le-leb, leb-true, lt-ltb, and_parts}
use Rattle.std.proofs.Math.Pow.{pow_mono}
use Rattle.define_pools.proofs.Sums.{length-filter-total, sum_by-is-total, total, total_ext}
use Rattle.define_pools.proofs.Lists.{map-map}
use Rattle.define_pools.proofs.Each.{each_both, each_from_list_all, each_map, each_mapped, each_range, list_all_from_each}
use Rattle.define_bundles.specs.Ranges.{IsInRanges, is_group, is_row, is_stage, is_weight, reach}
use Rattle.define_pools.specs.Certificate.{Answer, Stage, StagesHold, is_settled, weight_of}
use Rattle.define_pools.specs.Lists.{is_increasing}
use Rattle.define_pools.specs.Lottery.{IsLottery, Lottery, LotteryRow}
use Rattle.define_pools.specs.Pool.{IsPool, Pool, is_quota_panel}
use Rattle.define_pools.proofs.AllPanels.{quota_parts}
use Rattle.define_rows.specs.Row as rows
use Rattle.define_rows.specs.Row.{sum_of_sizes}
use Rattle.define_rows.specs.Table.{Table}
use Rattle.define_rows.specs.Width.{width_limit}
use Rattle.define_searches.specs.Classes.{Class, Classes, MakesClasses, class_by, class_of, classes_by, leaders}
use Rattle.define_searches.proofs.ByClass.{by_class, taken}
use Rattle.define_searches.proofs.ClassNumbers.{class_count, leader_below}
use Rattle.define_searches.specs.Fronts.{sizes_of}
use Rattle.define_runs.specs.Spreading.{greatest_total}
use Rattle.define_runs.specs.Keeps.{AreRunLimits, KeepsRun}
use Rattle.define_runs.specs.Run.{Ends, Found, RunLimits, closed_rows, stage_of}
use Rattle.laws_of_runs.proofs.Certified.{found_certified}
use Rattle.laws_of_runs.proofs.ClosedStages.{closed_row, closed_rows_are, entry_each, size_count}
use Rattle.laws_of_runs.proofs.FoundEnds.{found, keeps, lottery, within}
use Rattle.laws_of_runs.proofs.StageRows.{entries_back, from_places, one_weight_each, weighs_alike}

-- ---- the lottery's rows

-- if the weights sum to at most `sum`, each weight is at most `sum`
each_within : (rows : List LotteryRow) (sum : ℕ) → total (λ row. row.weight) rows ≤ sum → AllByRecursion (λ row. row.weight ≤ sum) rows
each_within [] sum low = tt
each_within (row ∷ rows) sum low = (omega arith, each_within rows sum (omega arith))

weight_ranges : (weight : ℕ) → 1 ≤ weight → weight ≤ greatest_total → is_weight weight ≡ true
weight_ranges weight some low = and_from (leb 1 weight) (leb weight (10 ^ 38)) (le-leb 1 weight some) (le-leb weight (10 ^ 38) low)

quota_group : (pool : Pool) (panel : List ℕ) → IsPool pool → is_quota_panel pool panel ≡ true → is_group (length pool.volunteers) panel ≡ true
quota_group pool panel is_pool quota =
    let parts = quota_parts pool panel quota in
    let some : 1 ≤ pool.size = leb-true 1 pool.size (and_parts (leb 1 pool.size) (leb pool.size 1000) is_pool.size).0 in
    and_from (ltb 0 (length panel) && is_increasing panel) (list_all (λ i. ltb i (length pool.volunteers)) panel)
    (and_from (ltb 0 (length panel)) (is_increasing panel) (lt-ltb 0 (length panel) (omega (arith, parts.size))) parts.up) parts.below

rows_in_ranges : (pool : Pool) (lottery : Lottery) → IsPool pool → IsLottery pool lottery → lottery.total ≤ greatest_total → list_all (is_row (length pool.volunteers)) lottery.rows ≡ true
rows_in_ranges pool lottery is_pool is low =
    list_all_from_each (is_row (length pool.volunteers)) lottery.rows
    (each_map (λ row. ((row.weight ≤ lottery.total) × (leb 1 row.weight ≡ true)) × (is_quota_panel pool row.panel ≡ true)) (λ row. is_row (length pool.volunteers) row ≡ true)
    (λ row h. and_from (is_weight row.weight) (is_group (length pool.volunteers) row.panel) (weighs row.weight h.0.0 h.0.1) (quota_group pool row.panel is_pool h.1)) lottery.rows
    (each_both (λ row. (row.weight ≤ lottery.total) × (leb 1 row.weight ≡ true)) (λ row. is_quota_panel pool row.panel ≡ true) lottery.rows
    (each_both (λ row. row.weight ≤ lottery.total) (λ row. leb 1 row.weight ≡ true) lottery.rows
    (each_within lottery.rows lottery.total (omega (arith, is.total_agrees.total, sum_by-is-total (λ (row : LotteryRow). row.weight) lottery.rows)))
    (each_from_list_all (λ row. leb 1 row.weight) lottery.rows is.total_agrees.weights))
    (each_from_list_all (λ row. is_quota_panel pool row.panel) lottery.rows is.panels)))
  where
    weighs : (weight : ℕ) → weight ≤ lottery.total → leb 1 weight ≡ true → is_weight weight ≡ true
    weighs weight high some = weight_ranges weight (leb-true 1 weight some) (omega arith)

some_total : (pool : Pool) (lottery : Lottery) → IsLottery pool lottery → 1 ≤ lottery.total
some_total pool lottery is = by lottery.rows is.some is.total_agrees.weights (is.total_agrees.total ∙ sum_by-is-total (λ (row : LotteryRow). row.weight) lottery.rows)
  where
    by : (rows : List LotteryRow) → ltb 0 (length rows) ≡ true → list_all (λ row. leb 1 row.weight) rows ≡ true → lottery.total ≡ total (λ row. row.weight) rows → 1 ≤ lottery.total
    by [] some weights sum = absurd (false≢true some)
    by (row ∷ rows) some weights sum = let one = leb-true 1 row.weight (and_parts (leb 1 row.weight) (list_all (λ row. leb 1 row.weight) rows) weights).0 in omega arith

-- ---- the stages

-- if there is a volunteer and the stages hold, there is at least one stage
some_stage_holds : (pool : Pool) (lottery : Lottery) (stages : List Stage) → 0 < length pool.volunteers → StagesHold pool lottery [] stages → ltb 0 (length stages) ≡ true
some_stage_holds pool lottery (stage ∷ stages) some hold = lt-ltb 0 (length (stage ∷ stages)) (omega arith)
some_stage_holds pool lottery [] some hold = absurd (by (length pool.volunteers) some hold)
  where
    by : (n : ℕ) → 0 < n → list_all (is_settled []) (range_with_len 0 n) ≡ true → ⊥
    by zero l h = omega arith
    by (suc n) l h = false≢true h

-- `sum_of_sizes` of the sizes and weights of leaders `xs` is the sum of size times absolute weight over `xs`
sum_by_leaders : (f : ℕ → ℤ) (size : ℕ → ℕ) (xs : List ℕ) → sum_of_sizes (map size xs) (map f xs) ≡ total (λ l. size l * unsigned_abs (f l)) xs
sum_by_leaders f size [] = refl
sum_by_leaders f size (l ∷ xs) = ap (λ n. size l * unsigned_abs (f l) + n) (sum_by_leaders f size xs)

module _ (pool : Pool) (alike : ℕ → ℕ → Bool) (makes : MakesClasses pool alike) where
  abbrev all : Classes
  all = classes_by alike pool

  abbrev count : ℕ
  count = length pool.volunteers

  abbrev firsts : List ℕ
  firsts = leaders alike count

  abbrev size_of : ℕ → ℕ
  size_of l = length (class_of alike count l)

  -- a row's stage lists the weights of all volunteers, in the order of their numbers
  weights_by_place : (row : rows.Row) → (stage_of all row).weights ≡ map (weight_of (stage_of all row)) (range_with_len 0 count)
  weights_by_place row =
      let stage = stage_of all row in
      sym (from_places (weight_of stage) 0 stage.weights (pos 0) (λ i l. let here : 0 + i ≡ i = omega arith in ap (weight_of stage) here))
      ∙ ap (λ n. map (weight_of stage) (range_with_len 0 n)) (one_weight_each pool alike makes row)

  total-map : (f : ℕ → ℤ) (xs : List ℕ) → total unsigned_abs (map f xs) ≡ total (λ i. unsigned_abs (f i)) xs
  total-map f [] = refl
  total-map f (x ∷ xs) = ap (λ n. unsigned_abs (f x) + n) (total-map f xs)

  sizes_are : sizes_of all ≡ map size_of firsts
  sizes_are = map-map (λ (class : Class). length class.members) (class_by alike pool) firsts

  reach_is : (row : rows.Row) → length row.a ≡ length all.classes → reach (stage_of all row) ≡ rows.reach (sizes_of all) row
  reach_is row e =
      let weigh : ℕ → ℤ = weight_of (stage_of all row) in
      ap (λ n. unsigned_abs row.b + n)
      (sum_by-is-total unsigned_abs (stage_of all row).weights
      ∙ ap (total unsigned_abs) (weights_by_place row)
      ∙ total-map weigh (range_with_len 0 count)
      ∙ by_class alike makes.same count (λ i. unsigned_abs (weigh i)) (λ i j a b t. ap unsigned_abs (weighs_alike pool alike makes row i j a b t)) (range_with_len 0 count)
      (each_range (λ i. i < count) 0 count (λ i low below. omega arith))
      ∙ total_ext (λ l. taken alike l (range_with_len 0 count) * unsigned_abs (weigh l)) (λ l. size_of l * unsigned_abs (weigh l))
      (λ l. ap (λ n. n * unsigned_abs (weigh l)) (sym (length-filter-total (alike l) (range_with_len 0 count)))) firsts
      ∙ sym (sum_by_leaders weigh size_of firsts)
      ∙ ap₂ sum_of_sizes (sym sizes_are) (entries_back pool alike makes row e))

  module _ (limits : RunLimits) (table : Table) (kept : KeepsRun all limits table) where
    stage_in_ranges : (k : ℕ) → k < length table.closed → is_stage count (stage_of all (closed_row table k)) ≡ true
    stage_in_ranges k l =
        let row = closed_row table k in
        let entries = entry_each pool alike makes limits table kept k l in
        let narrow : rows.reach table.sizes row ≤ width_limit table.bits = kept.in_order.within_width _ _ (kept.in_order.closed_known k 0 l) in
        let here = reach_is row entries ∙ ap (λ sizes. rows.reach sizes row) (sym kept.sizes) in
        let wide = pow_mono kept.in_order.few_bits in
        and_from (eqb (length (stage_of all row).weights) count) (leb (reach (stage_of all row)) (2 ^ 127 - 1))
        (eq-eqb (length (stage_of all row).weights) count (one_weight_each pool alike makes row))
        (le-leb (reach (stage_of all row)) (2 ^ 127 - 1) (omega (arith, narrow, here, wide)))

    stages_in_ranges : list_all (is_stage count) (map (stage_of all) (closed_rows table)) ≡ true
    stages_in_ranges =
        list_all_from_each (is_stage count) (map (stage_of all) (closed_rows table))
        (each_mapped (λ stage. is_stage count stage ≡ true) (stage_of all) (closed_rows table)
        (subst (AllByRecursion (λ row. is_stage count (stage_of all row) ≡ true)) (closed_rows_are table)
        (each_mapped (λ row. is_stage count (stage_of all row) ≡ true) (closed_row table) (range_with_len 0 (length table.closed))
        (each_range (λ k. is_stage count (stage_of all (closed_row table k)) ≡ true) 0 (length table.closed) (λ k low l. stage_in_ranges k (omega arith))))))

-- ---- what a run finds

module _ (pool : Pool) (alike : ℕ → ℕ → Bool) (makes : MakesClasses pool alike) (limits : RunLimits) (last : Table) (answer : Answer) (is_pool : IsPool pool) (ranges : AreRunLimits limits)
    (ends : Ends (classes_by alike pool) limits (Found last answer)) where
  kept : KeepsRun (classes_by alike pool) limits last
  kept = keeps pool alike makes limits last answer is_pool ranges ends

  is : IsLottery pool answer.lottery
  is = lottery pool alike makes limits last answer is_pool ranges ends

  -- there is a volunteer, since there is a class and each class has a leader
  some_volunteer : 0 < length pool.volunteers
  some_volunteer =
      let some : 0 < length (leaders alike (length pool.volunteers)) = omega (arith, kept.in_order.some_class, size_count pool alike makes limits last kept, class_count pool alike makes) in
      omega (arith, leader_below pool alike makes 0 some)

  pub found_in_ranges : IsInRanges pool answer
  found_in_ranges = record {
    total = weight_ranges answer.lottery.total (some_total pool answer.lottery is) (within pool alike makes limits last answer is_pool ranges ends);
    some_row = is.some;
    rows = rows_in_ranges pool answer.lottery is_pool is (within pool alike makes limits last answer is_pool ranges ends);
    some_stage = some_stage_holds pool answer.lottery answer.stages some_volunteer (found_certified pool alike makes limits last answer is_pool ranges ends).stages_hold;
    stages = subst (λ stages. list_all (is_stage (length pool.volunteers)) stages ≡ true) (found pool alike makes limits last answer is_pool ranges ends).stages_are
        (stages_in_ranges pool alike makes limits last kept);
  }
