-- The rows of stages over the classes of a check: each has an entry for each class, and the reach of its stage.
use Rattle.std.proofs.Common.{◌≡◌, ℕ, suc, ◌+◌, ◌-◌, ◌*◌, ◌^◌, ◌<◌, Bool, true, eqb, leb, List, [], ◌∷◌, map, length, get_or, pos, refl, sym, ap, ap₂, ◌∙◌, subst, arith}
use Rattle.std.specs.Prelude.{unsigned_abs}
use Rattle.std.specs.List.{list_all, range_with_len}
use Rattle.std.proofs.lemmas.Bool.{and_parts, eqb-true, leb-true}
use Rattle.std.proofs.lemmas.List.{length-map}
use Rattle.define_pools.proofs.Each.{each_both, each_everywhere, each_from_list_all, each_map, each_mapped, each_range}
use Rattle.define_pools.proofs.Sums.{length-filter-total, sum_by-is-total, total}
use Rattle.define_bundles.specs.Ranges as ranges
use Rattle.define_bundles.specs.Ranges.{is_stage}
use Rattle.define_pools.specs.Certificate.{Stage, weight_of}
use Rattle.define_pools.specs.Pool.{Pool, everybody}
use Rattle.define_rows.specs.Row.{Row, reach, sum_of_sizes}
use Rattle.define_searches.specs.Classes.{MakesClasses, class_by, classes_by, leaders}
use Rattle.define_searches.specs.Fronts.{HaveEntries, HaveReach, sizes_of}
use Rattle.define_searches.specs.Stages.{row_of}
use Rattle.define_searches.proofs.ByClass.{by_class, taken}
use Rattle.define_checks.specs.Caps.{alike_at, classes_at, stage_row}
use Rattle.define_checks.proofs.CheckClasses.{alike_at_makes, alike_at_weigh}

pub rows_have_entries : (pool : Pool) (stages rows : List Stage) → HaveEntries (classes_at pool stages) (map (stage_row pool stages) rows)
rows_have_entries pool stages rows =
    let firsts = leaders (alike_at pool stages) (length pool.volunteers) in
    each_mapped (λ (row : Row). length row.a ≡ length (classes_at pool stages).classes) (stage_row pool stages) rows
    (each_everywhere (λ stage. length (stage_row pool stages stage).a ≡ length (classes_at pool stages).classes)
    (λ stage. length-map firsts (weight_of stage) ∙ sym (length-map firsts (class_by (alike_at pool stages) pool))) rows)

-- ---- reach

-- If `f` has at each place the value of `g` there, the sum of `f` over the places equals the sum of `g` over the list.
total_places : {X : Type 0} (g : X → ℕ) (d : X) (f : ℕ → ℕ) (first : ℕ) (xs : List X) → ((i : ℕ) → i < length xs → f (first + i) ≡ g (get_or xs i d)) → total f (range_with_len first (length xs)) ≡ total g xs
total_places g d f first [] e = refl
total_places g d f first (x ∷ xs) e =
    let here : first + 0 ≡ first = omega arith in
    let at : f first ≡ g x = subst (λ k. f k ≡ g x) here (e 0 (omega arith)) in
    let rest = total_places g d f (first + 1) xs (λ i l. let next : first + suc i ≡ first + 1 + i = omega arith in subst (λ k. f k ≡ g (get_or xs i d)) next (e (suc i) (omega arith))) in
    ap₂ (λ a b. a + b) at rest

module _ (pool : Pool) (alike : ℕ → ℕ → Bool) (makes : MakesClasses pool alike) (stage : Stage) (one_each : length stage.weights ≡ length pool.volunteers)
    (respects : (i j : ℕ) → i < length pool.volunteers → j < length pool.volunteers → alike i j ≡ true → weight_of stage i ≡ weight_of stage j) where
  abbrev n : ℕ
  n = length pool.volunteers

  -- the absolute value of a weight
  abbrev size_of : ℕ → ℕ
  size_of i = unsigned_abs (weight_of stage i)

  by_leaders : (xs : List ℕ) → sum_of_sizes (map (λ class. length class.members) (map (class_by alike pool) xs)) (map (weight_of stage) xs) ≡ total (λ l. taken alike l (everybody pool) * size_of l) xs
  by_leaders [] = refl
  by_leaders (l ∷ xs) = ap₂ (λ many rest. many * size_of l + rest) (length-filter-total (alike l) (everybody pool)) (by_leaders xs)

  by_places : total size_of (everybody pool) ≡ total unsigned_abs stage.weights
  by_places =
      ap (λ many. total size_of (range_with_len 0 many)) (sym one_each)
      ∙ total_places unsigned_abs (pos 0) size_of 0 stage.weights (λ i l. let here : 0 + i ≡ i = omega arith in ap size_of here)

  pub reach_same : reach (sizes_of (classes_by alike pool)) (row_of alike pool stage) ≡ ranges.reach stage
  reach_same =
      ap (λ sum. unsigned_abs stage.cap + sum)
      (by_leaders (leaders alike n)
      ∙ sym (by_class alike makes.same n size_of (λ i j a b e. ap unsigned_abs (respects i j a b e)) (everybody pool) (each_range (λ i. i < n) 0 n (λ k l m. omega arith)))
      ∙ by_places
      ∙ sym (sum_by-is-total unsigned_abs stage.weights))

pub rows_have_reach : (pool : Pool) (stages : List Stage) → list_all (is_stage (length pool.volunteers)) stages ≡ true → HaveReach (classes_at pool stages) (map (stage_row pool stages) stages)
rows_have_reach pool stages in_ranges =
    let n = length pool.volunteers in
    let alike = alike_at pool stages in
    each_mapped (λ row. reach (sizes_of (classes_at pool stages)) row < 2 ^ 127) (stage_row pool stages) stages
    (each_map (λ stage. (is_stage n stage ≡ true) × ((i j : ℕ) → i < n → j < n → alike i j ≡ true → weight_of stage i ≡ weight_of stage j))
    (λ stage. reach (sizes_of (classes_at pool stages)) (stage_row pool stages stage) < 2 ^ 127)
    (λ stage known.
    let parts = and_parts (eqb (length stage.weights) n) (leb (ranges.reach stage) (2 ^ 127 - 1)) known.0 in
    let same = reach_same pool alike (alike_at_makes pool stages) stage (eqb-true (length stage.weights) n parts.0) known.1 in
    let within = leb-true (ranges.reach stage) (2 ^ 127 - 1) parts.1 in omega arith) stages
    (each_both (λ stage. is_stage n stage ≡ true) (λ stage. (i j : ℕ) → i < n → j < n → alike i j ≡ true → weight_of stage i ≡ weight_of stage j) stages
    (each_from_list_all (is_stage n) stages in_ranges) (alike_at_weigh pool stages)))
