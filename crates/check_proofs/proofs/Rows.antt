-- Constraints that are added one after another.
use Rattle.std.proofs.Common.{◌≡◌, ℕ, ◌+◌, ◌<◌, ◌≤◌, cond, List, [], ◌∷◌, ◌++◌, map, filter, length, get_or, take, Option, None, ℤ, pos, sym, ap, ap₂, ◌∙◌, arith}
use Rattle.std.specs.List.{enumerate_from, flat_map, range_with_len}
use Rattle.std.proofs.lemmas.Grind.{flat_map-append}
use Rattle.std.proofs.lemmas.List.{append-nil, append_assoc, map_more, take_all, take_more}
use Rattle.std.proofs.lemmas.List.FromFn.{get_or-map-range_with_len, length-map-range_with_len}
use Rattle.define_pools.proofs.Each.{each_everywhere, each_range}
use Rattle.define_pools.proofs.Lists.{filter_same, get_or-enumerate_from, length-enumerate_from, map-map, map_same}
use Rattle.define_pools.specs.Pool.{Pool, everybody}
use Rattle.define_searches.specs.Classes.{shared_household}
use Rattle.define_searches.specs.Compositions.{is_of_household}
use Rattle.define_proofs.specs.Constraints.{first_members, household_constraint}
use Rattle.check_proofs.specs.Kept.{household_row}
use Rattle.check_proofs.proofs.LeafSteps.{at_item}

-- element `k` of a numbered list is element `k` of the list, with the number `k`
numbered_at : {X : Type 0} (items xs : List X) (k : ℕ) (x : X) → items ≡ xs → k < length items → x ≡ get_or items k x →
    (k < length (enumerate_from 0 xs)) × (get_or (enumerate_from 0 xs) k (k, x) ≡ (k, x))
numbered_at items xs k x e l is =
    let item = at_item items xs k x e l is in
    let many = length-enumerate_from 0 xs in
    let zeroth : 0 + k ≡ k = omega arith in
    (omega (arith, many, item.0), get_or-enumerate_from 0 xs k (k, x) x item.0 ∙ ap₂ (λ i one. (i, one)) zeroth (sym item.1))

numbered_all : {X : Type 0} (items xs : List X) (k : ℕ) → items ≡ xs → length items ≤ k → take k (enumerate_from 0 xs) ≡ enumerate_from 0 xs
numbered_all items xs k e h =
    let many = length-enumerate_from 0 xs in
    let same = ap (λ ys. length ys) e in take_all k (enumerate_from 0 xs) (omega (arith, many, same))

module _ {X Y : Type 0} (before : List Y) (items xs : List X) (e : items ≡ xs) (k : ℕ) where
  -- the next element adds one row
  pub one_more : (f : ℕ × X → Y) (rows new : List Y) (x : X) (y : Y) → k < length items → x ≡ get_or items k x → rows ≡ before ++ map f (take k (enumerate_from 0 xs)) →
      new ≡ rows ++ y ∷ [] → y ≡ f (k, x) → new ≡ before ++ map f (take (k + 1) (enumerate_from 0 xs))
  one_more f rows new x y l is so_far added made =
      let at = numbered_at items xs k x e l is in
      let done = map f (take k (enumerate_from 0 xs)) in
      added ∙ ap₂ (λ those one. those ++ one ∷ []) so_far made
      ∙ append_assoc before done (f (k, x) ∷ [])
      ∙ ap (λ those. before ++ those) (ap (λ pair. done ++ f pair ∷ []) (sym at.1) ∙ sym (map_more f (enumerate_from 0 xs) k (k, x) at.0))

  pub one_by_one : (f : ℕ × X → Y) (rows : List Y) → length items ≤ k → rows ≡ before ++ map f (take k (enumerate_from 0 xs)) → rows ≡ before ++ map f (enumerate_from 0 xs)
  one_by_one f rows h so_far = so_far ∙ ap (λ those. before ++ map f those) (numbered_all items xs k e h)

  -- the next element adds its list of rows
  pub several_more : (f : ℕ × X → List Y) (rows new : List Y) (x : X) → k < length items → x ≡ get_or items k x → rows ≡ before ++ flat_map f (take k (enumerate_from 0 xs)) →
      new ≡ rows ++ f (k, x) → new ≡ before ++ flat_map f (take (k + 1) (enumerate_from 0 xs))
  several_more f rows new x l is so_far added =
      let at = numbered_at items xs k x e l is in
      let first = take k (enumerate_from 0 xs) in
      let next : take (k + 1) (enumerate_from 0 xs) ≡ first ++ (k, x) ∷ [] = take_more (enumerate_from 0 xs) k (k, x) at.0 ∙ ap (λ pair. first ++ pair ∷ []) at.1 in
      added ∙ ap (λ those. those ++ f (k, x)) so_far
      ∙ append_assoc before (flat_map f first) (f (k, x))
      ∙ ap (λ those. before ++ those)
      (ap (λ those. flat_map f first ++ those) (sym (append-nil (f (k, x)))) ∙ sym (ap (flat_map f) next ∙ flat_map-append f first ((k, x) ∷ [])))

  pub all_several : (f : ℕ × X → List Y) (rows : List Y) → length items ≤ k → rows ≡ before ++ flat_map f (take k (enumerate_from 0 xs)) → rows ≡ before ++ flat_map f (enumerate_from 0 xs)
  all_several f rows h so_far = so_far ∙ ap (λ those. before ++ flat_map f those) (numbered_all items xs k e h)

-- ---- households

module _ (pool : Pool) (households : List (Option ℕ)) (are : households ≡ map (shared_household pool.volunteers) (everybody pool)) where
  row_is : (number : ℕ) → household_row households number ≡ household_constraint pool number
  row_is number =
      let one : Option ℕ → ℤ = λ household. cond (is_of_household number household) (pos 1) (pos 0) in
      ap (λ (cs : List ℤ). record { coefficients = cs; lower = pos 0; upper = pos 1 }) (ap (map one) are ∙ map-map one (shared_household pool.volunteers) (everybody pool))

  pub rows_are : (numbers : List ℕ) → numbers ≡ filter (λ i. is_of_household i (get_or households i None)) (range_with_len 0 (length households)) →
      map (household_row households) numbers ≡ map (household_constraint pool) (first_members pool)
  rows_are numbers e =
      let count = length pool.volunteers in
      let many : length households ≡ count = ap (λ (hs : List (Option ℕ)). length hs) are ∙ length-map-range_with_len (shared_household pool.volunteers) 0 count in
      let each = each_range (λ i. is_of_household i (get_or households i None) ≡ is_of_household i (shared_household pool.volunteers i)) 0 count
      (λ i low high. ap (is_of_household i) (ap (λ (hs : List (Option ℕ)). get_or hs i None) are ∙ get_or-map-range_with_len (shared_household pool.volunteers) 0 count i i None (omega arith) (omega arith))) in
      ap (map (household_row households)) (e ∙ ap (λ n. filter (λ i. is_of_household i (get_or households i None)) (range_with_len 0 n)) many
      ∙ filter_same (λ i. is_of_household i (get_or households i None)) (λ i. is_of_household i (shared_household pool.volunteers i)) (everybody pool) each)
      ∙ map_same (household_row households) (household_constraint pool) (first_members pool) (each_everywhere (λ number. household_row households number ≡ household_constraint pool number) row_is (first_members pool))
