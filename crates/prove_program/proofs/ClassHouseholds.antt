-- The household of a volunteer is that of the volunteer's class.
use Rattle.std.proofs.Common.{◌≡◌, ℕ, ◌<◌, Bool, true, false, not, ◌&&◌, ◌||◌, eqb, List, map, length, get_or, Option, None, Some, refl, sym, ap, ◌∙◌, arith}
use Rattle.std.specs.Prelude.{slice_get, is_some}
use Rattle.std.proofs.lemmas.Bool.{and_parts, eqb-true, false≢true}
use Rattle.std.proofs.lemmas.Option.{slice_get-get_or}
use Rattle.define_pools.proofs.Each.{each_range}
use Rattle.define_pools.proofs.Lists.{map-map, map_same}
use Rattle.define_pools.specs.Pool.{Pool, everybody, volunteer}
use Rattle.define_searches.specs.Classes.{Class, are_alike, are_equal, class_by, class_number, classes_of, leaders, shared_household, shares_household}
use Rattle.define_searches.proofs.AlikeClasses.{alike_makes}
use Rattle.define_searches.proofs.ClassNumbers.{class_is, class_count, leader_alike, number_below}
use Rattle.prove_program.specs.Demands.{household_of, shared_households}

none_shared : (household : Option ℕ) → not (is_some household) ≡ true → household ≡ None
none_shared None t = refl
none_shared (Some number) t = absurd (false≢true t)

module _ (pool : Pool) where
  abbrev alike : ℕ → ℕ → Bool
  alike = are_alike pool

  abbrev shared : ℕ → Option ℕ
  shared = shared_household pool.volunteers

  abbrev equal : ℕ → ℕ → Bool
  equal i j = are_equal (volunteer pool.volunteers i) (volunteer pool.volunteers j)

  -- alike volunteers share one household, or none of them shares any
  alike_shares : (i j : ℕ) → alike i j ≡ true → shared i ≡ shared j
  alike_shares i j t = by (eqb i j) refl t
    where
      by : (b : Bool) → eqb i j ≡ b → (b || (equal i j && not (shares_household pool i) && not (shares_household pool j))) ≡ true → shared i ≡ shared j
      by true e t = ap shared (eqb-true i j e)
      by false e t =
          let last = and_parts (equal i j && not (shares_household pool i)) (not (shares_household pool j)) t in
          let first = and_parts (equal i j) (not (shares_household pool i)) last.0 in
          none_shared (shared i) first.1 ∙ sym (none_shared (shared j) last.1)

  abbrev firsts : List ℕ
  firsts = leaders alike (length pool.volunteers)

  household_is : (i : ℕ) → i < length pool.volunteers → household_of (slice_get (classes_of pool).classes (class_number (classes_of pool).classes i)) ≡ shared i
  household_is i l =
      let makes = alike_makes pool in let d : Class = class_by alike pool 0 in
      let k : ℕ = class_number (classes_of pool).classes i in
      let below = number_below pool alike makes i l in let count = class_count pool alike makes in
      let inside : k < length firsts = omega (arith, below, count) in
      ap household_of (slice_get-get_or (classes_of pool).classes k d below ∙ ap (λ (class : Class). Some class) (class_is pool alike makes k d inside))
      ∙ alike_shares (get_or firsts k 0) i (leader_alike pool alike makes i 0 l)

  pub households_are : map (λ number. household_of (slice_get (classes_of pool).classes number)) (map (class_number (classes_of pool).classes) (everybody pool)) ≡ shared_households pool
  households_are =
      map-map (λ number. household_of (slice_get (classes_of pool).classes number)) (class_number (classes_of pool).classes) (everybody pool)
      ∙ map_same (λ i. household_of (slice_get (classes_of pool).classes (class_number (classes_of pool).classes i))) shared (everybody pool)
      (each_range (λ i. household_of (slice_get (classes_of pool).classes (class_number (classes_of pool).classes i)) ≡ shared i) 0 (length pool.volunteers) (λ i from below. household_is i (omega arith)))
