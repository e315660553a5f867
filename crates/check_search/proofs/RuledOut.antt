-- Counts that an upper or a lower bound rules out.
use Rattle.std.proofs.Common.{◌≡◌, ℕ, ◌+◌, ◌-◌, ◌≤◌, ◌<◌, true, false, ◌&&◌, leb, ltb, List, [], length, get_or, max, min, Some, refl, sym, ap, ◌∙◌, arith}
use Rattle.std.specs.Prelude.{slice_get, slice_index, slice_index_or}
use Rattle.std.proofs.lemmas.Bool.{and_parts, false_from_ne_true, leb-true, lt-leb, ltb-false, ltb-true}
use Rattle.std.proofs.lemmas.Option.{get_or_from_slice_get, slice_get-get_or}
use Rattle.define_searches.specs.declared.Bounds.{Bounds}
use Rattle.define_searches.specs.Tallies.{HasBound, HaveBounds, cell, reaches}
use Rattle.check_search.specs.Tallies.{OneFails}

-- the bound that the code reads is that of the value that `values` has in category `c`
pub bound_here : (bounds : List (List Bounds)) (values : List ℕ) (c : ℕ) (index slice : List Bounds) (d : Bounds) → HaveBounds bounds values → c < length values → index ≡ get_or bounds c index → slice ≡ index →
    HasBound bounds c (slice_index values c) (get_or slice (slice_index values c) d)
bound_here bounds values c index slice d have below is slice_is =
    let v = slice_index values c in
    let here : slice_get bounds c ≡ Some index = slice_get-get_or bounds c index (omega (arith, have.one_each)) ∙ ap Some (sym is) in
    let whole : slice_index_or bounds c [] ≡ slice = get_or_from_slice_get bounds c index [] here ∙ sym slice_is in
    let within : v < length slice = omega (arith, have.within c below, ap length whole) in
    ap (λ xs. slice_get xs v) whole ∙ slice_get-get_or slice v d within

module _ (bounds : List (List Bounds)) (held values : List ℕ) (c : ℕ) (bound : Bounds) (below : c < length values) (has : HasBound bounds c (slice_index values c) bound) where
  -- One more category: if counts above `room` fail a bound, counts above `next` do. `next` is `room`, or what the upper bound leaves if
  -- that is less.
  pub room_next : (most room left next : ℕ) → (room ≤ most) × ((count : ℕ) (later : List ℕ) → room < count → count ≤ most → OneFails bounds held later values count) →
      left ≡ bound.upper - slice_index held (cell c (slice_index values c)) → next ≡ min room left →
      (next ≤ most) × ((count : ℕ) (later : List ℕ) → next < count → count ≤ most → OneFails bounds held later values count)
  room_next most room left next so_far left_is next_is = (
    omega (arith, so_far.0),
    λ count later l u. (elim (ltb room count) as (λ b. ltb room count ≡ b → OneFails bounds held later values count) [
      | true ↦ λ t. so_far.1 count later (ltb-true room count t) u
      | false ↦ λ f. let few = ltb-false room count f in (c, bound, below, has, passed count later (omega arith))
    ]) refl,
  )
    where
      passed : (count : ℕ) (later : List ℕ) → left < count → reaches bound held later count c (slice_index values c) ≡ false
      passed count later l =
          let v = slice_index values c in
          ap (λ b. b && leb bound.lower (slice_index held (cell c v) + count + slice_index later (cell c v))) (lt-leb (slice_index held (cell c v) + count) bound.upper (omega arith))

  -- One more category: if counts below `needed` fail a bound, counts below `next` do. `next` is `needed`, or what the lower bound lacks if
  -- that is more.
  pub needed_next : (later : List ℕ) (least needed lack next : ℕ) → (least ≤ needed) × ((count : ℕ) → count < needed → least ≤ count → OneFails bounds held later values count) →
      lack ≡ bound.lower - (slice_index held (cell c (slice_index values c)) + slice_index later (cell c (slice_index values c))) → next ≡ max needed lack →
      (least ≤ next) × ((count : ℕ) → count < next → least ≤ count → OneFails bounds held later values count)
  needed_next later least needed lack next so_far lack_is next_is = (
    omega (arith, so_far.0),
    λ count l u. (elim (ltb count needed) as (λ b. ltb count needed ≡ b → OneFails bounds held later values count) [
      | true ↦ λ t. so_far.1 count (ltb-true count needed t) u
      | false ↦ λ f. let many = ltb-false count needed f in (c, bound, below, has, lacking count (omega arith))
    ]) refl,
  )
    where
      lacking : (count : ℕ) → count < lack → reaches bound held later count c (slice_index values c) ≡ false
      lacking count l =
          let v = slice_index values c in
          false_from_ne_true (reaches bound held later count c v)
          (λ yes.
          let parts = and_parts (leb (slice_index held (cell c v) + count) bound.upper) (leb bound.lower (slice_index held (cell c v) + count + slice_index later (cell c v))) yes in
          let le = leb-true bound.lower (slice_index held (cell c v) + count + slice_index later (cell c v)) parts.1 in
          absurd (omega arith))
