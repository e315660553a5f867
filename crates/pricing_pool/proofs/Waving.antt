-- The pricing after the first waves, whose visits only grow from wave to wave.
use Rattle.std.proofs.Common.{◌≡◌, ℕ, zero, suc, ◌+◌, ◌-◌, ◌*◌, ◌≤◌, ◌<◌, List, [], ◌∷◌, drop, fold, map, take, ap, ◌∙◌, subst, arith}
use Rattle.std.specs.List.{range_with_len}
use Rattle.std.proofs.lemmas.List.FromFn.{map-range_with_len_more}
use Rattle.std.proofs.lemmas.List.Sums.{fold-append}
use Rattle.define_rows.specs.Row.{Row}
use Rattle.define_searches.specs.Classes.{Classes}
use Rattle.define_searches.specs.Visits.{Pricing}
use Rattle.define_searches.specs.Below.{search_from}
use Rattle.define_searches.specs.Waves.{wave}
use Rattle.pricing_pool.proofs.Taking.{pieces_add}

module _ (all : Classes) (closed : List Row) (row : Row) (fronts : List (List ℕ)) where
  -- the fronts of wave `number`
  abbrev pub part : ℕ → List (List ℕ)
  part number = take 16 (drop (16 * number) fronts)

  -- the pricing after the first `count` waves
  abbrev pub up_to : Pricing → ℕ → Pricing
  up_to begun count = fold (wave all closed row) begun (map part (range_with_len 0 count))

  pub one_more : (begun : Pricing) (count : ℕ) → up_to begun (count + 1) ≡ wave all closed row (up_to begun count) (part count)
  one_more begun count =
      ap (fold (wave all closed row) begun) (map-range_with_len_more part 0 count count (omega arith))
      ∙ fold-append (wave all closed row) begun (map part (range_with_len 0 count)) (part count ∷ [])

  pub wave_adds : (now : Pricing) (fs : List (List ℕ)) → now.visits ≤ (wave all closed row now fs).visits
  wave_adds now fs = pieces_add row now (map (λ (front : List ℕ). search_from all closed row front now.floor) fs)

  -- the visits only grow with later waves
  pub rises : (begun : Pricing) (count more : ℕ) → (up_to begun count).visits ≤ (up_to begun (count + more)).visits
  rises begun count zero =
      let same : count ≡ count + 0 = omega arith in
      subst (λ n. (up_to begun count).visits ≤ (up_to begun n).visits) same (omega arith)
  rises begun count (suc more) =
      let next : (up_to begun (count + more)).visits ≤ (up_to begun (count + more + 1)).visits = omega (arith, ap (λ now. now.visits) (one_more begun (count + more)), wave_adds (up_to begun (count + more)) (part (count + more))) in
      let same : count + more + 1 ≡ count + suc more = omega arith in
      subst (λ n. (up_to begun count).visits ≤ (up_to begun n).visits) same (omega (arith, rises begun count more, next))

  -- the visits after a wave are at most those after all waves
  pub wave_within : (begun : Pricing) (count total : ℕ) → count < total → (wave all closed row (up_to begun count) (part count)).visits ≤ (up_to begun total).visits
  wave_within begun count total l =
      let same : count + 1 + (total - (count + 1)) ≡ total = omega (arith, l) in
      subst (λ n. (wave all closed row (up_to begun count) (part count)).visits ≤ (up_to begun n).visits) same
      (omega (arith, ap (λ now. now.visits) (one_more begun count), rises begun (count + 1) (total - (count + 1))))
