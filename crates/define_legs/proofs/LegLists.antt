-- Lists of legs: a pivot more in the last, and sums.
use Rattle.std.proofs.Common.{◌≡◌, ℕ, ◌+◌, ◌<◌, ◌≤◌, Bool, true, false, ◌||◌, inl, inr, ◌⊎◌, ap₂, cond, eqb, ltb, List, [], ◌∷◌, ◌++◌, length, refl, ap, ◌∙◌, arith}
use Rattle.std.specs.Prelude.{sum_by}
use Rattle.std.specs.List.{AllByRecursion}
use Rattle.std.proofs.lemmas.Bool.{lt-ltb, le-ltb, eqb-true, ne_eqb}
use Rattle.std.proofs.lemmas.List.Sums.{sum_by-cons, sum_by_push}
use Rattle.define_rows.specs.Table.{Table}
use Rattle.define_legs.specs.declared.Leg.{Leg}
use Rattle.define_legs.specs.Legs.{has_begun, leg_from, longer, with_pivot, legs_after, leg_bases, leg_limit, pivot_limit}

pub with_pivot-last : (legs : List Leg) (leg : Leg) → with_pivot (legs ++ leg ∷ []) ≡ legs ++ longer leg ∷ []
with_pivot-last [] leg = refl
with_pivot-last (x ∷ []) leg = refl
with_pivot-last (x ∷ y ∷ legs) leg = ap (λ more. x ∷ more) (with_pivot-last (y ∷ legs) leg)

-- ---- the legs after a step
either : (a b : Bool) → (a ≡ true) ⊎ (b ≡ true) → (a || b) ≡ true
either true b t = refl
either false b (inl e) = absurd cc
either false b (inr e) = e

module _ (legs : List Leg) (table made : Table) where
  abbrev other : List Leg
  other = cond (has_begun table made) (legs ++ leg_from made ∷ []) legs

  pub after_pivot : table.pivots < made.pivots → legs_after legs table made ≡ with_pivot legs
  after_pivot l = ap (λ b. cond b (with_pivot legs) other) (lt-ltb table.pivots made.pivots l)

  no_pivot : made.pivots ≡ table.pivots → legs_after legs table made ≡ other
  no_pivot e = ap (λ b. cond b (with_pivot legs) other) (le-ltb table.pivots made.pivots (omega (arith, e)))

  pub after_begin : made.pivots ≡ table.pivots → (length table.stages < length made.stages) ⊎ (length table.columns < length made.columns) → legs_after legs table made ≡ legs ++ leg_from made ∷ []
  after_begin e more = no_pivot e ∙ ap (λ b. cond b (legs ++ leg_from made ∷ []) legs) (either (ltb (length table.stages) (length made.stages)) (ltb (length table.columns) (length made.columns)) (tests more))
    where
      tests : (length table.stages < length made.stages) ⊎ (length table.columns < length made.columns) →
          (ltb (length table.stages) (length made.stages) ≡ true) ⊎ (ltb (length table.columns) (length made.columns) ≡ true)
      tests (inl l) = inl (lt-ltb (length table.stages) (length made.stages) l)
      tests (inr l) = inr (lt-ltb (length table.columns) (length made.columns) l)

  pub after_other : made.pivots ≡ table.pivots → made.stages ≡ table.stages → made.columns ≡ table.columns → legs_after legs table made ≡ legs
  after_other e stages columns =
      no_pivot e
      ∙ ap₂ (λ a b. cond (a || b) (legs ++ leg_from made ∷ []) legs) (le-ltb (length table.stages) (length made.stages) (omega (arith, ap length stages)))
      (le-ltb (length table.columns) (length made.columns) (omega (arith, ap length columns)))

-- ---- sums
module _ (m : ℕ) where
  -- a leg with fewer pivots than its bases has at most its limit
  within_limit : (leg : Leg) → leg.pivots < leg_bases m leg → leg.pivots ≤ leg_limit m leg
  within_limit leg l = by (eqb leg.pivots 0) refl
    where
      by : (b : Bool) → eqb leg.pivots 0 ≡ b → leg.pivots ≤ cond b 0 (leg_bases m leg)
      by true e = omega (arith, eqb-true leg.pivots 0 e)
      by false e = omega arith

  pub sums_within : (legs : List Leg) → AllByRecursion (λ leg. leg.pivots < leg_bases m leg) legs → sum_by (λ leg. leg.pivots) legs ≤ sum_by (leg_limit m) legs
  sums_within [] h = omega arith
  sums_within (leg ∷ legs) h =
      omega (arith, sum_by-cons (λ (leg : Leg). leg.pivots) leg legs, sum_by-cons (leg_limit m) leg legs, within_limit leg h.0, sums_within legs h.1)

  -- with a pivot more in the last leg, the limits sum to more than the pivots
  pub sums_below : (legs : List Leg) (leg : Leg) → AllByRecursion (λ leg. leg.pivots < leg_bases m leg) legs → leg.pivots < leg_bases m leg →
      sum_by (λ leg. leg.pivots) (legs ++ leg ∷ []) < pivot_limit m (with_pivot (legs ++ leg ∷ []))
  sums_below legs leg h l =
      let some : eqb (leg.pivots + 1) 0 ≡ false = ne_eqb (leg.pivots + 1) 0 (λ e. omega (arith, e)) in
      let limit : leg_limit m (longer leg) ≡ leg_bases m leg = ap (λ b. cond b 0 (leg_bases m leg)) some in
      omega (
        arith,
        sum_by_push (λ (leg : Leg). leg.pivots) legs leg,
        ap (sum_by (leg_limit m)) (with_pivot-last legs leg),
        sum_by_push (leg_limit m) legs (longer leg),
        sums_within legs h,
        limit,
        l,
      )
