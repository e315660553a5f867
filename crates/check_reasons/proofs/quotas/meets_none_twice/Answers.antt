use Rattle.std.proofs.Common.{◌≡◌, ℕ, ◌+◌, ◌<◌, Bool, true, false, List, length, map, get_or, set, take, sym, ap, ◌∙◌, arith, ltb}
use Rattle.std.proofs.lemmas.List.{get_or-map, length-map, length-set}
use Rattle.std.specs.List.{list_all}
use Rattle.define_pools.proofs.Each.{below_at}
use Rattle.define_pools.specs.Lists.{includes}
use Rattle.check_reasons.specs.Households.{none_twice}
use Rattle.check_reasons.proofs.Twice.{comes_once, comes_twice, marked_more}
use Rattle.check_reasons.proofs.quotas.meets_none_twice.Goals as goal

-- The number of each member's household is a place in the list of marks.
met_within : (households members : List ℕ) (first met : List Bool) (j : ℕ) → list_all (λ i. ltb i (length households)) members ≡ true → list_all (λ h. ltb h (length first)) households ≡ true → length met ≡ length first →
    j < length members → get_or households (get_or members j 0) 0 < length met
met_within households members first met j known within same l =
    let below = below_at (length first) households (get_or members j 0) within (below_at (length households) members j known l) in omega (arith, same)

module _ (households members : List ℕ) (met : List Bool) (j : ℕ) (below : j < length members) (within : get_or households (get_or members j 0) 0 < length met) where
  abbrev numbers : List ℕ
  numbers = map (λ i. get_or households i 0) members

  abbrev number : ℕ
  number = get_or households (get_or members j 0) 0

  number_at : get_or numbers j 0 ≡ number
  number_at = get_or-map (λ i. get_or households i 0) members j 0 0 below

  inside : j < length numbers
  inside = omega (arith, length-map members (λ i. get_or households i 0))

  module _ (once : none_twice (take j numbers) ≡ true) (marked : (h : ℕ) → h < length met → get_or met h false ≡ includes (take j numbers) h) where
    pub again : get_or met number false ≡ true → false ≡ none_twice numbers
    again e = sym (comes_twice numbers j inside (ap (includes (take j numbers)) number_at ∙ sym (marked number within) ∙ e))

    pub once_more : get_or met number false ≡ false → none_twice (take (j + 1) numbers) ≡ true
    once_more e = comes_once numbers j inside (ap (includes (take j numbers)) number_at ∙ sym (marked number within) ∙ e) once

    pub marked_next : (h : ℕ) → h < length (set met number true) → get_or (set met number true) h false ≡ includes (take (j + 1) numbers) h
    marked_next h l =
        ap (λ n. get_or (set met n true) h false) (sym number_at) ∙ marked_more numbers met j h inside (omega (arith, length-set met number true)) marked

pub returns-then-met-household : goal.returns-then-met-household
returns-then-met-household c =
    again c.args.households.now c.args.members.now c.loop-i.met c.loop-i.i-index c.loop-i-test.true (met_within c.args.households.now c.args.members.now c.args.met.now c.loop-i.met c.loop-i.i-index c.requires.known c.requires.within c.loop-i.auto.met c.loop-i-test.true) c.loop-i.invariant.once c.loop-i.invariant.met c.if-met-household.true

pub loop-i-preserved : goal.loop-i-preserved
loop-i-preserved c = record {
  once = once_more c.args.households.now c.args.members.now c.loop-i.met c.loop-i.i-index c.loop-i-test.true (met_within c.args.households.now c.args.members.now c.args.met.now c.loop-i.met c.loop-i.i-index c.requires.known c.requires.within c.loop-i.auto.met c.loop-i-test.true) c.loop-i.invariant.once c.loop-i.invariant.met c.if-met-household.false;
  met = marked_next c.args.households.now c.args.members.now c.loop-i.met c.loop-i.i-index c.loop-i-test.true (met_within c.args.households.now c.args.members.now c.args.met.now c.loop-i.met c.loop-i.i-index c.requires.known c.requires.within c.loop-i.auto.met c.loop-i-test.true) c.loop-i.invariant.once c.loop-i.invariant.met;
}
