-- A tally that is brought to a front, count by count, and back.
use Rattle.std.proofs.Common.{◌≡◌, ℕ, ◌+◌, ◌≤◌, ◌<◌, List, [], ◌∷◌, ◌++◌, take, drop, length, get_or, sym, subst, arith}
use Rattle.std.proofs.lemmas.List.{length-take-le, take_more}
use Rattle.define_searches.specs.Classes.{Classes, KeepsLimits}
use Rattle.define_searches.specs.Fronts.{taken_by}
use Rattle.define_searches.specs.Front.{AreWithin, FrontTally, Tracks}
use Rattle.define_searches.proofs.WeightLaws.{within_few, within_first}

module _ (all : Classes) (front : List ℕ) (place : ℕ) (below : place < length front) where
  abbrev first : List ℕ
  first = take place front

  abbrev count : ℕ
  count = get_or front place 0

  pub size : length first ≡ place
  size = length-take-le place front (omega arith)

  next : take (place + 1) front ≡ first ++ count ∷ []
  next = take_more front place 0 below

  pub small : KeepsLimits all → AreWithin all front → taken_by all first ≤ 4000
  small limits within = omega (arith, within_few all first limits (within_first all front place within (omega arith)))

  pub at_first : (tally : FrontTally) (n : ℕ) → n ≡ place → Tracks all (take n front) (drop n all.classes) tally → Tracks all first (drop (length first) all.classes) tally
  at_first tally n e tracks =
      subst (λ n. Tracks all first (drop n all.classes) tally) (sym size) (subst (λ n. Tracks all (take n front) (drop n all.classes) tally) e tracks)

  pub from_first : (tally : FrontTally) (n : ℕ) → n ≡ place → Tracks all first (drop (length first) all.classes) tally → Tracks all (take n front) (drop n all.classes) tally
  from_first tally n e tracks =
      subst (λ n. Tracks all (take n front) (drop n all.classes) tally) (sym e) (subst (λ n. Tracks all first (drop n all.classes) tally) size tracks)

  pub at_child : (tally : FrontTally) (n : ℕ) → n ≡ place + 1 → Tracks all (take n front) (drop n all.classes) tally → Tracks all (first ++ count ∷ []) (drop (length first + 1) all.classes) tally
  at_child tally n e tracks =
      subst (λ n. Tracks all (first ++ count ∷ []) (drop (n + 1) all.classes) tally) (sym size)
      (subst (λ xs. Tracks all xs (drop (place + 1) all.classes) tally) next (subst (λ n. Tracks all (take n front) (drop n all.classes) tally) e tracks))

  pub from_child : (tally : FrontTally) (n : ℕ) → n ≡ place + 1 → Tracks all (first ++ count ∷ []) (drop (length first + 1) all.classes) tally → Tracks all (take n front) (drop n all.classes) tally
  from_child tally n e tracks =
      subst (λ n. Tracks all (take n front) (drop n all.classes) tally) (sym e)
      (subst (λ xs. Tracks all xs (drop (place + 1) all.classes) tally) (sym next) (subst (λ n. Tracks all (first ++ count ∷ []) (drop (n + 1) all.classes) tally) size tracks))
