-- What the first counts of a front weigh, with one count more.
use Rattle.std.proofs.Common.{◌≡◌, ℕ, ◌+◌, ◌*◌, ◌^◌, ◌≤◌, ◌<◌, List, length, take, get_or, ℤ, pos, ◌+ℤ◌, ◌*ℤ◌, ap, ◌∙◌, arith, subst}
use Rattle.std.specs.Prelude.{unsigned_abs}
use Rattle.std.proofs.lemmas.List.{take_more, length-take-le}
use Rattle.define_searches.specs.Classes.{Classes, KeepsLimits}
use Rattle.define_searches.specs.Compositions.{weight_in}
use Rattle.define_searches.specs.Front.{AreWithin}
use Rattle.define_searches.specs.Weights.{at, AreNarrow}
use Rattle.define_searches.proofs.WeightLaws.{child_narrow, weight_more, within_first}

module _ (all : Classes) (entries : List ℤ) (front : List ℕ) (place : ℕ) (narrow : AreNarrow all entries) (below : place < length front) (few : length front ≤ length all.classes) where
  long : length (take place front) ≡ place
  long = length-take-le place front (omega arith)

  -- the weight of the first `place + 1` counts
  pub next_weight : weight_in entries (take (place + 1) front) ≡ weight_in entries (take place front) +ℤ pos (get_or front place 0) *ℤ at entries place
  next_weight =
      ap (weight_in entries) (take_more front place 0 below) ∙ weight_more entries (take place front) (get_or front place 0) (omega (arith, long, narrow.one_each))
      ∙ ap (λ n. weight_in entries (take place front) +ℤ pos (get_or front place 0) *ℤ at entries n) long

  -- the next count's weight can be added within 128 bits
  pub next_narrow : KeepsLimits all → AreWithin all front → unsigned_abs (weight_in entries (take place front)) + get_or front place 0 * unsigned_abs (at entries place) < 2 ^ 127
  next_narrow limits within =
      let child = subst (AreWithin all) (take_more front place 0 below) (within_first all front (place + 1) within (omega arith)) in
      omega (
        arith,
        child_narrow all entries (take place front) (get_or front place 0) 0 limits narrow (omega (arith, long)) child,
        ap (λ n. get_or front place 0 * unsigned_abs (at entries n)) long,
      )
