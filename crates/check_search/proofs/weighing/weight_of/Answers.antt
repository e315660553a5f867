use Rattle.std.proofs.Common.{rules, to_z, ◌≡◌, ℕ, ◌+◌, ◌*◌, ◌<◌, ◌≤◌, ◌^◌, ◌++◌, ◌∷◌, [], List, length, take, get_or, ℤ, pos, FitsSigned, ◌+ℤ◌, ◌*ℤ◌, arith, sym, ap, ◌∙◌, subst}
use Rattle.std.specs.Int.{w128}
use Rattle.std.specs.Prelude.{unsigned_abs}
use Rattle.std.proofs.lemmas.Int.{to_z-of_z}
use Rattle.std.proofs.lemmas.List.{length-take-le, take_more}
use Rattle.define_searches.specs.Classes.{Classes, KeepsLimits}
use Rattle.define_searches.specs.Compositions.{weight_in}
use Rattle.define_searches.specs.Front.{AreWithin}
use Rattle.define_searches.specs.Weights.{AreNarrow, at}
use Rattle.define_searches.proofs.WeightLaws.{child_narrow, weight_more, within_first}
use Rattle.check_search.proofs.weighing.weight_of.Goals as goal

module _ (all : Classes) (entries : List ℤ) (front : List ℕ) (place : ℕ) (narrow : AreNarrow all entries) (few : length front ≤ length all.classes) (within : AreWithin all front) (below : place < length front) where
  abbrev first : List ℕ
  first = take place front

  abbrev count : ℕ
  count = get_or front place 0

  size : length first ≡ place
  size = length-take-le place front (omega arith)

  next : take (place + 1) front ≡ first ++ count ∷ []
  next = take_more front place 0 below

  next_narrow : KeepsLimits all → unsigned_abs (weight_in entries first) + count * unsigned_abs (at entries place) < 2 ^ 127
  next_narrow limits =
      let narrow_here = child_narrow all entries first count 0 limits narrow (omega (arith, size)) (subst (AreWithin all) next (within_first all front (place + 1) within (omega arith))) in
      omega (arith, narrow_here, ap (λ n. count * unsigned_abs (at entries n)) size)

  next_weight : weight_in entries (take (place + 1) front) ≡ weight_in entries first +ℤ pos count *ℤ at entries place
  next_weight =
      ap (weight_in entries) next ∙ weight_more entries first count (omega (arith, size, narrow.one_each)) ∙ ap (λ n. weight_in entries first +ℤ pos count *ℤ at entries n) size

pub with_count-weight-requires : goal.with_count-weight-requires
with_count-weight-requires c =
    let row = c.args.row.now in let front = c.args.front.now in let place = c.loop-place.place in
    let fx : FitsSigned w128 (get_or c.entries.result.now place (pos 0)) = search rules in
    let entry = ap (λ xs. at xs place) c.entries.ensures in
    let narrow : unsigned_abs (to_z w128 c.loop-place.weight-bits) + get_or front place 0 * unsigned_abs (get_or c.entries.result.now place (pos 0)) < 2 ^ 127 =
    omega (
      arith,
      next_narrow c.args.classes.now row.a front place c.requires.narrow c.requires.within c.requires.counts c.loop-place-test.true c.facts.ensures,
      ap unsigned_abs c.loop-place.invariant,
      ap (λ z. get_or front place 0 * unsigned_abs z) entry,
    ) in
    simp to_z-of_z narrow

pub loop-place-preserved : goal.loop-place-preserved
loop-place-preserved c =
    let row = c.args.row.now in let front = c.args.front.now in let place = c.loop-place.place in
    let fx : FitsSigned w128 (get_or c.entries.result.now place (pos 0)) = search rules in
    let fv : FitsSigned w128 c.with_count-weight.result = search rules in
    let made : c.with_count-weight.result ≡ to_z w128 c.loop-place.weight-bits +ℤ pos (get_or front place 0) *ℤ get_or c.entries.result.now place (pos 0) = simp to_z-of_z at c.with_count-weight.ensures in
    to_z-of_z w128 c.with_count-weight.result fv ∙ made
    ∙ ap (λ z. z +ℤ pos (get_or front place 0) *ℤ get_or c.entries.result.now place (pos 0)) c.loop-place.invariant
    ∙ ap (λ xs. weight_in row.a (take place front) +ℤ pos (get_or front place 0) *ℤ at xs place) c.entries.ensures
    ∙ sym (next_weight c.args.classes.now row.a front place c.requires.narrow c.requires.within c.requires.counts c.loop-place-test.true)
