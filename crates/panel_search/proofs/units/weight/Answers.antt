use Rattle.std.proofs.Common.{rules, ◌≡◌, ◌+◌, ◌*◌, ◌<◌, ◌^◌, arith, pos, get_or, take, FitsSigned, to_z, sym, ap, ◌∙◌, ◌+ℤ◌, ◌*ℤ◌}
use Rattle.std.specs.Int.{w128}
use Rattle.std.specs.Prelude.{unsigned_abs}
use Rattle.std.proofs.lemmas.Int.{to_z-of_z}
use Rattle.define_searches.specs.Compositions.{weight_in}
use Rattle.panel_search.proofs.Weighed.{next_narrow, next_weight}
use Rattle.panel_search.proofs.units.weight.Goals as goal

pub with_count-weight-requires : goal.with_count-weight-requires
with_count-weight-requires c =
    let all = c.args.classes.now in let entries = c.args.entries.now in let front = c.args.front.now in let place = c.loop-place.place in
    let fx : FitsSigned w128 (get_or entries place (pos 0)) = search rules in
    let inv : to_z w128 c.loop-place.weight-bits ≡ weight_in entries (take place front) = c.loop-place.invariant in
    let narrow : unsigned_abs (to_z w128 c.loop-place.weight-bits) + get_or front place 0 * unsigned_abs (get_or entries place (pos 0)) < 2 ^ 127 =
    omega (arith, next_narrow all entries front place c.requires.narrow c.loop-place-test.true c.requires.within c.facts.ensures c.requires.counts, ap unsigned_abs inv) in
    simp to_z-of_z narrow

pub loop-place-preserved : goal.loop-place-preserved
loop-place-preserved c =
    let all = c.args.classes.now in let entries = c.args.entries.now in let front = c.args.front.now in let place = c.loop-place.place in
    let fx : FitsSigned w128 (get_or entries place (pos 0)) = search rules in
    let fr : FitsSigned w128 c.with_count-weight.result = search rules in
    let inv : to_z w128 c.loop-place.weight-bits ≡ weight_in entries (take place front) = c.loop-place.invariant in
    let made : c.with_count-weight.result ≡ to_z w128 c.loop-place.weight-bits +ℤ pos (get_or front place 0) *ℤ get_or entries place (pos 0) = simp to_z-of_z at c.with_count-weight.ensures in
    to_z-of_z w128 c.with_count-weight.result fr ∙ made ∙ ap (λ z. z +ℤ pos (get_or front place 0) *ℤ get_or entries place (pos 0)) inv
    ∙ sym (next_weight all entries front place c.requires.narrow c.loop-place-test.true c.requires.within)
