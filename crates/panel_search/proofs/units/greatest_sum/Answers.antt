use Rattle.std.proofs.Common.{rules, ◌≡◌, ◌+◌, ◌-◌, ◌*◌, ◌<◌, ◌^◌, arith, pos, get_or, FitsSigned, sym, ◌∙◌, ◌+ℤ◌, ◌*ℤ◌}
use Rattle.std.specs.Int.{w128}
use Rattle.std.specs.Prelude.{unsigned_abs}
use Rattle.std.proofs.lemmas.Int.{to_z-of_z}
use Rattle.define_searches.specs.Weights.{units_from}
use Rattle.define_searches.proofs.UnitSums.{units_narrow}
use Rattle.panel_search.specs.Units.{IsBeside}
use Rattle.panel_search.proofs.UnitsBeside.{enough_units, fits_at_level, level_from, no_level_from, no_level_more, nothing_taken, sum_at_level}
use Rattle.panel_search.proofs.units.greatest_sum.Goals as goal

pub with_count-requires : goal.with_count-requires
with_count-requires c =
    let all = c.args.classes.now in let entries = c.args.entries.now in let place = c.args.place in let t = get_or entries c.loop-i.i (pos 0) in
    let us = units_from all entries place in let beside = c.units_beside-beside.result in
    let ft : FitsSigned w128 t = search rules in
    let fs : FitsSigned w128 beside.sum = search rules in
    let is : IsBeside us t beside = simp to_z-of_z at c.units_beside-beside.ensures in
    let level = level_from us c.args.count t beside is (sym c.can_end.ensures ∙ c.if-can_end.true) in
    let narrow : unsigned_abs beside.sum + (c.args.count - beside.heavier) * unsigned_abs t < 2 ^ 127 =
    fits_at_level us c.args.count t beside is level (units_narrow all entries place c.facts.ensures c.requires.narrow) in
    simp to_z-of_z narrow

pub returns-then-can_end : goal.returns-then-can_end
returns-then-can_end c =
    let all = c.args.classes.now in let entries = c.args.entries.now in let place = c.args.place in let t = get_or entries c.loop-i.i (pos 0) in
    let us = units_from all entries place in let beside = c.units_beside-beside.result in
    let ft : FitsSigned w128 t = search rules in
    let fs : FitsSigned w128 beside.sum = search rules in
    let fr : FitsSigned w128 c.with_count.result = search rules in
    let is : IsBeside us t beside = simp to_z-of_z at c.units_beside-beside.ensures in
    let level = level_from us c.args.count t beside is (sym c.can_end.ensures ∙ c.if-can_end.true) in
    let made : c.with_count.result ≡ beside.sum +ℤ pos (c.args.count - beside.heavier) *ℤ t = simp to_z-of_z at c.with_count.ensures in
    let value = made ∙ sum_at_level us c.args.count t beside is level in
    simp to_z-of_z value

pub loop-i-preserved : goal.loop-i-preserved
loop-i-preserved c =
    let all = c.args.classes.now in let entries = c.args.entries.now in let place = c.args.place in let t = get_or entries c.loop-i.i (pos 0) in
    let us = units_from all entries place in let beside = c.units_beside-beside.result in
    let ft : FitsSigned w128 t = search rules in
    let is : IsBeside us t beside = simp to_z-of_z at c.units_beside-beside.ensures in
    no_level_more us c.args.count entries place c.loop-i.i c.loop-i.invariant (no_level_from us c.args.count t beside is (sym c.can_end.ensures ∙ c.if-can_end.false))

pub returns : goal.returns
returns c =
    let all = c.args.classes.now in let entries = c.args.entries.now in let place = c.args.place in
    sym (nothing_taken all.classes entries place c.args.count (omega (arith, c.requires.count, enough_units all entries place c.requires.narrow.one_each))
    (λ j a b. c.loop-i.invariant j a (omega (arith, c.loop-i-test.false))))
