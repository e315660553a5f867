use Rattle.std.proofs.Common.{rules, ◌≡◌, ◌+◌, ◌++◌, replicate, suc, pos, get_or, arith, sym, ap, ◌∙◌, subst, FitsSigned}
use Rattle.std.specs.Int.{w128}
use Rattle.std.specs.Prelude.{unsigned_abs}
use Rattle.std.proofs.lemmas.Int.{to_z-of_z}
use Rattle.define_searches.specs.Weights.{at, CanAdd, HasUnit, AreGreatest, units_from}
use Rattle.define_searches.proofs.Tracking.{most_of_class}
use Rattle.define_searches.proofs.UnitSums.{unit_fits, units_more, units_few, units_next, greatest_more}
use Rattle.panel_search.proofs.greatest.put_class.Goals as goal
use Rattle.define_searches.proofs.GreatestSum.{length-replicate}

pub overflow_add-units : goal.overflow_add-units
overflow_add-units c =
    let all = c.args.classes.now in let place = c.args.place in let class = c.class_at.result.now in
    omega (arith, c.requires.units, units_few all c.args.entries.now (place + 1) c.class_at.ensures.limits, c.most-most.ensures, most_of_class all place class c.class_at.ensures.limits c.class_at.ensures.stands)

pub put_unit-requires : goal.put_unit-requires
put_unit-requires c =
    let all = c.args.classes.now in let place = c.args.place in let class = c.class_at.result.now in let entries = c.args.entries.now in
    let fx : FitsSigned w128 (get_or entries place (pos 0)) = search rules in
    let can : CanAdd (at entries place) c.loop-done.sums = λ n l.
    omega (arith, ap unsigned_abs (c.loop-done.invariant.greatest n l), unit_fits all entries place class c.loop-done.done n c.class_at.ensures.limits c.requires.narrow c.class_at.ensures.stands (omega (arith, c.most-most.ensures))) in
    simp to_z-of_z can

pub loop-done-preserved : goal.loop-done-preserved
loop-done-preserved c =
    let all = c.args.classes.now in let place = c.args.place in let entries = c.args.entries.now in let done = c.loop-done.done in
    let fx : FitsSigned w128 (get_or entries place (pos 0)) = search rules in
    let has : HasUnit (c.args.units + done) (at entries place) c.loop-done.sums c.put_unit.new.sums = simp to_z-of_z at c.put_unit.ensures in
    let us = replicate done (at entries place) ++ units_from all entries (place + 1) in
    let more = greatest_more us (at entries place) (c.args.units + done) c.loop-done.sums c.put_unit.new.sums
    (omega (arith, c.requires.units, length-replicate done (at entries place) (units_from all entries (place + 1)))) c.loop-done.invariant.greatest has in
    let e : suc done ≡ done + 1 = omega arith in
    record {
      same = has.same ∙ c.loop-done.invariant.same;
      greatest = subst (λ (n : _). AreGreatest (replicate n (at entries place) ++ units_from all entries (place + 1)) c.put_unit.new.sums) e more;
    }

pub overflow_add-result : goal.overflow_add-result
overflow_add-result c =
    let all = c.args.classes.now in let place = c.args.place in let class = c.class_at.result.now in
    omega (arith, c.requires.units, units_few all c.args.entries.now (place + 1) c.class_at.ensures.limits, c.most-most.ensures, most_of_class all place class c.class_at.ensures.limits c.class_at.ensures.stands)

pub returns-clause-units : goal.returns-clause-units
returns-clause-units c =
    let all = c.args.classes.now in let place = c.args.place in let class = c.class_at.result.now in
    omega (arith, c.requires.units, c.most-most.ensures, units_more all c.args.entries.now place class c.requires.narrow c.class_at.ensures.stands)

pub returns-clause-greatest : goal.returns-clause-greatest
returns-clause-greatest c =
    let all = c.args.classes.now in let place = c.args.place in let class = c.class_at.result.now in let entries = c.args.entries.now in
    let e : c.loop-done.done ≡ class.most = omega (arith, c.most-most.ensures) in
    subst (λ us. AreGreatest us c.loop-done.sums) (ap (λ n. replicate n (at entries place) ++ units_from all entries (place + 1)) e ∙ sym (units_next all entries place class c.class_at.ensures.stands c.requires.narrow.one_each))
    c.loop-done.invariant.greatest
