use Rattle.std.proofs.Common.{◌<◌, length, ap, arith, refl, true}
use Rattle.define_searches.proofs.Tracking.{stands_there, places_of_class, most_of_class, first_small, few_given, small_same}
use Rattle.quota_loosen.proofs.tally.add_all.Goals as goal

pub add_to-requires-clause-small : goal.add_to-requires-clause-small
add_to-requires-clause-small c =
    let all = c.args.classes.now in let class = c.class-item.result in
    let below : c.loop-class.class-index < length all.classes = omega (arith, c.loop-class-test.true, c.loop-class.auto.class-index-end, ap length c.classes-class-items.ensures) in
    let stands = stands_there all c.loop-class.class-index _ class below c.classes-class-items.ensures c.class-item.is in
    let places = places_of_class all c.loop-class.class-index class c.facts.ensures stands in
    small_same _ (length class.values) _ _ (ap length c.values.ensures) refl (few_given all c.loop-class.class-index (length class.values) _ _ c.facts.ensures places.one_each c.loop-class.invariant)

pub overflow_add-later_taken : goal.overflow_add-later_taken
overflow_add-later_taken c =
    let all = c.args.classes.now in let class = c.class-item.result in
    let below : c.loop-class.class-index < length all.classes = omega (arith, c.loop-class-test.true, c.loop-class.auto.class-index-end, ap length c.classes-class-items.ensures) in
    let stands = stands_there all c.loop-class.class-index _ class below c.classes-class-items.ensures c.class-item.is in
    omega (arith, c.loop-class.invariant.in_all, first_small all c.loop-class.class-index (λ class. true) c.facts.ensures, c.most-later_taken.ensures, most_of_class all c.loop-class.class-index class c.facts.ensures stands)
