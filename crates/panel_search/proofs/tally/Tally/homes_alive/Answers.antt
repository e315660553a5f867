use Rattle.std.proofs.Common.{◌<◌, length, Some, sym, ap, ◌∙◌, arith}
use Rattle.std.proofs.lemmas.Option.{slice_get-get_or, slice_get_within}
use Rattle.define_searches.specs.Classes.{Class}
use Rattle.define_searches.specs.Compositions.{takes_one_of}
use Rattle.define_searches.specs.Homes.{has_room}
use Rattle.define_searches.proofs.Beside.{each_next, each_passes}
use Rattle.define_searches.proofs.HouseholdTallies.{few_same, home_alive, small_homes}
use Rattle.define_searches.proofs.Tracking.{stands_there}
use Rattle.panel_search.proofs.tally.Tally.homes_alive.Goals as goal

pub has_one-requires-clause-small : goal.has_one-requires-clause-small
has_one-requires-clause-small c =
    few_same _ c.args.self.now.homes.items c.deref.ensures.value (small_homes c.args.classes.now c.args.front.now _ _ c.requires.small c.requires.stands)

pub loop-class-preserved : goal.loop-class-preserved
loop-class-preserved c =
    let all = c.args.classes.now in let front = c.args.front.now in let class = c.class-item.result in let k = c.loop-class.class-index in let household = c.household.result in
    let below : k < length all.classes = omega (arith, c.loop-class-test.true, c.loop-class.auto.class-index-end, ap length c.classes-class-items.ensures) in
    let stands = stands_there all k _ class below c.classes-class-items.ensures c.class-item.is in
    let passes = ap (takes_one_of all.classes front) (sym c.household.ensures) ∙ sym (home_alive all front k class _ _ c.facts.ensures stands c.requires.stands household c.household.ensures)
    ∙ ap (λ homes. has_room homes household 0) (sym c.deref.ensures.value) ∙ sym c.has_one.ensures ∙ c.if-not-has_one.false in
    each_next (λ (class : Class). takes_one_of all.classes front class.household) all.classes k class (slice_get-get_or all.classes k class below ∙ ap Some (sym stands.is)) passes c.loop-class.invariant

pub returns : goal.returns
returns c =
    let all = c.args.classes.now in
    sym (each_passes (λ (class : Class). takes_one_of all.classes c.args.front.now class.household) all.classes
    (λ i class e. let within = slice_get_within all.classes i class e in
    c.loop-class.invariant i class (omega (arith, c.loop-class-test.false, c.loop-class.auto.class-index-end, ap length c.classes-class-items.ensures)) e))
