use Rattle.std.proofs.Common.{◌++◌, ◌∷◌, [], ◌&&◌, sym, ap, ◌∙◌}
use Rattle.std.proofs.lemmas.Bool.{and_parts}
use Rattle.define_searches.specs.Compositions.{takes_one_a_household}
use Rattle.define_searches.specs.Fronts.{size_reachable, values_reachable}
use Rattle.define_searches.specs.Homes.{has_room}
use Rattle.define_searches.proofs.HouseholdTallies.{child_households, few_homes, few_same}
use Rattle.check_search.proofs.tally.Tally.allows.Goals as goal

pub has_room-requires-clause-small : goal.has_room-requires-clause-small
has_room-requires-clause-small c =
    few_same _ c.args.self.now.homes.items c.deref.ensures.value (few_homes c.args.classes.now c.args.front.now _ _ c.class_at-class.ensures.limits c.requires.live c.requires.stands)

pub returns-then-counts_allow : goal.returns-then-counts_allow
returns-then-counts_allow c =
    let all = c.args.classes.now in let front = c.args.front.now in let class = c.class_at-class.result.now in
    let ones = (and_parts (size_reachable all front && values_reachable all front) (takes_one_a_household all.classes front) c.requires.live).1 in
    let counts = sym c.counts_allow.ensures ∙ c.if-counts_allow.true in
    c.has_room.ensures ∙ ap (λ homes. has_room homes c.household.result c.args.count) c.deref.ensures.value
    ∙ child_households all front class c.args.count _ _ c.class_at-class.ensures.limits c.class_at-class.ensures.stands c.requires.stands ones c.household.result c.household.ensures
    ∙ sym (ap (λ b. b && takes_one_a_household all.classes (front ++ c.args.count ∷ [])) counts)
