use Rattle.define_searches.proofs.HouseholdTallies.{few_same, small_homes}
use Rattle.check_search.proofs.tally.Tally.takes_one_a_household.Goals as goal

pub has_room-requires-clause-small : goal.has_room-requires-clause-small
has_room-requires-clause-small c =
    few_same _ c.args.self.now.homes.items c.deref.ensures.value (small_homes c.args.classes.now c.args.front.now _ _ c.requires.few c.requires.stands)
