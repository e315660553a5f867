use Rattle.std.proofs.Common.{◌+◌, drop, length, refl, sym, ap, ◌∙◌, arith}
use Rattle.std.proofs.lemmas.List.{with_items_is}
use Rattle.define_searches.proofs.HouseholdTallies.{small_homes, few_same, home_same}
use Rattle.define_searches.proofs.Tracking.{cells_of_class, cells_same, small_same, more_same, small_held, taken_on}
use Rattle.check_search.proofs.tally.Tally.take.Goals as goal

pub add_to-requires-clause-cells : goal.add_to-requires-clause-cells
add_to-requires-clause-cells c =
    let all = c.args.classes.now in let front = c.args.front.now in let class = c.class_at-class.result.now in
    cells_same _ class.values _ c.args.self.now.held.items c.values.ensures c.deref_mut.ensures.value (cells_of_class all class _ c.class_at-class.ensures.limits c.class_at-class.ensures.places c.requires.stands.held_cells)

pub add_to-requires-clause-small : goal.add_to-requires-clause-small
add_to-requires-clause-small c =
    let all = c.args.classes.now in let front = c.args.front.now in let class = c.class_at-class.result.now in
    small_same _ _ _ c.args.self.now.held.items (ap length c.values.ensures) c.deref_mut.ensures.value (small_held all front _ (length class.values) _ c.class_at-class.ensures.places.one_each c.requires.small c.requires.stands)

pub add_at-requires-clause-small : goal.add_at-requires-clause-small
add_at-requires-clause-small c =
    few_same _ c.args.self.now.homes.items c.deref_mut-2.ensures.value (small_homes c.args.classes.now c.args.front.now _ _ c.requires.small c.requires.stands)

pub overflow_add-self : goal.overflow_add-self
overflow_add-self c =
    omega (arith, c.requires.stands.taken, c.requires.small, c.requires.few)

pub returns : goal.returns
returns c =
    let all = c.args.classes.now in let front = c.args.front.now in let class = c.class_at-class.result.now in
    let items = with_items_is c.args.self.now.held c.add_to.new.cells (c.add_to.ensures.same ∙ ap length c.deref_mut.ensures.value ∙ sym c.args.self.now.held.ok.0) in
    let homes = with_items_is c.args.self.now.homes c.add_at.new.homes (c.add_at.ensures.same ∙ ap length c.deref_mut-2.ensures.value ∙ sym c.args.self.now.homes.ok.0) in
    taken_on all front class c.args.count (drop (length front + 1) all.classes) _ _ c.class_at-class.ensures.places c.class_at-class.ensures.stands c.requires.stands refl refl refl
    (more_same _ _ _ _ _ _ _ _ c.values.ensures refl c.deref_mut.ensures.value (sym items) c.add_to.ensures)
    (home_same _ _ _ _ _ _ _ c.household.ensures c.deref_mut-2.ensures.value (sym homes) c.add_at.ensures)
