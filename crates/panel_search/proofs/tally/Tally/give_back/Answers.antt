use Rattle.std.proofs.Common.{◌+◌, drop, length, refl, sym, ap, ◌∙◌, arith, true}
use Rattle.std.proofs.lemmas.List.{with_items_is}
use Rattle.define_searches.proofs.HouseholdTallies.{gives_same, home_gives, home_same}
use Rattle.define_searches.proofs.Tracking.{cells_of_class, can_give_back, cells_same, give_same, more_same, taken_more, given_back}
use Rattle.panel_search.proofs.tally.Tally.give_back.Goals as goal

pub take_from-requires-clause-cells : goal.take_from-requires-clause-cells
take_from-requires-clause-cells c =
    let all = c.args.classes.now in let front = c.args.front.now in let class = c.class_at-class.result.now in
    cells_same _ class.values _ c.args.self.now.held.items c.values.ensures c.deref_mut.ensures.value (cells_of_class all class _ c.class_at-class.ensures.limits c.class_at-class.ensures.places c.requires.stands.held_cells)

pub take_from-requires-clause-enough : goal.take_from-requires-clause-enough
take_from-requires-clause-enough c =
    let all = c.args.classes.now in let front = c.args.front.now in let class = c.class_at-class.result.now in
    give_same _ class.values _ c.args.self.now.held.items _ c.args.count c.values.ensures c.deref_mut.ensures.value refl
    (can_give_back all front class c.args.count (drop (length front + 1) all.classes) _ c.class_at-class.ensures.limits c.class_at-class.ensures.places c.class_at-class.ensures.stands c.requires.stands)

pub take_at-requires-clause-enough : goal.take_at-requires-clause-enough
take_at-requires-clause-enough c =
    let all = c.args.classes.now in let front = c.args.front.now in let class = c.class_at-class.result.now in
    gives_same _ _ _ c.args.self.now.homes.items c.deref_mut-2.ensures.value
    (home_gives all front class c.args.count (drop (length front + 1) all.classes) _ c.class_at-class.ensures.limits c.class_at-class.ensures.stands c.requires.stands c.household.result c.household.ensures)

pub overflow_sub-self : goal.overflow_sub-self
overflow_sub-self c =
    let all = c.args.classes.now in let front = c.args.front.now in let class = c.class_at-class.result.now in
    omega (arith, c.requires.stands.taken, taken_more all front class c.args.count c.class_at-class.ensures.stands (λ class. true))

pub returns : goal.returns
returns c =
    let all = c.args.classes.now in let front = c.args.front.now in let class = c.class_at-class.result.now in
    let items = with_items_is c.args.self.now.held c.take_from.new.cells (sym c.take_from.ensures.same ∙ ap length c.deref_mut.ensures.value ∙ sym c.args.self.now.held.ok.0) in
    let homes = with_items_is c.args.self.now.homes c.take_at.new.homes (sym c.take_at.ensures.same ∙ ap length c.deref_mut-2.ensures.value ∙ sym c.args.self.now.homes.ok.0) in
    given_back all front class c.args.count (drop (length front + 1) all.classes) _ _ c.class_at-class.ensures.places c.class_at-class.ensures.stands c.requires.stands
    (omega (arith, c.requires.stands.taken, taken_more all front class c.args.count c.class_at-class.ensures.stands (λ class. true))) refl refl
    (more_same _ _ _ _ _ _ _ _ c.values.ensures refl (sym items) c.deref_mut.ensures.value c.take_from.ensures)
    (home_same _ _ _ _ _ _ _ c.household.ensures (sym homes) c.deref_mut-2.ensures.value c.take_at.ensures)
