use Rattle.std.proofs.Common.{◌+◌, drop, length, refl, sym, ap, ◌∙◌, arith, true}
use Rattle.std.proofs.lemmas.List.{with_items_is}
use Rattle.define_searches.proofs.Tracking.{most_of_class, cells_of_class, cells_same, small_same, more_same, few_later, most_small, from_next, ended}
use Rattle.panel_search.proofs.tally.Tally.end_class.Goals as goal

pub add_to-requires-clause-cells : goal.add_to-requires-clause-cells
add_to-requires-clause-cells c =
    let all = c.args.classes.now in let front = c.args.front.now in let class = c.class_at-class.result.now in
    cells_same _ class.values _ c.args.self.now.later.items c.values.ensures c.deref_mut.ensures.value (cells_of_class all class _ c.class_at-class.ensures.limits c.class_at-class.ensures.places c.requires.stands.later_cells)

pub add_to-requires-clause-small : goal.add_to-requires-clause-small
add_to-requires-clause-small c =
    let all = c.args.classes.now in let front = c.args.front.now in let class = c.class_at-class.result.now in
    small_same _ _ _ c.args.self.now.later.items (ap length c.values.ensures) c.deref_mut.ensures.value (few_later all front (length front + 1) (length class.values) _ c.class_at-class.ensures.limits c.class_at-class.ensures.places.one_each c.requires.stands)

pub add_to-requires-clause-count : goal.add_to-requires-clause-count
add_to-requires-clause-count c =
    let all = c.args.classes.now in let front = c.args.front.now in let class = c.class_at-class.result.now in
    omega (arith, c.most.ensures, most_of_class all (length front) class c.class_at-class.ensures.limits c.class_at-class.ensures.stands)

pub overflow_add-self : goal.overflow_add-self
overflow_add-self c =
    let all = c.args.classes.now in let front = c.args.front.now in let class = c.class_at-class.result.now in
    omega (arith, c.most-2.ensures, most_of_class all (length front) class c.class_at-class.ensures.limits c.class_at-class.ensures.stands, c.requires.stands.later_taken, most_small all (length front + 1) (λ class. true) c.class_at-class.ensures.limits)

pub returns : goal.returns
returns c =
    let all = c.args.classes.now in let front = c.args.front.now in let class = c.class_at-class.result.now in
    let items = with_items_is c.args.self.now.later c.add_to.new.cells (c.add_to.ensures.same ∙ ap length c.deref_mut.ensures.value ∙ sym c.args.self.now.later.ok.0) in
    from_next all front class _ c.class_at-class.ensures.stands (ended all front class (drop (length front + 1) all.classes) _ _ c.class_at-class.ensures.places c.requires.stands refl refl (ap (λ n. c.args.self.now.later_taken + n) c.most-2.ensures)
    (more_same _ _ _ _ _ _ _ _ c.values.ensures c.most.ensures c.deref_mut.ensures.value (sym items) c.add_to.ensures) refl)
