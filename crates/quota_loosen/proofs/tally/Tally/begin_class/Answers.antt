use Rattle.std.proofs.Common.{◌+◌, drop, length, refl, sym, ap, ◌∙◌, arith, true}
use Rattle.std.proofs.lemmas.List.{with_items_is}
use Rattle.define_searches.proofs.Tracking.{cells_of_class, can_leave, cells_same, give_same, more_same, most_more, with_next, begun}
use Rattle.quota_loosen.proofs.tally.Tally.begin_class.Goals as goal

pub take_from-requires-clause-cells : goal.take_from-requires-clause-cells
take_from-requires-clause-cells c =
    let all = c.args.classes.now in let front = c.args.front.now in let class = c.class_at-class.result.now in
    cells_same _ class.values _ c.args.self.now.later.items c.values.ensures c.deref_mut.ensures.value (cells_of_class all class _ c.class_at-class.ensures.limits c.class_at-class.ensures.places c.requires.stands.later_cells)

pub take_from-requires-clause-enough : goal.take_from-requires-clause-enough
take_from-requires-clause-enough c =
    let all = c.args.classes.now in let front = c.args.front.now in let class = c.class_at-class.result.now in
    give_same _ class.values _ c.args.self.now.later.items _ class.most c.values.ensures c.deref_mut.ensures.value c.most.ensures
    (can_leave all front class (drop (length front + 1) all.classes) _ c.class_at-class.ensures.limits c.class_at-class.ensures.places (with_next all front class _ c.class_at-class.ensures.stands c.requires.stands))

pub returns : goal.returns
returns c =
    let all = c.args.classes.now in let front = c.args.front.now in let class = c.class_at-class.result.now in
    let items = with_items_is c.args.self.now.later c.take_from.new.cells (sym c.take_from.ensures.same ∙ ap length c.deref_mut.ensures.value ∙ sym c.args.self.now.later.ok.0) in
    let tracks = with_next all front class _ c.class_at-class.ensures.stands c.requires.stands in
    let more = most_more (λ class. true) class (drop (length front + 1) all.classes) in
    begun all front class (drop (length front + 1) all.classes) _ _ c.class_at-class.ensures.places tracks refl refl (omega (arith, c.most-2.ensures, tracks.later_taken, more))
    (more_same _ _ _ _ _ _ _ _ c.values.ensures c.most.ensures (sym items) c.deref_mut.ensures.value c.take_from.ensures) refl
