use Rattle.std.proofs.Common.{◌+◌, true, length, sym, ap, ◌∙◌, arith, subst}
use Rattle.define_searches.specs.Homes.{has_room}
use Rattle.panel_search.specs.Tallies.{AreSmallBounds}
use Rattle.panel_search.proofs.Ranges.{small_bounds, reached_live, live_reached}
use Rattle.define_searches.proofs.Tracking.{small_same, few_later, few_held, few_taken, most_small, reach_same}
use Rattle.panel_search.proofs.tally.Tally.range.Goals as goal

pub overflow_add-self : goal.overflow_add-self
overflow_add-self c =
    let all = c.args.classes.now in
    omega (arith, c.requires.stands.taken, few_taken all c.args.front.now (λ class. true) c.class_at-class.ensures.limits c.requires.live, c.requires.stands.later_taken, most_small all (length c.args.front.now + 1) (λ class. true) c.class_at-class.ensures.limits)

pub values_range-requires-clause-small_bounds : goal.values_range-requires-clause-small_bounds
values_range-requires-clause-small_bounds c = subst AreSmallBounds (sym c.bounds.ensures) (small_bounds c.args.classes.now c.class_at-class.ensures.limits)

pub values_range-requires-clause-small : goal.values_range-requires-clause-small
values_range-requires-clause-small c =
    let all = c.args.classes.now in let front = c.args.front.now in let class = c.class_at-class.result.now in
    small_same _ _ _ c.args.self.now.held.items (ap length c.values.ensures) c.deref.ensures.value (few_held all front _ (length class.values) _ c.class_at-class.ensures.limits c.class_at-class.ensures.places.one_each c.requires.live c.requires.stands)

pub values_range-requires-clause-small_later : goal.values_range-requires-clause-small_later
values_range-requires-clause-small_later c =
    let all = c.args.classes.now in let front = c.args.front.now in let class = c.class_at-class.result.now in
    small_same _ _ _ c.args.self.now.later.items (ap length c.values.ensures) c.deref-2.ensures.value (few_later all front (length front + 1) (length class.values) _ c.class_at-class.ensures.limits c.class_at-class.ensures.places.one_each c.requires.stands)

pub returns-clause-inside : goal.returns-clause-inside
returns-clause-inside c =
    let all = c.args.classes.now in let front = c.args.front.now in let class = c.class_at-class.result.now in let self = c.args.self.now in
    λ count l m.
    let values = c.values_range.ensures.inside count l m in
    let room = c.room.ensures.inside count values.1 in (
      omega (arith, values.0, c.max-low.ensures),
      omega (arith, room.0, c.min-end.ensures),
      reached_live all front class count self c.class_at-class.ensures.limits c.class_at-class.ensures.places c.class_at-class.ensures.stands c.requires.live c.requires.stands (record {
        few = omega (arith, room.0, c.min-end.ensures, c.saturating_sub-2.ensures, c.size-size.ensures);
        enough = omega (arith, values.0, c.max-low.ensures, c.saturating_sub.ensures, c.size-size.ensures);
        values = reach_same _ _ _ _ _ _ _ _ count c.bounds.ensures c.deref.ensures.value c.deref-2.ensures.value c.values.ensures values.2;
        room = ap (λ homes. has_room homes class.household count) (sym c.deref-3.ensures.value) ∙ ap (λ household. has_room c.deref-3.result.now household count) (sym c.household.ensures) ∙ room.1;
      }),
    )

pub returns-clause-outside : goal.returns-clause-outside
returns-clause-outside c =
    let all = c.args.classes.now in let front = c.args.front.now in let class = c.class_at-class.result.now in let self = c.args.self.now in
    λ count l m live.
    let reached = live_reached all front class count self c.class_at-class.ensures.limits c.class_at-class.ensures.places c.class_at-class.ensures.stands c.requires.live c.requires.stands live in
    let room = c.room.ensures.outside count (omega (arith, m, reached.few, c.min-end.ensures, c.saturating_sub-2.ensures, c.size-size.ensures))
    (ap (λ household. has_room c.deref-3.result.now household count) c.household.ensures ∙ ap (λ homes. has_room homes class.household count) c.deref-3.ensures.value ∙ reached.room) in
    c.values_range.ensures.outside count (omega (arith, l, reached.enough, c.max-low.ensures, c.saturating_sub.ensures, c.size-size.ensures)) room
    (reach_same _ _ _ _ _ _ _ _ count (sym c.bounds.ensures) (sym c.deref.ensures.value) (sym c.deref-2.ensures.value) (sym c.values.ensures) reached.values)
