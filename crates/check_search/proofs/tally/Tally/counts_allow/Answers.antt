use Rattle.std.proofs.Common.{◌+◌, ◌&&◌, leb, length, sym, ap, ◌∙◌, arith, true}
use Rattle.define_searches.proofs.Tracking.{cells_of_class, bounds_of_class, bounds_same, cells_same, small_same, few_later, few_held, few_taken, most_small, reach_same}
use Rattle.check_search.proofs.Liveness.{fails_same, child_live, child_dead}
use Rattle.check_search.proofs.tally.Tally.counts_allow.Goals as goal

pub size_allows-requires : goal.size_allows-requires
size_allows-requires c =
    let all = c.args.classes.now in
    omega (
      arith,
      c.requires.stands.taken,
      few_taken all c.args.front.now (λ class. true) c.class_at-class.ensures.limits c.requires.live,
      c.requires.few,
      c.requires.stands.later_taken,
      most_small all (length c.args.front.now + 1) (λ class. true) c.class_at-class.ensures.limits,
    )

pub values_allow-requires-clause-bounds : goal.values_allow-requires-clause-bounds
values_allow-requires-clause-bounds c =
    let all = c.args.classes.now in let front = c.args.front.now in let class = c.class_at-class.result.now in
    bounds_same _ all.bounds _ class.values c.bounds.ensures c.values.ensures (bounds_of_class all class c.class_at-class.ensures.places)

pub values_allow-requires-clause-held : goal.values_allow-requires-clause-held
values_allow-requires-clause-held c =
    let all = c.args.classes.now in let front = c.args.front.now in let class = c.class_at-class.result.now in
    cells_same _ class.values _ c.args.self.now.held.items c.values.ensures c.deref.ensures.value (cells_of_class all class _ c.class_at-class.ensures.limits c.class_at-class.ensures.places c.requires.stands.held_cells)

pub values_allow-requires-clause-later : goal.values_allow-requires-clause-later
values_allow-requires-clause-later c =
    let all = c.args.classes.now in let front = c.args.front.now in let class = c.class_at-class.result.now in
    cells_same _ class.values _ c.args.self.now.later.items c.values.ensures c.deref-then-size_allows.ensures.value (cells_of_class all class _ c.class_at-class.ensures.limits c.class_at-class.ensures.places c.requires.stands.later_cells)

pub values_allow-requires-clause-small : goal.values_allow-requires-clause-small
values_allow-requires-clause-small c =
    let all = c.args.classes.now in let front = c.args.front.now in let class = c.class_at-class.result.now in
    small_same _ _ _ c.args.self.now.held.items (ap length c.values.ensures) c.deref.ensures.value (few_held all front _ (length class.values) _ c.class_at-class.ensures.limits c.class_at-class.ensures.places.one_each c.requires.live c.requires.stands)

pub values_allow-requires-clause-small_later : goal.values_allow-requires-clause-small_later
values_allow-requires-clause-small_later c =
    let all = c.args.classes.now in let front = c.args.front.now in let class = c.class_at-class.result.now in
    small_same _ _ _ c.args.self.now.later.items (ap length c.values.ensures) c.deref-then-size_allows.ensures.value (few_later all front (length front + 1) (length class.values) _ c.class_at-class.ensures.limits c.class_at-class.ensures.places.one_each c.requires.stands)

pub returns-then-size_allows : goal.returns-then-size_allows
returns-then-size_allows c =
    let all = c.args.classes.now in let front = c.args.front.now in let class = c.class_at-class.result.now in
    let self = c.args.self.now in
    child_live all front class c.args.count _ c.class_at-class.ensures.limits c.class_at-class.ensures.places c.class_at-class.ensures.stands c.requires.live c.requires.stands
    (ap (λ n. leb (self.taken + c.args.count) n && leb n (self.taken + c.args.count + self.later_taken)) (sym c.size.ensures) ∙ (sym c.size_allows.ensures ∙ c.if-size_allows.true))
    c.values_allow.result
    (λ yes. reach_same _ _ _ _ _ _ _ _ c.args.count c.bounds.ensures c.deref.ensures.value c.deref-then-size_allows.ensures.value c.values.ensures (c.values_allow.ensures.allowed yes))
    (λ no. fails_same _ _ _ _ _ _ _ _ c.args.count c.bounds.ensures c.deref.ensures.value c.deref-then-size_allows.ensures.value c.values.ensures (c.values_allow.ensures.refused no))

pub returns-else-size_allows : goal.returns-else-size_allows
returns-else-size_allows c =
    let all = c.args.classes.now in let front = c.args.front.now in let class = c.class_at-class.result.now in
    let self = c.args.self.now in
    c.if-size_allows.false ∙ sym (child_dead all front class c.args.count _ c.class_at-class.ensures.stands c.requires.stands
    (ap (λ n. leb (self.taken + c.args.count) n && leb n (self.taken + c.args.count + self.later_taken)) (sym c.size.ensures) ∙ (sym c.size_allows.ensures ∙ c.if-size_allows.false)))
