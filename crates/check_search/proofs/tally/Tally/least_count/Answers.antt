use Rattle.std.proofs.Common.{◌+◌, ◌-◌, true, length, ap, ◌∙◌, arith}
use Rattle.check_search.proofs.Liveness.{fails_same, lacking_dead}
use Rattle.define_searches.proofs.Tracking.{few_held, few_later, few_taken, most_small, small_same}
use Rattle.check_search.proofs.tally.Tally.least_count.Goals as goal

pub overflow_add-self : goal.overflow_add-self
overflow_add-self c =
    let all = c.args.classes.now in
    omega (
      arith,
      c.requires.stands.taken,
      few_taken all c.args.front.now (λ class. true) c.class_at-class.ensures.limits c.requires.live,
      c.requires.stands.later_taken,
      most_small all (length c.args.front.now + 1) (λ class. true) c.class_at-class.ensures.limits,
    )

pub number_needed-requires-clause-small : goal.number_needed-requires-clause-small
number_needed-requires-clause-small c =
    let all = c.args.classes.now in let front = c.args.front.now in let class = c.class_at-class.result.now in
    small_same _ _ _ c.args.self.now.held.items (ap length c.values.ensures) c.deref.ensures.value (few_held all front _ (length class.values) _ c.class_at-class.ensures.limits c.class_at-class.ensures.places.one_each c.requires.live c.requires.stands)

pub number_needed-requires-clause-small_later : goal.number_needed-requires-clause-small_later
number_needed-requires-clause-small_later c =
    let all = c.args.classes.now in let front = c.args.front.now in let class = c.class_at-class.result.now in
    small_same _ _ _ c.args.self.now.later.items (ap length c.values.ensures) c.deref-2.ensures.value (few_later all front (length front + 1) (length class.values) _ c.class_at-class.ensures.limits c.class_at-class.ensures.places.one_each c.requires.stands)

pub returns-clause-lacking : goal.returns-clause-lacking
returns-clause-lacking c =
    let all = c.args.classes.now in let front = c.args.front.now in let class = c.class_at-class.result.now in let self = c.args.self.now in
    lacking_dead all front class _ c.class_at-class.ensures.limits c.class_at-class.ensures.places c.class_at-class.ensures.stands c.requires.stands c.args.least c.saturating_sub-lack.result c.max.result c.number_needed.result
    (c.saturating_sub-lack.ensures ∙ ap (λ n. n - (self.taken + self.later_taken)) c.size.ensures) c.max.ensures
    (λ count l u. fails_same _ all.bounds _ self.held.items _ self.later.items _ class.values count c.bounds.ensures c.deref.ensures.value c.deref-2.ensures.value c.values.ensures (c.number_needed.ensures.lacking count l u))
