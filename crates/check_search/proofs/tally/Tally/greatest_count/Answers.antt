use Rattle.std.proofs.Common.{◌-◌, refl, ap, ◌∙◌}
use Rattle.check_search.proofs.Liveness.{fails_same, passed_dead}
use Rattle.check_search.proofs.tally.Tally.greatest_count.Goals as goal

pub returns-clause-passed : goal.returns-clause-passed
returns-clause-passed c =
    let all = c.args.classes.now in let front = c.args.front.now in let class = c.class_at-class.result.now in let self = c.args.self.now in
    passed_dead all front class _ c.class_at-class.ensures.limits c.class_at-class.ensures.places c.class_at-class.ensures.stands c.requires.stands c.args.most c.saturating_sub-lack.result c.min.result c.room_left.result
    (c.saturating_sub-lack.ensures ∙ ap (λ n. n - self.taken) c.size.ensures) c.min.ensures
    (λ count l u. fails_same _ all.bounds _ self.held.items self.later.items self.later.items _ class.values count c.bounds.ensures c.deref.ensures.value refl c.values.ensures (c.room_left.ensures.passed count self.later.items l u))
