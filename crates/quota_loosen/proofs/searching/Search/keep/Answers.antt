use Rattle.std.proofs.Common.{take, length, drop, ap, ◌∙◌}
use Rattle.define_quotas.specs.Costs.{sure_cost}
use Rattle.quota_loosen.proofs.Stepping.{kept_now, stands_kept}
use Rattle.quota_loosen.proofs.searching.Search.keep.Goals as goal

pub returns-clause-kept : goal.returns-clause-kept
returns-clause-kept c =
    let all = c.args.classes.now in let depth = c.args.depth in
    kept_now all depth (drop depth all.classes) c.args.self.now c.store.new.self c.sure_cost-least.result c.requires.stands c.requires.whole c.store.ensures.kept c.store.ensures.least c.store.ensures.visits

pub returns-clause-stands : goal.returns-clause-stands
returns-clause-stands c =
    let all = c.args.classes.now in let depth = c.args.depth in
    stands_kept all depth (drop depth all.classes) c.args.self.now c.store.new.self c.sure_cost-least.result c.requires.stands c.requires.whole (ap (λ counts. counts.items) c.store.ensures.counts)
    c.store.ensures.kept c.store.ensures.least (c.sure_cost-least.ensures ∙ ap (λ xs. sure_cost all (take depth xs)) c.deref.ensures.value) c.store.ensures.tally
