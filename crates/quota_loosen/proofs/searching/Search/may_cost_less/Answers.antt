use Rattle.std.proofs.Common.{◌≡◌, Some, take, ap, sym, ◌∙◌}
use Rattle.define_quotas.specs.Costs.{sure_cost}
use Rattle.quota_loosen.proofs.Stepping.{less_is}
use Rattle.quota_loosen.proofs.searching.Search.may_cost_less.Goals as goal

pub returns-in-Some : goal.returns-in-Some
returns-in-Some c =
    let all = c.args.classes.now in let self = c.args.self.now in let depth = c.args.depth in
    less_is all self.least self.kept.items (take depth self.counts.items) c.in-Some.least c.sure_cost.result c.in-Some.is c.requires.stands.least
    (c.sure_cost.ensures ∙ ap (λ xs. sure_cost all (take depth xs)) c.deref.ensures.value)
