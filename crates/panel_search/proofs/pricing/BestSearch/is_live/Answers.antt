use Rattle.std.proofs.Common.{take, ap, arith}
use Rattle.define_searches.specs.Fronts.{taken_by}
use Rattle.define_searches.proofs.WeightLaws.{within_few}
use Rattle.panel_search.proofs.pricing.BestSearch.is_live.Goals as goal

pub is_alive-requires-clause-small : goal.is_alive-requires-clause-small
is_alive-requires-clause-small c =
    let all = c.args.terms.now.classes.now in let self = c.args.self.now in let depth = c.args.depth in
    omega (arith, within_few all (take depth self.counts.items) c.facts.ensures c.requires.begins.counts, ap (λ xs. taken_by all (take depth xs)) c.deref.ensures.value)
