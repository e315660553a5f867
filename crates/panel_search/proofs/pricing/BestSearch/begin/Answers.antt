use Rattle.std.proofs.Common.{length, ap, arith}
use Rattle.define_searches.proofs.Fronts.{class_limits, same_class}
use Rattle.panel_search.proofs.Division.{among_all, stands_after}
use Rattle.panel_search.proofs.Ranges.{between}
use Rattle.panel_search.proofs.pricing.BestSearch.begin.Goals as goal

pub returns-clause-end : goal.returns-clause-end
returns-clause-end c =
    let all = c.args.terms.now.classes.now in let front = c.args.front.now in let class = c.index-classes-counts.result in
    let stands = stands_after all front _ _ class c.requires.below c.counts.ensures c.classes.ensures c.index-classes-counts.is in
    let limits = class_limits all (length front) class c.facts.ensures stands in
    omega (arith, c.range.ensures.until, c.most.ensures, limits.1, limits.2)

pub returns-clause-can_take : goal.returns-clause-can_take
returns-clause-can_take c =
    let all = c.args.terms.now.classes.now in let front = c.args.front.now in let class = c.index-classes-counts.result in
    let stands = stands_after all front _ _ class c.requires.below c.counts.ensures c.classes.ensures c.index-classes-counts.is in
    let limits = class_limits all (length front) class c.facts.ensures stands in
    λ count l m other e.
    let members = ap (λ class. length class.members) (same_class all (length front) class other stands e) in
    omega (arith, (c.range.ensures.inside count l m).1, c.most.ensures, limits.1, members)

pub returns-clause-all : goal.returns-clause-all
returns-clause-all c =
    let all = c.args.terms.now.classes.now in let front = c.args.front.now in let class = c.index-classes-counts.result in
    let stands = stands_after all front _ _ class c.requires.below c.counts.ensures c.classes.ensures c.index-classes-counts.is in
    let limits = class_limits all (length front) class c.facts.ensures stands in
    among_all all c.args.terms.now.closed.now c.args.terms.now.row.now front class c.range.result.0 c.range.result.1 stands limits.0
    (between all front c.counts-3.result.now class c.least.result c.most.result c.range.result.0 c.range.result.1 c.counts-3.ensures c.least.ensures c.most.ensures c.range.ensures.inside c.range.ensures.outside)
