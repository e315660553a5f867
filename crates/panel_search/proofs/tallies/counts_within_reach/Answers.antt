use Rattle.std.proofs.Common.{max, min, ap, ◌∙◌}
use Rattle.panel_search.proofs.Ranges.{reach_between}
use Rattle.panel_search.proofs.tallies.counts_within_reach.Goals as goal

pub returns-clause-inside : goal.returns-clause-inside
returns-clause-inside c = λ count.
    (reach_between c.args.bound.lower c.args.bound.upper c.args.number c.args.more c.args.from c.args.until c.max.result c.min.result
    (c.max.ensures ∙ ap (max c.args.from) c.saturating_sub.ensures) (c.min.ensures ∙ ap (min c.args.until) c.saturating_sub-2.ensures) count).0

pub returns-clause-outside : goal.returns-clause-outside
returns-clause-outside c = λ count.
    (reach_between c.args.bound.lower c.args.bound.upper c.args.number c.args.more c.args.from c.args.until c.max.result c.min.result
    (c.max.ensures ∙ ap (max c.args.from) c.saturating_sub.ensures) (c.min.ensures ∙ ap (min c.args.until) c.saturating_sub-2.ensures) count).1
