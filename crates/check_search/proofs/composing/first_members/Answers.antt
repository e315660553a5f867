use Rattle.std.proofs.Common.{arith, rules, tests}
use Rattle.std.proofs.lemmas.Iterator.{YieldsList-from_range, items_from_collect}
use Rattle.std.proofs.lemmas.Iterator.Consumers.{YieldsList-from_filter}
use Rattle.define_searches.specs.Compositions.{is_taken}
use Rattle.check_search.proofs.composing.first_members.Goals as goal

pub returns : goal.returns
returns c =
    items_from_collect _ c.collect.ensures.ran
    (YieldsList-from_filter _ (is_taken c.args.groups.now c.args.counts.now) (YieldsList-from_range 0 c.args.volunteers c.args.volunteers c.filter.ensures.source (omega arith)) c.filter.ensures.closure (λ x b q k. search (rules, tests)))
