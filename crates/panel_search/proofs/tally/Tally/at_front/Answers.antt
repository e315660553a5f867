use Rattle.std.proofs.Common.{take, arith}
use Rattle.define_searches.proofs.WeightLaws.{count_few, within_few, within_first}
use Rattle.panel_search.proofs.tally.Tally.at_front.Goals as goal

pub take-requires-clause-small : goal.take-requires-clause-small
take-requires-clause-small c =
    let all = c.args.classes.now in let front = c.args.front.now in let depth = c.loop-depth.depth in
    let few = within_few all (take depth front) c.facts.ensures (within_first all front depth c.requires.counts (omega (arith, c.loop-depth-test.true))) in omega (arith, few)

pub take-requires-clause-few : goal.take-requires-clause-few
take-requires-clause-few c =
    let all = c.args.classes.now in let front = c.args.front.now in let depth = c.loop-depth.depth in
    let few = count_few all front depth c.facts.ensures c.requires.counts (omega (arith, c.loop-depth-test.true)) in omega (arith, few)
