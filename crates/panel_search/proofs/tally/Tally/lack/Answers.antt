use Rattle.std.proofs.Common.{◌++◌, ◌∷◌, [], arith}
use Rattle.define_searches.proofs.WeightLaws.{taken_few, taken_next}
use Rattle.panel_search.proofs.tally.Tally.lack.Goals as goal

pub overflow_add-result : goal.overflow_add-result
overflow_add-result c =
    let all = c.args.classes.now in let front = c.args.front.now in
    omega (arith, c.requires.stands.taken, c.facts.ensures.size, taken_next all front c.args.count c.requires.below, taken_few all (front ++ c.args.count ∷ []) c.requires.live)

pub overflow_sub-result : goal.overflow_sub-result
overflow_sub-result c =
    let all = c.args.classes.now in let front = c.args.front.now in
    omega (arith, c.requires.stands.taken, c.size.ensures, taken_next all front c.args.count c.requires.below, taken_few all (front ++ c.args.count ∷ []) c.requires.live)

pub returns : goal.returns
returns c =
    let all = c.args.classes.now in let front = c.args.front.now in
    omega (arith, c.requires.stands.taken, c.size.ensures, taken_next all front c.args.count c.requires.below)
