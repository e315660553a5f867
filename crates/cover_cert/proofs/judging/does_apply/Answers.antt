use Rattle.std.proofs.Common.{arith}
use Rattle.define_searches.proofs.WeightLaws.{within_few}
use Rattle.cover_cert.proofs.judging.does_apply.Goals as goal

pub reaches_size-requires-clause-few : goal.reaches_size-requires-clause-few
reaches_size-requires-clause-few c = omega (arith, within_few c.args.terms.now.classes c.args.front.now c.facts.ensures c.requires.within)

pub takes_one_a_household-requires-clause-few : goal.takes_one_a_household-requires-clause-few
takes_one_a_household-requires-clause-few c = omega (arith, within_few c.args.terms.now.classes c.args.front.now c.facts.ensures c.requires.within)

pub reaches_size-requires-in-Closed-clause-few : goal.reaches_size-requires-in-Closed-clause-few
reaches_size-requires-in-Closed-clause-few c = omega (arith, within_few c.args.terms.now.classes c.args.front.now c.facts.ensures c.requires.within)

pub reaches_size-requires-in-Cap-clause-few : goal.reaches_size-requires-in-Cap-clause-few
reaches_size-requires-in-Cap-clause-few c = omega (arith, within_few c.args.terms.now.classes c.args.front.now c.facts.ensures c.requires.within)
