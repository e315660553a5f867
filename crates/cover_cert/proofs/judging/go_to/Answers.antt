use Rattle.std.proofs.Common.{arith}
use Rattle.define_searches.proofs.WeightLaws.{count_few}
use Rattle.cover_cert.proofs.Walks.{small}
use Rattle.cover_cert.proofs.judging.go_to.Goals as goal

pub take-requires-clause-small : goal.take-requires-clause-small
take-requires-clause-small c = small c.args.classes.now c.args.front.now c.loop-place.place c.loop-place-test.true c.facts.ensures c.requires.within

pub take-requires-clause-few : goal.take-requires-clause-few
take-requires-clause-few c = omega (arith, count_few c.args.classes.now c.args.front.now c.loop-place.place c.facts.ensures c.requires.within c.loop-place-test.true)
