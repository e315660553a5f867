use Rattle.std.proofs.Common.{refl, subst}
use Rattle.std.specs.List.{AllByRecursion}
use Rattle.define_offices.specs.Facts.{KeepsRound}
use Rattle.office_tables.specs.Seen.{seen_parts}
use Rattle.office_tables.proofs.KeptParts.{each_more, each_of_all}
use Rattle.office_tables.proofs.checking.rounds_keep.Goals as goal

pub loop-round-preserved : goal.loop-round-preserved
loop-round-preserved c =
    each_more (KeepsRound (seen_parts c.args.parts.now)) c.deref-round-items.result.now c.loop-round.round-index c.round-item.result c.loop-round-test.true c.round-item.is c.loop-round.invariant
    (c.in_ok-round_keeps.ensures.0 c.if-not-branch.false)

pub returns : goal.returns
returns c =
    let keeps = KeepsRound (seen_parts c.args.parts.now) in
    ((λ _. subst (AllByRecursion keeps) c.deref-round-items.ensures.value (each_of_all keeps c.deref-round-items.result.now c.loop-round.round-index c.loop-round-test.false c.loop-round.invariant)), (λ _. refl))
