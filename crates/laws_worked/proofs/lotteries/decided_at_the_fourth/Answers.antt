use Rattle.std.proofs.Common.{refl, true≢false}
use Rattle.laws_worked.specs.Pools.{three_and_two_lottery}
use Rattle.laws_worked.proofs.lotteries.decided_at_the_fourth.Goals as goal

pub returns-clause-not_greatest : goal.returns-clause-not_greatest
returns-clause-not_greatest c =
    λ greatest. true≢false (greatest.none_above three_and_two_lottery (record { some = refl; panels = refl; different = refl; total_agrees = record { weights = refl; total = refl } }))
