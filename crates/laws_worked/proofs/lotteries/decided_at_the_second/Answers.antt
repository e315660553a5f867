use Rattle.std.proofs.Common.{refl, true≢false}
use Rattle.laws_worked.specs.Pools.{barred_lottery}
use Rattle.laws_worked.proofs.lotteries.decided_at_the_second.Goals as goal

pub returns-clause-not_greatest : goal.returns-clause-not_greatest
returns-clause-not_greatest c =
    λ greatest. true≢false (greatest.none_above barred_lottery (record { some = refl; panels = refl; different = refl; total_agrees = record { weights = refl; total = refl } }))
