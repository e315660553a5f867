use Rattle.std.proofs.lemmas.Result.{IfOk-weaker}
use Rattle.command_browser.specs.FirstPools.{HasNone, Spells}
use Rattle.command_browser.proofs.first_pools.text_of_round.Goals as goal

pub returns-in-Ok : goal.returns-in-Ok
returns-in-Ok c = IfOk-weaker c.write_pool.result _ _ (λ text is. Spells c.in-Ok.pool c.in-Ok.ensures is) c.write_pool.ensures.spelled

pub returns-in-Err-NoRound : goal.returns-in-Err-NoRound
returns-in-Err-NoRound c =
    let none = rw c.in-Err-NoRound.field-0-is at c.in-Err-NoRound.ensures in
    IfOk-weaker c.refused.result _ _ (λ text is. HasNone _ none is) c.refused.ensures

pub returns-in-Err-Incomplete : goal.returns-in-Err-Incomplete
returns-in-Err-Incomplete c =
    let none = rw c.in-Err-Incomplete.field-0-is at c.in-Err-Incomplete.ensures in
    IfOk-weaker c.refused-in-Err-Incomplete.result _ _ (λ text is. HasNone _ none is) c.refused-in-Err-Incomplete.ensures
