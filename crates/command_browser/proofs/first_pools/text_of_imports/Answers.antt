use Rattle.std.proofs.lemmas.Result.{IfOk-weaker}
use Rattle.command_browser.specs.FirstPools.{Imports, RefusesOne}
use Rattle.command_browser.proofs.first_pools.text_of_imports.Goals as goal

pub returns-in-Ok : goal.returns-in-Ok
returns-in-Ok c = IfOk-weaker c.text_of_round.result _ _ (λ text tells. Imports c.in-Ok.tables c.in-Ok.ensures tells) c.text_of_round.ensures

pub returns-in-Err-Refused : goal.returns-in-Err-Refused
returns-in-Err-Refused c =
    let are = rw c.in-Err-Refused.field-0-is at c.in-Err-Refused.ensures in
    IfOk-weaker c.refused.result _ _ (λ text is. RefusesOne are is) c.refused.ensures
