use Rattle.std.proofs.lemmas.Result.{IfOk-weaker}
use Rattle.command_browser.specs.FirstPools.{IsFaulty, Reads}
use Rattle.command_browser.proofs.first_pools.text_of_first_pool.Goals as goal

pub returns-in-Ok : goal.returns-in-Ok
returns-in-Ok c =
    let files = c.in-Ok.files in
    IfOk-weaker c.text_of_imports.result _ _ (λ text tells. Reads files.charter files.rules files.rows c.in-Ok.ensures tells) c.text_of_imports.ensures

pub returns-in-Err-Fault : goal.returns-in-Err-Fault
returns-in-Err-Fault c =
    let fails = rw c.in-Err-Fault.field-0-is at c.in-Err-Fault.ensures in
    IfOk-weaker c.input_line.result _ _ (λ text is. IsFaulty _ fails is) c.input_line.ensures
