use Rattle.std.proofs.lemmas.Result.{IfOk-weaker}
use Rattle.command_proofs.proofs.Proved.{found_told}
use Rattle.command_proofs.proofs.settling.proved_by.Goals as goal

pub returns-in-Some-clause-right : goal.returns-in-Some-clause-right
returns-in-Some-clause-right c =
    IfOk-weaker c.if_valid.result _ _ (λ found shows. found_told _ _ (rw c.in-Some.is at c.in_ok-proof.ensures.about) found shows) c.if_valid.ensures
