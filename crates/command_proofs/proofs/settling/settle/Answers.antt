use Rattle.command_proofs.proofs.settling.settle.Goals as goal

pub returns-in-Some-clause-right : goal.returns-in-Some-clause-right
returns-in-Some-clause-right c = let told = rw c.in-Some.is at c.in_ok-answer.ensures.right in λ about over. told c.proved_by.new.trees about over
