use Rattle.std.proofs.Common.{◌≡◌, arith, rules}
use Rattle.std.proofs.lemmas.Result.{IfOk-weaker}
use Rattle.command_shell.specs.Answers.{saying}
use Rattle.command_proofs.proofs.Proved.{spent_told}
use Rattle.command_proofs.proofs.settling.proved_or_spent.Goals as goal

pub returns-in-Some-clause-right : goal.returns-in-Some-clause-right
returns-in-Some-clause-right c = let told = rw c.in-Some.is at c.in_ok-answer.ensures.right in λ about over. told c.proved_by.new.trees about over

pub returns-clause-right : goal.returns-clause-right
returns-clause-right c =
    let none : c.take_node.new.self.nodes ≡ 0 = grind (arith, rules, c.take_node.ensures.value, c.take_node.ensures.left, c.is_ok.ensures.value, c.attempts-test.false) in
    IfOk-weaker c.spent.result _ _
    (λ answer tells. λ about over. spent_told c.take_node.new.self (saying answer) about c.args.bundle.now over c.requires.valid c.requires.within none (rw c.most_nodes.ensures at tells))
    c.spent.ensures
