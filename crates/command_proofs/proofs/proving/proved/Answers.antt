use Rattle.std.proofs.Common.{◌≡◌, subst}
use Rattle.std.proofs.lemmas.Result.{IfOk-weaker}
use Rattle.command_meanings.specs.{NodesAreTaken}
use Rattle.command_proofs.proofs.proving.proved.Goals as goal

pub returns : goal.returns
returns g c =
    let most : c.prove_within-answer.new.trees.most_nodes ≡ c.args.command.now.nodes = cc (c.prove_within-answer.ensures.visits.most_nodes, c.new-trees.ensures) in
    IfOk-weaker c.prove_within-answer.result _ _
    (λ answer right. record {
      count = c.prove_within-answer.new.trees;
      most = most;
      taken = λ none. subst NodesAreTaken most (c.evidence_of_taken_nodes.ensures none);
      right = right;
    })
    c.prove_within-answer.ensures.right
