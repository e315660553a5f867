use Rattle.std.proofs.Common.{◌≡◌, subst}
use Rattle.command_meanings.specs.{NodesAreTaken}
use Rattle.command_browser.specs.Proving.{Proves}
use Rattle.command_browser.proofs.proving.proved.Goals as goal

pub returns-in-Some : goal.returns-in-Some
returns-in-Some c =
    let most : c.prove_alone.new.trees.most_nodes ≡ c.args.command.now.nodes = cc (c.in_ok-answered.ensures.visits.most_nodes, c.new-trees.ensures) in
    Proves (record {
      count = c.prove_alone.new.trees;
      most = most;
      taken = λ none. subst NodesAreTaken most (c.evidence_of_taken_nodes.ensures none);
      right = rw c.in-Some.is at c.in_ok-answered.ensures.right;
    })
