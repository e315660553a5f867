use Rattle.command_meanings.specs.declared.taking.Witness.TheView.{view}
use Rattle.command_meanings.proofs.taking.evidence_of_taken_nodes.Goals as goal

pub returns : goal.returns
returns c = λ _. view (record {}) c.args.budget.now.most_nodes
