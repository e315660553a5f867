use Rattle.command_proofs.proofs.proving.prove_alone.Goals as goal

pub returns-in-Valid-clause-right : goal.returns-in-Valid-clause-right
returns-in-Valid-clause-right c =
    c.in_ok-valid_proof-in-Valid.ensures c.args.trees.now c.args.pool.now (rw c.in-Valid.is at c.in_ok-proof.ensures.makes)
