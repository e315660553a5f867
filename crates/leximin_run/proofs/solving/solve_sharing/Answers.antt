use Rattle.leximin_run.proofs.solving.solve_sharing.Goals as goal

pub returns-in-Ok-Found-clause-run : goal.returns-in-Ok-Found-clause-run
returns-in-Ok-Found-clause-run g c = rw c.in-Ok-Found.field-0-is at c.in-Ok-Found.ensures.run

pub returns-in-Ok-Found-clause-same : goal.returns-in-Ok-Found-clause-same
returns-in-Ok-Found-clause-same g c = rw c.in-Ok-Found.field-0-is at c.in-Ok-Found.ensures.same
