use Rattle.define_legs.proofs.Endings.{legs_end}
use Rattle.leximin_run.proofs.solving.solve_sized.Goals as goal

pub returns-in-Ok-Found-clause-run : goal.returns-in-Ok-Found-clause-run
returns-in-Ok-Found-clause-run g c = let told = rw c.in-Ok-Found.field-0-is at c.in-Ok-Found.ensures.run in (told.0, told.1, legs_end _ _ _ _ told.2)
