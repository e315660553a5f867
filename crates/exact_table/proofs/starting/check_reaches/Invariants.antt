use Rattle.std.specs.Prelude.{unsigned_abs}
use Rattle.define_rows.specs.Width.{reach_operations}
use Rattle.define_rows.proofs.InTurnLaws.{IsMadeUpTo}
use Rattle.exact_table.proofs.starting.check_reaches.Given as goal

abbrev pub invariant-loop-place : goal.invariant-loop-place
invariant-loop-place l = IsMadeUpTo (reach_operations (unsigned_abs l.fn.most) l.sizes) l.rows l.place
