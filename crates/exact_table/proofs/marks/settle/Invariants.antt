use Rattle.std.proofs.Common.{◌≡◌, ◌++◌, take, drop}
use Rattle.exact_table.specs.Marks.{settled_marks}
use Rattle.exact_table.proofs.marks.settle.Given as goal

abbrev pub invariant-loop-class : goal.invariant-loop-class
invariant-loop-class l =
    (take l.class l.settled_at ++ settled_marks l.fn.stage (drop l.class l.entries) (drop l.class l.settled_at) ≡ settled_marks l.fn.stage l.entries l.initial.settled_at)
