use Rattle.std.proofs.Common.{◌≡◌, ◌∷◌, map}
use Rattle.std.specs.List.{range_with_len}
use Rattle.define_rows.specs.declared.Var.TheVariants.{Slack, Column}
use Rattle.exact_table.proofs.starting.first_basic.Given as goal

abbrev pub invariant-loop-class : goal.invariant-loop-class
invariant-loop-class l = l.basic.items ≡ Column 0 ∷ map Slack (range_with_len 0 l.class)
