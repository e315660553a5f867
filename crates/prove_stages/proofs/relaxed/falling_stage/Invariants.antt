use Rattle.std.proofs.Common.{◌≡◌, length}
use Rattle.std.specs.Prelude.{IfSome}
use Rattle.prove_table.specs.Sizes.{SameSizes}
use Rattle.prove_limits.specs.Budgets.{SpendsOn}
use Rattle.prove_stages.proofs.relaxed.falling_stage.Given as goal

abbrev pub invariant-levels : goal.invariant-levels
invariant-levels l = SameSizes l.initial.table l.table × SpendsOn l.fn.budget l.budget × IfSome l.last (λ last. length last.0.weights.items ≡ length l.program.firsts)

abbrev pub decreases-levels : goal.decreases-levels
decreases-levels l = l.budget.nodes
