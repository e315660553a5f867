-- `loosen` has at most one right answer: that the search needs more visits than its budget, or a least loosening, or that there is no team.
use Rattle.std.proofs.Common.{◌≡◌, ◌∙◌, ℕ, Some, ap, sym, arith, rules}
use Rattle.define_quotas.specs.Loosenings.{Loosening, least_loosening}
use Rattle.define_pools.specs.Pool.{Pool}
use Rattle.command_shell.specs.declared.status.Printed.TheVariants.{Done, NoPanel}
use Rattle.command_shell.specs.declared.status.Cause.TheVariants.{Spent}
use Rattle.command_shell.specs.Answers.{HasOneAnswer, Prints, Stops}
use Rattle.command_meanings.specs.LooseningLines.{loosening_text}
use Rattle.command_meanings.specs.Loosening.{LoosenMeans}

one_loosening : (pool : Pool) (a b : Loosening) → least_loosening pool ≡ Some a → least_loosening pool ≡ Some b → a ≡ b
one_loosening pool a b x y = cc

pub loosen_once : (nodes : ℕ) (pool : Pool) → HasOneAnswer (LoosenMeans nodes pool)
loosen_once nodes pool (Prints Done a) (Prints Done b) x y =
    ap (Prints Done) (x.lines ∙ (ap (loosening_text pool) (one_loosening pool x.loosening y.loosening x.least.found y.least.found) ∙ sym y.lines))
loosen_once nodes pool (Prints Done a) (Prints NoPanel b) x y = absurd (y.no_team x.loosening.panel x.least.cheapest.is_one)
loosen_once nodes pool (Prints Done a) (Stops Spent b) x y = let one = x.within in let two = y.more in absurd (omega arith)
loosen_once nodes pool (Prints NoPanel a) (Prints Done b) x y = absurd (x.no_team y.loosening.panel y.least.cheapest.is_one)
loosen_once nodes pool (Prints NoPanel a) (Prints NoPanel b) x y = ap (Prints NoPanel) (x.line ∙ sym y.line)
loosen_once nodes pool (Prints NoPanel a) (Stops Spent b) x y = let one = x.within in let two = y.more in absurd (omega arith)
loosen_once nodes pool (Stops Spent a) (Prints Done b) x y = let one = x.more in let two = y.within in absurd (omega arith)
loosen_once nodes pool (Stops Spent a) (Prints NoPanel b) x y = let one = x.more in let two = y.within in absurd (omega arith)
loosen_once nodes pool (Stops Spent a) (Stops Spent b) x y = ap (Stops Spent) (x.line ∙ sym y.line)
loosen_once nodes pool first second x y = search rules
