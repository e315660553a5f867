-- Where the search of `panel` isn't spent, `why` has status 0.
use Rattle.std.proofs.Common.{◌≡◌, ◌≢◌, refl, arith}
use Rattle.define_pools.specs.Pool.{Pool}
use Rattle.command_shell.specs.declared.status.Printed.TheVariants.{Done, NoPanel}
use Rattle.command_shell.specs.declared.status.Cause.TheVariants.{Spent}
use Rattle.command_shell.specs.Answers.{IsRight, Prints, Saying, Stops, status_of}
use Rattle.command_meanings.specs.Panel.{PanelMeans, stated_visits}
use Rattle.command_meanings.specs.Why.{WhyMeans}

pub where_panel : (pool : Pool) (answer other : Saying) → IsRight (WhyMeans pool) answer → IsRight (PanelMeans stated_visits pool) other →
    status_of other ≢ 5 → status_of answer ≡ 0
where_panel pool (Prints Done text) other right its unspent = refl
where_panel pool (Stops Spent line) (Prints Done text) right its unspent = let more = right.more in let within = its.within in absurd (omega arith)
where_panel pool (Stops Spent line) (Prints NoPanel text) right its unspent = let more = right.more in let within = its.within in absurd (omega arith)
where_panel pool (Stops Spent line) (Stops Spent other) right its unspent = absurd (unspent refl)
where_panel pool (Stops Spent line) other right its unspent = absurd its
where_panel pool answer other right its unspent = absurd right
