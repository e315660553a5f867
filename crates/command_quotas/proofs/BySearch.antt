-- What is right for `loosen` to answer is right for `loosen-by-proof`; and where `loosen` isn't spent, both have the same status.
use Rattle.std.proofs.Common.{◌≡◌, ◌≢◌, refl, arith}
use Rattle.define_pools.specs.Pool.{Pool}
use Rattle.command_shell.specs.declared.status.Printed.TheVariants.{Done, NoPanel}
use Rattle.command_shell.specs.declared.status.Cause.TheVariants.{Spent}
use Rattle.command_shell.specs.Answers.{IsRight, Prints, Saying, Stops, status_of}
use Rattle.command_meanings.specs.Panel.{stated_visits}
use Rattle.command_meanings.specs.LoosenByProof.{LoosenByProofMeans}
use Rattle.command_meanings.specs.Loosening.{LoosenMeans}

pub right_by_search : (pool : Pool) (answer : Saying) → IsRight (LoosenMeans stated_visits pool) answer → IsRight (LoosenByProofMeans pool) answer
right_by_search pool (Prints Done text) right =
    record { loosening = right.loosening; least = right.least.least; team = right.least.cheapest.is_one; lines = right.lines }
right_by_search pool (Prints NoPanel text) right = record { no_team = right.no_team; none = right.none; line = right.line }
right_by_search pool (Stops Spent line) right = right
right_by_search pool answer right = absurd right

pub where_loosen : (pool : Pool) (answer other : Saying) → IsRight (LoosenByProofMeans pool) answer → IsRight (LoosenMeans stated_visits pool) other →
    status_of other ≢ 5 → status_of answer ≡ status_of other
where_loosen pool (Prints Done text) (Prints Done other) right its unspent = refl
where_loosen pool (Prints Done text) (Prints NoPanel other) right its unspent = absurd (its.no_team right.loosening.panel right.team)
where_loosen pool (Prints NoPanel text) (Prints Done other) right its unspent = absurd (right.no_team its.loosening.panel its.least.cheapest.is_one)
where_loosen pool (Prints NoPanel text) (Prints NoPanel other) right its unspent = refl
where_loosen pool (Stops Spent line) (Prints Done other) right its unspent = let more = right.more in let within = its.within in absurd (omega arith)
where_loosen pool (Stops Spent line) (Prints NoPanel other) right its unspent = let more = right.more in let within = its.within in absurd (omega arith)
where_loosen pool (Prints Done text) (Stops Spent other) right its unspent = absurd (unspent refl)
where_loosen pool (Prints NoPanel text) (Stops Spent other) right its unspent = absurd (unspent refl)
where_loosen pool (Stops Spent line) (Stops Spent other) right its unspent = absurd (unspent refl)
where_loosen pool (Prints Done text) other right its unspent = absurd its
where_loosen pool (Prints NoPanel text) other right its unspent = absurd its
where_loosen pool (Stops Spent line) other right its unspent = absurd its
where_loosen pool answer other right its unspent = absurd right
