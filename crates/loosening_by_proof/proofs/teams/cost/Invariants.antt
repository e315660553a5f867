use Rattle.std.proofs.Common.{◌≡◌, take, sum_by}
use Rattle.std.specs.List.{enumerate_from}
use Rattle.define_quotas.specs.Teams.{missed_by}
use Rattle.define_pools.specs.Pool.{members_with}
use Rattle.loosening_by_proof.proofs.teams.cost.Given as goal

-- the sum so far is the number of people by which the members miss the bounds of the values of the categories read so far
abbrev pub invariant-loop-c : goal.invariant-loop-c
invariant-loop-c l =
    l.sum ≡ sum_by (λ (c, category). sum_by (λ (v, value). missed_by value.lower value.upper (members_with l.volunteers l.members c v)) (enumerate_from 0 category.values))
    (take l.c (enumerate_from 0 l.categories))
