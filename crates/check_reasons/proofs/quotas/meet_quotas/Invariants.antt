use Rattle.std.proofs.Common.{◌≡◌, ℕ, ◌<◌, true, get_or}
use Rattle.std.specs.List.{enumerate_from, list_all}
use Rattle.define_pools.specs.Pool.{Category, is_within, members_with}
use Rattle.check_reasons.proofs.quotas.meet_quotas.Given as goal

-- the bounds of the categories read so far are met
abbrev pub invariant-loop-c : goal.invariant-loop-c
invariant-loop-c l = (k : ℕ) (d : Category) → k < l.c →
    list_all (λ (v, value). is_within value (members_with l.volunteers l.members k v)) (enumerate_from 0 (get_or l.categories k d).values) ≡ true
