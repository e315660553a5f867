use Rattle.std.proofs.Common.{◌≡◌, [], take}
use Rattle.define_quotas.specs.Teams.{loosened}
use Rattle.quota_loosen.proofs.bounds.quotas.Given as goal

-- `made` has the categories so far
abbrev pub invariant-loop-place : goal.invariant-loop-place
invariant-loop-place l = l.made ≡ record { size = l.pool.size; categories = take l.place (loosened l.pool l.team).categories; volunteers = [] }
