use Rattle.std.proofs.Common.{◌≡◌, [], take}
use Rattle.office_import.proofs.drafts.pool_of.Given as goal

abbrev pub invariant-loop-draft : goal.invariant-loop-draft
invariant-loop-draft l = l.pool ≡ record { size = 1; categories = take l.draft-index l.drafts; volunteers = [] }
