use Rattle.std.proofs.Common.{◌≡◌, ◌++◌, ◌∷◌, [], take}
use Rattle.office_import.proofs.drafts.add_draft.Given as goal

-- the pool's last category is the draft with the values added so far
abbrev pub invariant-loop-value : goal.invariant-loop-value
invariant-loop-value l = l.pool ≡ record l.fn.pool { categories = l.fn.pool.categories ++ record { name = l.draft.name; values = take l.value-index l.draft.values } ∷ [] }
