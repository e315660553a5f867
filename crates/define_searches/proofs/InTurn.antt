-- Two searches in turn: the second is made if the first finds nothing.
use Rattle.std.proofs.Common.{◌≡◌, ℕ, ◌+◌, ◌≤◌, true, false, cond, List, Some, None, ap, arith}
use Rattle.std.specs.Prelude.{is_some}
use Rattle.define_searches.specs.Visits.{Search as Due}

-- Two searches in turn find what the first finds, or else what the second finds. Their visits are those of the first, and also those of the
-- second if the first finds nothing.
abbrev pub then_next : Due → Due → Due
then_next one rest = cond (is_some one.found) one (record { visits = one.visits + rest.visits; found = rest.found })

pub after_nothing : (rest : Due) → rest ≡ then_next (record { visits = 0; found = None }) rest
after_nothing rest = let e : rest.visits ≡ 0 + rest.visits = omega arith in ap (λ (n : ℕ). let due : Due = record { visits = n; found = rest.found } in due) e

pub at_least_one : (one rest : Due) → one.visits ≤ (then_next one rest).visits
at_least_one one rest = elim (is_some one.found) as (λ b. one.visits ≤ (cond b one (record { visits = one.visits + rest.visits; found = rest.found })).visits) [
  | true ↦ omega arith
  | false ↦ omega arith
]

-- if the first search finds something, the second is not made
pub found_at_once : (one rest : Due) (found : List ℕ) → one.found ≡ Some found → then_next one rest ≡ one
found_at_once one rest found e = ap (λ o. cond (is_some o) one (record { visits = one.visits + rest.visits; found = rest.found })) e

pub found_later : (one rest : Due) → one.found ≡ None → then_next one rest ≡ record { visits = one.visits + rest.visits; found = rest.found }
found_later one rest e = ap (λ o. cond (is_some o) one (record { visits = one.visits + rest.visits; found = rest.found })) e
