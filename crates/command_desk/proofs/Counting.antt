-- How many visits ended with a status, and how many with a fault of the link.
use Rattle.std.proofs.Common.{◌≡◌, ℕ, ◌+◌, ◌++◌, List, [], ◌∷◌, length, Result, Ok, Err, refl, arith, cond}
use Rattle.std.specs.Prelude.{is_ok, is_err}
use Rattle.std.proofs.lemmas.List.Sums.{sum_by-append, sum_by-cons}
use Rattle.office_http.specs.Visits.{Visit}
use Rattle.office_http.specs.declared.attending.LinkFault.{LinkFault}
use Rattle.command_desk.specs.Serving.{broken_of, served_of}

one_or_other : (ended : Result ℕ LinkFault) → cond (is_ok ended) 1 0 + cond (is_err ended) 1 0 ≡ 1
one_or_other (Ok status) = refl
one_or_other (Err fault) = refl

pub counted : (visits : List Visit) → served_of visits + broken_of visits ≡ length visits
counted [] = refl
counted (visit ∷ visits) =
    let ok : served_of (visit ∷ visits) ≡ cond (is_ok visit.ended) 1 0 + served_of visits = sum_by-cons (λ (v : Visit). cond (is_ok v.ended) 1 0) visit visits in
    let err : broken_of (visit ∷ visits) ≡ cond (is_err visit.ended) 1 0 + broken_of visits = sum_by-cons (λ (v : Visit). cond (is_err v.ended) 1 0) visit visits in
    let one = one_or_other visit.ended in
    let others = counted visits in
    omega (arith, ok, err, one, others)

-- one more visit adds 1 to the number of visits that ended with a status if this visit did, else 0
pub served_more : (visits : List Visit) (visit : Visit) → served_of (visits ++ visit ∷ []) ≡ served_of visits + cond (is_ok visit.ended) 1 0
served_more visits visit = omega (arith, sum_by-append (λ (v : Visit). cond (is_ok v.ended) 1 0) visits (visit ∷ []))

pub broken_more : (visits : List Visit) (visit : Visit) → broken_of (visits ++ visit ∷ []) ≡ broken_of visits + cond (is_err visit.ended) 1 0
broken_more visits visit = omega (arith, sum_by-append (λ (v : Visit). cond (is_err v.ended) 1 0) visits (visit ∷ []))
