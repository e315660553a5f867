-- Lemmas on ranges of tickets that are given by their ends.
use Rattle.std.proofs.Common.{◌≡◌, ℕ, zero, suc, ◌+◌, ◌-◌, ◌<◌, ◌≤◌, true, false, leb, List, [], ◌∷◌, ◌++◌, length, get_or, take, refl, ap, ◌∙◌, subst, arith}
use Rattle.std.specs.Prelude.{sum}
use Rattle.std.specs.List.Sorted.{IsPartitionPoint, IsPartitionedBy}
use Rattle.std.proofs.lemmas.List.{take_more}
use Rattle.std.proofs.lemmas.Bool.{leb-true, leb-false, le-leb}
use Rattle.define_draws.specs.Tickets.{HoldsTicket}
use Rattle.define_draws.proofs.TicketLemmas.{holds_behind, sum-cons}
use Rattle.tickets.specs.Ends.{Rise, gaps}

-- the ends of the ranges of these weights, the first of which begins at `from`
abbrev pub ends_of : ℕ → List ℕ → List ℕ
ends_of from [] = []
ends_of from (weight ∷ weights) = (from + weight) ∷ ends_of (from + weight) weights

-- appending a weight appends one end: `from` plus the sum of all weights
pub ends-more : (from : ℕ) (weights : List ℕ) (weight : ℕ) → ends_of from (weights ++ weight ∷ []) ≡ ends_of from weights ++ (from + sum weights + weight) ∷ []
ends-more from [] weight = ap (λ end. end ∷ []) (let e : from + weight ≡ from + 0 + weight = omega arith in e)
ends-more from (first ∷ weights) weight =
    let e : from + first + sum weights + weight ≡ from + sum (first ∷ weights) + weight = omega (arith, sum-cons first weights) in
    ap (λ ends. (from + first) ∷ ends) (ends-more (from + first) weights weight ∙ ap (λ end. ends_of (from + first) weights ++ end ∷ []) e)

pub ends-rise : (from : ℕ) (weights : List ℕ) → Rise from (ends_of from weights)
ends-rise from [] = tt
ends-rise from (weight ∷ weights) = (omega arith, ends-rise (from + weight) weights)

-- the lengths of the ranges of some weights are the weights
pub gaps-ends : (from : ℕ) (weights : List ℕ) → gaps from (ends_of from weights) ≡ weights
gaps-ends from [] = refl
gaps-ends from (weight ∷ weights) =
    let e : (from + weight) - from ≡ weight = omega arith in
    ap (λ w. w ∷ gaps (from + weight) (ends_of (from + weight) weights)) e ∙ ap (λ ws. weight ∷ ws) (gaps-ends (from + weight) weights)

-- each end is at least `from`, at which the first range begins
pub rise-from : (from : ℕ) (ends : List ℕ) (j d : ℕ) → Rise from ends → j < length ends → from ≤ get_or ends j d
rise-from from [] j d h l = absurd (omega arith)
rise-from from (end ∷ ends) zero d h l = h.0
rise-from from (end ∷ ends) (suc j) d h l = omega (arith, h.0, rise-from end ends j d h.1 (omega arith))

pub rises : (from : ℕ) (ends : List ℕ) (i j d : ℕ) → Rise from ends → i ≤ j → j < length ends → get_or ends i d ≤ get_or ends j d
rises from [] i j d h l m = absurd (omega arith)
rises from (end ∷ ends) zero zero d h l m = omega arith
rises from (end ∷ ends) zero (suc j) d h l m = rise-from end ends j d h.1 (omega arith)
rises from (end ∷ ends) (suc i) zero d h l m = absurd (omega arith)
rises from (end ∷ ends) (suc i) (suc j) d h l m = rises end ends i j d h.1 (omega arith) (omega arith)

pub parted : (from : ℕ) (ends : List ℕ) (ticket : ℕ) → Rise from ends → IsPartitionedBy (λ end. leb end ticket) ends
parted from ends ticket h i j d l m e =
    let below = leb-true (get_or ends j d) ticket e in
    le-leb (get_or ends i d) ticket (omega (arith, rises from ends i j d h l m))

-- the first range that ends after the ticket contains the ticket
pub held : (from : ℕ) (ends : List ℕ) (i ticket : ℕ) → Rise from ends → from ≤ ticket → ticket < from + sum (gaps from ends) →
    ((k d : ℕ) → k < i → get_or ends k d ≤ ticket) → ((k d : ℕ) → i ≤ k → k < length ends → ticket < get_or ends k d) → HoldsTicket (gaps from ends) i (ticket - from)
held from [] i ticket rise l h below above = absurd (omega arith)
held from (end ∷ ends) zero ticket rise l h below above =
    let e = above 0 0 (omega arith) (omega arith) in
    record { exists = omega arith; first = omega arith; below = omega (arith, e, rise.0) }
held from (end ∷ ends) (suc i) ticket rise l h below above =
    let past : end ≤ ticket = below 0 0 (omega arith) in
    let whole = sum-cons (end - from) (gaps end ends) in
    let rest = held end ends i ticket rise.1 past (omega (arith, whole, rise.0)) (λ k d m. below (suc k) d (omega arith)) (λ k d m n. above (suc k) d (omega arith) (omega arith)) in
    let same : ticket - end ≡ (ticket - from) - (end - from) = omega (arith, rise.0) in
    holds_behind (end - from) (gaps end ends) i (ticket - from) (omega (arith, rise.0)) (subst (λ t. HoldsTicket (gaps end ends) i t) same rest)

pub held_at : (ends : List ℕ) (i ticket : ℕ) → Rise 0 ends → ticket < sum (gaps 0 ends) → IsPartitionPoint (λ end. leb end ticket ≡ true) (λ end. leb end ticket ≡ false) ends i → HoldsTicket (gaps 0 ends) i ticket
held_at ends i ticket rise h point =
    let e : ticket - 0 ≡ ticket = omega arith in
    subst (λ t. HoldsTicket (gaps 0 ends) i t) e
    (held 0 ends i ticket rise (omega arith) (omega arith)
    (λ k d l. leb-true (get_or ends k d) ticket (point.0 k d (omega arith) l))
    (λ k d l m. leb-false (get_or ends k d) ticket (point.1 k d l m)))

-- the ends of the first `j + 1` weights are those of the first `j`, and then the sum of the first `j` plus weight `j`
pub end_pushed : (weights : List ℕ) (j weight : ℕ) → j < length weights → get_or weights j 0 ≡ weight → ends_of 0 (take (j + 1) weights) ≡ ends_of 0 (take j weights) ++ (sum (take j weights) + weight) ∷ []
end_pushed weights j weight l e =
    let more : take (j + 1) weights ≡ take j weights ++ get_or weights j 0 ∷ [] = take_more weights j 0 l in
    let none : 0 + sum (take j weights) + weight ≡ sum (take j weights) + weight = omega arith in
    ap (ends_of 0) (more ∙ ap (λ w. take j weights ++ w ∷ []) e) ∙ (ends-more 0 (take j weights) weight ∙ ap (λ end. ends_of 0 (take j weights) ++ end ∷ []) none)
