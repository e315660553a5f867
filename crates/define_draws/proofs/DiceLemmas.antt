-- How many digits a group has, how many groups name one ticket, and which groups name the tickets of a row.
use Rattle.std.proofs.Common.{◌≡◌, ℕ, zero, suc, ◌+◌, ◌-◌, ◌*◌, ◌^◌, ◌<◌, ◌≤◌, Bool, true, false, cond, eqb, leb, List, ◌∷◌, length, filter, get_or, refl, sym, ◌∙◌, arith, subst, ⊎_elim}
use Rattle.std.specs.Prelude.{sum}
use Rattle.std.specs.List.{range_with_len}
use Rattle.std.proofs.lemmas.Bool.{and_parts, eqb-true, eq-eqb, leb-true, leb-false, ltb-true, lt-ltb, false≢true, cases_lt}
use Rattle.std.proofs.lemmas.Nat.{le-div}
use Rattle.std.proofs.Math.Nat.{div-lt_iff_lt-mul, mul-div-le, mul-le-mul_left, pow-suc}
use Rattle.define_draws.specs.Dice.{group_size, is_accepted, least_from, names_row, groups_per_ticket, ticket_of}
use Rattle.define_draws.specs.Tickets.{HoldsTicket, first_ticket, row_of}
use Rattle.define_draws.proofs.TicketLemmas.{only_row, range_within, row_of_holds}

-- ---- the size of a group

pub least_from-le : (total size steps : ℕ) → size ≤ least_from total size steps
least_from-le total size zero = omega arith
least_from-le total size (suc steps) = by (leb total (10 ^ size)) (least_from-le total (size + 1) steps)
  where
    by : (b : Bool) → size + 1 ≤ least_from total (size + 1) steps → size ≤ elim b [ true ↦ size | false ↦ least_from total (size + 1) steps ]
    by true rest = omega arith
    by false rest = omega arith

pub least_from-enough : (total size steps : ℕ) → total ≤ 10 ^ (size + steps) → total ≤ 10 ^ least_from total size steps
least_from-enough total size zero h = let e : size + 0 ≡ size = omega arith in rw e at h
least_from-enough total size (suc steps) h =
    by (leb total (10 ^ size)) refl (least_from-enough total (size + 1) steps (let same : size + suc steps ≡ size + 1 + steps = omega arith in rw same at h))
  where
    by : (b : Bool) → leb total (10 ^ size) ≡ b → total ≤ 10 ^ least_from total (size + 1) steps → total ≤ 10 ^ (elim b [ true ↦ size | false ↦ least_from total (size + 1) steps ])
    by true e rest = leb-true total (10 ^ size) e
    by false e rest = rest

pub least_from-least : (total size steps other : ℕ) → size ≤ other → total ≤ 10 ^ other → least_from total size steps ≤ other
least_from-least total size zero other l h = l
least_from-least total size (suc steps) other l h = by (leb total (10 ^ size)) refl (λ k. least_from-least total (size + 1) steps other k h)
  where
    by : (b : Bool) → leb total (10 ^ size) ≡ b → (size + 1 ≤ other → least_from total (size + 1) steps ≤ other) → (elim b [ true ↦ size | false ↦ least_from total (size + 1) steps ]) ≤ other
    by true e rest = l
    by false e rest =
        let above = leb-false total (10 ^ size) e in
        let apart : size ≡ other → ⊥ = λ same. let g : total ≤ 10 ^ size = (rw same h) in omega arith in
        rest (omega (arith, apart))

pub below_power : (n : ℕ) → n < 10 ^ n
below_power zero = omega arith
below_power (suc n) = omega (arith, below_power n, pow-suc 10 n)

pub size-some : (total : ℕ) → 1 ≤ group_size total
size-some total = least_from-le total 1 total

pub size-enough : (total : ℕ) → total ≤ 10 ^ group_size total
size-enough total =
    let e : 1 + total ≡ suc total = omega arith in
    least_from-enough total 1 total (rw e (omega (arith, below_power (suc total))))

pub size-least : (total size : ℕ) → 1 ≤ size → total ≤ 10 ^ size → group_size total ≤ size
size-least total size l h = least_from-least total 1 total size l h

-- ---- the groups of a ticket

pub groups_per_ticket-some : (total : ℕ) → 1 ≤ total → 1 ≤ groups_per_ticket total
groups_per_ticket-some total h = le-div 1 (10 ^ group_size total) total h (omega (arith, size-enough total))

pub groups_per_ticket-within : (total : ℕ) → total * groups_per_ticket total ≤ 10 ^ group_size total
groups_per_ticket-within total = mul-div-le (10 ^ group_size total) total

pub ticket-below : (total group bound : ℕ) → 1 ≤ total → group < groups_per_ticket total * bound → ticket_of total group < bound
ticket-below total group bound h l = (div-lt_iff_lt-mul {k = groups_per_ticket total} {x = group} {y = bound} (groups_per_ticket-some total h)).1 (omega arith)

pub ticket-from : (total group bound : ℕ) → 1 ≤ total → groups_per_ticket total * bound ≤ group → bound ≤ ticket_of total group
ticket-from total group bound h l = le-div bound group (groups_per_ticket total) (groups_per_ticket-some total h) (omega arith)

pub below-ticket : (total group bound : ℕ) → 1 ≤ total → ticket_of total group < bound → group < groups_per_ticket total * bound
below-ticket total group bound h l = let g = (div-lt_iff_lt-mul {k = groups_per_ticket total} {x = group} {y = bound} (groups_per_ticket-some total h)).0 l in omega arith

pub from-ticket : (total group bound : ℕ) → 1 ≤ total → bound ≤ ticket_of total group → groups_per_ticket total * bound ≤ group
from-ticket total group bound h l = let g = mul-le-mul_left (groups_per_ticket total) l in omega (arith, mul-div-le group (groups_per_ticket total))

-- ---- the groups of a row

module _ (weights : List ℕ) (row : ℕ) (inside : row < length weights) (some : 1 ≤ sum weights) where
  abbrev m : ℕ
  m = groups_per_ticket (sum weights)

  abbrev from : ℕ
  from = m * first_ticket weights row

  abbrev to : ℕ
  to = m * (first_ticket weights row + get_or weights row 0)

  pub to-within : to ≤ sum weights * groups_per_ticket (sum weights)
  to-within = let l = mul-le-mul_left m (range_within weights row inside) in omega arith

  pub named-between : (group : ℕ) → names_row weights row group ≡ true → (from ≤ group) × (group < to)
  named-between group h =
      let parts = and_parts (is_accepted (sum weights) group) (eqb (row_of weights (ticket_of (sum weights) group)) row) h in
      let accepted = ltb-true group (sum weights * groups_per_ticket (sum weights)) parts.0 in
      let ticket = ticket-below (sum weights) group (sum weights) some (omega arith) in
      let same = eqb-true (row_of weights (ticket_of (sum weights) group)) row parts.1 in
      let holds : HoldsTicket weights row (ticket_of (sum weights) group) = subst (λ r. HoldsTicket weights r (ticket_of (sum weights) group)) same (row_of_holds weights (ticket_of (sum weights) group) ticket) in (
        from-ticket (sum weights) group (first_ticket weights row) some holds.first,
        below-ticket (sum weights) group (first_ticket weights row + get_or weights row 0) some holds.below,
      )

  pub between-named : (group : ℕ) → from ≤ group → group < to → names_row weights row group ≡ true
  between-named group l h =
      let accepted : group < sum weights * groups_per_ticket (sum weights) = omega (arith, to-within) in
      let first = ticket-from (sum weights) group (first_ticket weights row) some l in
      let below = ticket-below (sum weights) group (first_ticket weights row + get_or weights row 0) some h in
      let same = only_row weights row (ticket_of (sum weights) group) (record { exists = inside; first = first; below = below }) in
      rw (lt-ltb group (sum weights * groups_per_ticket (sum weights)) accepted) (eq-eqb (row_of weights (ticket_of (sum weights) group)) row (sym same))

-- let exactly the numbers in `low..high` pass a test, and let `high ≤ first + n`. Of the `n` numbers from `first` on, those below `high`
-- and at least `low` pass: `high - max low first` numbers
pub count_between : (p : ℕ → Bool) (low high : ℕ) → ((x : ℕ) → p x ≡ true → (low ≤ x) × (x < high)) → ((x : ℕ) → low ≤ x → x < high → p x ≡ true) →
    (first n : ℕ) → high ≤ first + n → length (filter p (range_with_len first n)) ≡ high - (low + (first - low))
count_between p low high is only first zero l = omega arith
count_between p low high is only first (suc n) l = by (p first) refl (count_between p low high is only (first + 1) n (omega arith))
  where
    by : (b : Bool) → p first ≡ b → length (filter p (range_with_len (first + 1) n)) ≡ high - (low + ((first + 1) - low)) →
        length (cond b (first ∷ filter p (range_with_len (first + 1) n)) (filter p (range_with_len (first + 1) n))) ≡ high - (low + (first - low))
    by true e rest = let a = is first e in omega (arith, a.0, a.1)
    by false e rest =
        ⊎_elim
        (λ (before : first < low). omega arith)
        (λ (after : low ≤ first).
        ⊎_elim
        (λ (here : first < high). absurd (false≢true (sym e ∙ only first after here)))
        (λ (behind : high ≤ first). omega arith)
        (cases_lt first high))
        (cases_lt first low)
