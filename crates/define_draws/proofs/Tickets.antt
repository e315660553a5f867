-- How many tickets each row gets: together they are all tickets, and each row's number is near its share.
use Rattle.std.proofs.Common.{◌≡◌, ℕ, zero, suc, ◌+◌, ◌-◌, ◌*◌, ◌/◌, ◌%◌, ◌<◌, ◌≤◌, Bool, true, false, cond, leb, ltb, List, [], ◌∷◌, drop, get_or, length, map, take, refl, sym, ap, ap₂, ◌∙◌, arith, inl, inr, ◌⊎◌}
use Rattle.std.specs.Prelude.{count_by, sum}
use Rattle.std.specs.List.{All, sum_by}
use Rattle.std.proofs.lemmas.Bool.{cases_lt, le-leb, le-ltb, leb-true, lt-ltb, ltb-true, ltb-false}
use Rattle.std.proofs.lemmas.List.{get_or-map, length-map}
use Rattle.std.proofs.lemmas.List.Sums.{count_by-le-length, sum-map, sum_by-cons}
use Rattle.std.proofs.lemmas.Nat.{div-add-mod', mod_below}
use Rattle.std.proofs.Math.Nat.{mul-le-mul_right}
use Rattle.define_pools.proofs.Sums.{one_if}
use Rattle.define_draws.proofs.TicketLemmas.{sum-cons}
use Rattle.define_draws.specs.Short.{is_among_first, remainder, rows_before, tickets_at, tickets_by_weight, tickets_left, whole_tickets}
use Rattle.define_draws.specs.Shares.{distance_from_share}
use Rattle.define_draws.proofs.ByPlace.{below, below-add, below-whole, below_same, le_unscaled, sum-places}
use Rattle.define_draws.proofs.Ranks.{IsLine, above, at_least, count_le, count_split, find_line, given_all}

-- the whole tickets times the total, plus the remainder, are the row's share times the total
pub share_parts : (total tickets weight : ℕ) → whole_tickets total tickets weight * total + remainder total tickets weight ≡ weight * tickets
share_parts total tickets weight = div-add-mod' (weight * tickets) total

pub shares_parts : (total tickets : ℕ) (weights : List ℕ) →
    sum (map (whole_tickets total tickets) weights) * total + sum (map (remainder total tickets) weights) ≡ sum weights * tickets
shares_parts total tickets [] = omega arith
shares_parts total tickets (weight ∷ weights) =
    let whole = whole_tickets total tickets weight in
    let rest = remainder total tickets weight in
    let wholes = sum (map (whole_tickets total tickets) weights) in
    let rests = sum (map (remainder total tickets) weights) in
    let here : whole * total + rest ≡ weight * tickets = share_parts total tickets weight in
    let there : wholes * total + rests ≡ sum weights * tickets = shares_parts total tickets weights in
    let first : sum (map (whole_tickets total tickets) (weight ∷ weights)) ≡ whole + wholes = sum-cons whole (map (whole_tickets total tickets) weights) in
    let second : sum (map (remainder total tickets) (weight ∷ weights)) ≡ rest + rests = sum-cons rest (map (remainder total tickets) weights) in
    let third : sum (weight ∷ weights) ≡ weight + sum weights = sum-cons weight weights in
    rw (first, second, third) (joined whole wholes total rest rests weight (sum weights) tickets here there)
  where
    joined : (a b t c d w v m : ℕ) → a * t + c ≡ w * m → b * t + d ≡ v * m → (a + b) * t + (c + d) ≡ (w + v) * m
    joined a b t c d w v m e f = omega (arith, e, f)

-- each remainder is below the total, so the remainders sum to at most the total times the number of remainders above 0
remainders_small : (total tickets : ℕ) (weights : List ℕ) → 1 ≤ total → sum (map (remainder total tickets) weights) ≤ above 0 (map (remainder total tickets) weights) * total
remainders_small total tickets [] some = omega arith
remainders_small total tickets (weight ∷ weights) some =
    let rest = remainder total tickets weight in
    let rests = map (remainder total tickets) weights in
    let here : rest < total = mod_below (weight * tickets) total some in
    let there = remainders_small total tickets weights some in
    let first : sum (rest ∷ rests) ≡ rest + sum rests = sum-cons rest rests in
    let second : above 0 (rest ∷ rests) ≡ one_if (ltb 0 rest) + above 0 rests = sum_by-cons (λ x. one_if (ltb 0 x)) rest rests in
    rw (first, second) (by (cases_lt 0 rest) here there)
  where
    by : (0 < remainder total tickets weight) ⊎ (remainder total tickets weight ≤ 0) → remainder total tickets weight < total →
        sum (map (remainder total tickets) weights) ≤ above 0 (map (remainder total tickets) weights) * total →
        remainder total tickets weight + sum (map (remainder total tickets) weights)
        ≤ (one_if (ltb 0 (remainder total tickets weight)) + above 0 (map (remainder total tickets) weights)) * total
    by (inl l) here there = rw (lt-ltb 0 (remainder total tickets weight) l) (omega arith)
    by (inr l) here there = rw (le-ltb 0 (remainder total tickets weight) l) (omega arith)

taken : (a b n t s : ℕ) → a + b ≡ n → b * t + s ≡ n * t → a * t ≡ s
taken a b n t s e p = let m : n * t ≡ (a + b) * t = ap (λ z. z * t) (sym e) in omega (arith, p, m)

module _ (total tickets : ℕ) (weights : List ℕ) (agrees : total ≡ sum weights) (some : 1 ≤ total) where
  abbrev pub wholes : ℕ
  wholes = sum (map (whole_tickets total tickets) weights)

  abbrev pub remainders : List ℕ
  remainders = map (remainder total tickets) weights

  abbrev pub left : ℕ
  left = tickets_left total tickets weights

  parts : wholes * total + sum remainders ≡ tickets * total
  parts = shares_parts total tickets weights ∙ (let e : sum weights * tickets ≡ tickets * total = rw agrees (omega arith) in e)

  pub wholes_within : wholes ≤ tickets
  wholes_within = le_unscaled wholes tickets total some (omega (arith, parts))

  left_times : left * total ≡ sum remainders
  left_times = taken left wholes tickets total (sum remainders) (omega (arith, wholes_within)) parts

  -- at most as many tickets are left as there are rows with a remainder
  pub left_within : left ≤ above 0 remainders
  left_within = le_unscaled left (above 0 remainders) total some (omega (arith, left_times, remainders_small total tickets weights some))

  pub left-le-length : left ≤ length remainders
  left-le-length = omega (arith, left_within, count_by-le-length (λ x. ltb 0 x) remainders)

  none_above : above total remainders ≡ 0
  none_above = by weights
    where
      by : (ws : List ℕ) → above total (map (remainder total tickets) ws) ≡ 0
      by [] = refl
      by (weight ∷ ws) =
          let here : remainder total tickets weight < total = mod_below (weight * tickets) total some in
          omega (
            arith,
            sum_by-cons (λ x. one_if (ltb total x)) (remainder total tickets weight) (map (remainder total tickets) ws),
            by ws,
            ap one_if (le-ltb total (remainder total tickets weight) (omega arith)),
          )

  -- there is a line, at most the total, for the tickets that are left
  pub line_of : (line : ℕ) × ((line ≤ total) × IsLine left remainders line)
  line_of = find_line left remainders total left-le-length (omega (arith, none_above))

  pub remainder_at : (place : ℕ) → place < length weights → get_or remainders place 0 ≡ remainder total tickets (get_or weights place 0)
  remainder_at place l = get_or-map (remainder total tickets) weights place 0 0 l

  pub sum-tickets : sum (tickets_by_weight total tickets weights) ≡ tickets
  sum-tickets =
      let size : length remainders ≡ length weights = length-map weights (remainder total tickets) in
      let given : below (λ place. one_if (is_among_first left remainders place)) (length weights) ≡ left =
      ap (below (λ place. one_if (is_among_first left remainders place))) (sym size) ∙ given_all left remainders line_of.0 line_of.1.1 in
      let whole : below (λ place. whole_tickets total tickets (get_or weights place 0)) (length weights) ≡ wholes =
      below-whole (whole_tickets total tickets) weights 0 ∙ sym (sum-map (whole_tickets total tickets) weights) in
      let both = below-add (λ place. whole_tickets total tickets (get_or weights place 0)) (λ place. one_if (is_among_first left remainders place)) (length weights) in
      sum-places (tickets_at total tickets weights) (length weights) ∙ (both ∙ (ap₂ (λ (a b : ℕ). a + b) whole given ∙ (let e : wholes + left ≡ tickets = omega (arith, wholes_within) in e)))

  -- a row without a remainder gets none of the tickets that are left
  some_remainder : (place : ℕ) → place < length weights → is_among_first left remainders place ≡ true → 0 < remainder total tickets (get_or weights place 0)
  some_remainder place l first = by (cases_lt 0 (remainder total tickets (get_or weights place 0)))
    where
      by : (0 < remainder total tickets (get_or weights place 0)) ⊎ (remainder total tickets (get_or weights place 0) ≤ 0) → 0 < remainder total tickets (get_or weights place 0)
      by (inl h) = h
      by (inr h) =
          let zero : get_or remainders place 0 ≡ 0 = omega (arith, remainder_at place l) in
          let own = get_or remainders place 0 in
          let before = count_le (λ x. ltb 0 x) (λ x. leb own x) (take place remainders) (λ x e. le-leb own x (let m = ltb-true 0 x e in omega arith)) in
          let behind = count_le (λ x. ltb 0 x) (λ x. ltb own x) (drop (place + 1) remainders) (λ x e. lt-ltb own x (let m = ltb-true 0 x e in omega arith)) in
          let inside : place < length remainders = omega (arith, length-map weights (remainder total tickets)) in
          let split = count_split (λ x. ltb 0 x) remainders place inside in
          let none : one_if (ltb 0 own) ≡ 0 = ap one_if (le-ltb 0 own (omega arith)) in
          let less = ltb-true (rows_before remainders place) left first in
          absurd (omega (arith, before, behind, split, none, less, left_within))

  pub near_share : (place : ℕ) → place < length weights → distance_from_share total tickets (get_or weights place 0) (tickets_at total tickets weights place) < total
  near_share place l =
      let weight = get_or weights place 0 in
      by (is_among_first left remainders place) refl (share_parts total tickets weight) (mod_below (weight * tickets) total some)
    where
      by : (b : Bool) → is_among_first left remainders place ≡ b →
          whole_tickets total tickets (get_or weights place 0) * total + remainder total tickets (get_or weights place 0) ≡ get_or weights place 0 * tickets →
          remainder total tickets (get_or weights place 0) < total →
          distance_from_share total tickets (get_or weights place 0) (whole_tickets total tickets (get_or weights place 0) + cond b 1 0) < total
      by true e share small = let h = some_remainder place l e in omega arith
      by false e share small = omega arith
