-- No list of whole numbers with the same sum is nearer to the rows' shares than their tickets are. The proof gives each ticket a price, the
-- same for all rows, at which each row's number of tickets is its best choice; the prices cancel in the sums.
use Rattle.std.proofs.Common.{◌≡◌, ℕ, zero, suc, ◌+◌, ◌-◌, ◌*◌, ◌<◌, ◌≤◌, Bool, true, false, cond, eqb, leb, ltb, List, get_or, length, map, refl, sym, ap, ap₂, ◌∙◌, arith, inl, inr, ◌⊎◌}
use Rattle.std.specs.Prelude.{sum}
use Rattle.std.proofs.lemmas.Bool.{cases_lt, ltb-true, ltb-false}
use Rattle.std.proofs.lemmas.List.{get_or-map, length-map}
use Rattle.std.proofs.lemmas.List.FromFn.{get_or-map-range_with_len, length-range_with_len}
use Rattle.std.proofs.lemmas.List.Sums.{sum-map}
use Rattle.std.proofs.lemmas.Nat.{mod_below}
use Rattle.std.proofs.Math.Nat.{mul-le-mul_right}
use Rattle.define_draws.specs.Short.{is_among_first, remainder, rows_before, tickets_at, tickets_by_weight, whole_tickets}
use Rattle.define_draws.specs.Shares.{distance, distance_from_share, distance_from_shares}
use Rattle.define_draws.proofs.ByPlace.{below, below-add, below-scaled, below-whole, below_le, below_same, sum-places, sum_by-places}
use Rattle.define_draws.proofs.Ranks.{IsLine, above_is_first, below_is_not}
use Rattle.define_draws.proofs.Tickets.{left, line_of, remainder_at, remainders, share_parts, sum-tickets}

-- ---- the best number of tickets for one row

-- If each ticket has the price `2 * line - total`, no number of tickets has a lower sum of distance and price than the row's own: `whole`
-- if its remainder is at most the line, and `whole + 1` if it is at least the line. What is subtracted on one side is added on the other,
-- so that no number is below 0.
down_best : (total share whole rest line other : ℕ) → share ≡ whole * total + rest → rest < total → rest ≤ line → line ≤ total →
    distance (whole * total) share + (2 * line) * whole + total * other ≤ distance (other * total) share + (2 * line) * other + total * whole
down_best total share whole rest line other e small low most = by (cases_lt whole other)
  where
    by : (whole < other) ⊎ (other ≤ whole) →
        distance (whole * total) share + (2 * line) * whole + total * other ≤ distance (other * total) share + (2 * line) * other + total * whole
    by (inl more) =
        let n = other - whole - 1 in
        let is : other ≡ whole + 1 + n = omega arith in
        rw (is, e) (omega (arith, mul-le-mul_right n low))
    by (inr less) =
        let n = whole - other in
        let is : whole ≡ other + n = omega arith in
        rw (e, is) (omega (arith, mul-le-mul_right n most))

up_best : (total share whole rest line other : ℕ) → share ≡ whole * total + rest → rest < total → line ≤ rest → line ≤ total →
    distance ((whole + 1) * total) share + (2 * line) * (whole + 1) + total * other ≤ distance (other * total) share + (2 * line) * other + total * (whole + 1)
up_best total share whole rest line other e small high most = by (cases_lt whole other)
  where
    by : (whole < other) ⊎ (other ≤ whole) →
        distance ((whole + 1) * total) share + (2 * line) * (whole + 1) + total * other ≤ distance (other * total) share + (2 * line) * other + total * (whole + 1)
    by (inl more) =
        let n = other - whole - 1 in
        let is : other ≡ whole + 1 + n = omega arith in
        rw (is, e) (omega arith)
    by (inr less) =
        let n = whole - other in
        let is : whole ≡ other + n = omega arith in
        rw (e, is) (omega (arith, mul-le-mul_right n most))

-- ---- the sum over all rows

module _ (total tickets : ℕ) (weights : List ℕ) (agrees : total ≡ sum weights) (some : 1 ≤ total) (counts : List ℕ) (size : length counts ≡ length weights) (same : sum counts ≡ tickets) where
  abbrev line : ℕ
  line = (line_of total tickets weights agrees some).0

  abbrev own : ℕ → ℕ
  own place = tickets_at total tickets weights place

  abbrev from_share : ℕ → ℕ → ℕ
  from_share place count = distance_from_share total tickets (get_or weights place 0) count

  best_at : (place : ℕ) → place < length weights →
      from_share place (own place) + (2 * line) * own place + total * get_or counts place 0
      ≤ from_share place (get_or counts place 0) + (2 * line) * get_or counts place 0 + total * own place
  best_at place l =
      let weight = get_or weights place 0 in
      by (is_among_first (left total tickets weights agrees some) (remainders total tickets weights agrees some) place) refl
      (omega (arith, length-map weights (remainder total tickets)))
      (remainder_at total tickets weights agrees some place l) (sym (share_parts total tickets weight)) (mod_below (weight * tickets) total some)
      (line_of total tickets weights agrees some).1.0
    where
      by : (b : Bool) → is_among_first (left total tickets weights agrees some) (remainders total tickets weights agrees some) place ≡ b →
          place < length (remainders total tickets weights agrees some) →
          get_or (remainders total tickets weights agrees some) place 0 ≡ remainder total tickets (get_or weights place 0) →
          get_or weights place 0 * tickets ≡ whole_tickets total tickets (get_or weights place 0) * total + remainder total tickets (get_or weights place 0) →
          remainder total tickets (get_or weights place 0) < total → line ≤ total →
          from_share place (whole_tickets total tickets (get_or weights place 0) + cond b 1 0)
          + (2 * line) * (whole_tickets total tickets (get_or weights place 0) + cond b 1 0) + total * get_or counts place 0
          ≤ from_share place (get_or counts place 0) + (2 * line) * get_or counts place 0 + total * (whole_tickets total tickets (get_or weights place 0) + cond b 1 0)
      by true e inside here share small most =
          up_best total (get_or weights place 0 * tickets) (whole_tickets total tickets (get_or weights place 0)) (remainder total tickets (get_or weights place 0)) line (get_or counts place 0)
          share small (above_line (cases_lt (get_or (remainders total tickets weights agrees some) place 0) line)) most
        where
          above_line : (get_or (remainders total tickets weights agrees some) place 0 < line) ⊎ (line ≤ get_or (remainders total tickets weights agrees some) place 0) →
              line ≤ remainder total tickets (get_or weights place 0)
          above_line (inl less) =
              let no = below_is_not (left total tickets weights agrees some) (remainders total tickets weights agrees some) line (line_of total tickets weights agrees some).1.1 place inside less in
              let yes = ltb-true (rows_before (remainders total tickets weights agrees some) place) (left total tickets weights agrees some) e in
              absurd (omega (arith, no, yes))
          above_line (inr more) = omega (arith, here)
      by false e inside here share small most =
          let nothing : whole_tickets total tickets (get_or weights place 0) + 0 ≡ whole_tickets total tickets (get_or weights place 0) = omega arith in
          rw nothing
          (down_best total (get_or weights place 0 * tickets) (whole_tickets total tickets (get_or weights place 0)) (remainder total tickets (get_or weights place 0)) line (get_or counts place 0)
          share small (below_line (cases_lt line (get_or (remainders total tickets weights agrees some) place 0))) most)
        where
          below_line : (line < get_or (remainders total tickets weights agrees some) place 0) ⊎ (get_or (remainders total tickets weights agrees some) place 0 ≤ line) →
              remainder total tickets (get_or weights place 0) ≤ line
          below_line (inl more) =
              let yes = above_is_first (left total tickets weights agrees some) (remainders total tickets weights agrees some) line (line_of total tickets weights agrees some).1.1 place inside more in
              let no = ltb-false (rows_before (remainders total tickets weights agrees some) place) (left total tickets weights agrees some) e in
              absurd (omega (arith, no, yes))
          below_line (inr less) = omega (arith, here)

  pub nearest : distance_from_shares total tickets weights (tickets_by_weight total tickets weights) ≤ distance_from_shares total tickets weights counts
  nearest =
      let n = length weights in
      let others : ℕ → ℕ = λ place. get_or counts place 0 in
      let mine : ℕ → ℕ = λ place. get_or (tickets_by_weight total tickets weights) place 0 in
      let at : (place : ℕ) → place < n → mine place ≡ own place =
      λ place l. get_or-map-range_with_len (tickets_at total tickets weights) 0 n place place 0 l (omega arith) in
      let le = below_le (λ place. from_share place (own place) + (2 * line) * own place + total * others place)
      (λ place. from_share place (others place) + (2 * line) * others place + total * own place) n best_at in
      let sums : below own n ≡ tickets = sym (sum-places own n) ∙ sum-tickets total tickets weights agrees some in
      let whole : below others n ≡ tickets =
      ap (below others) (sym size) ∙ (below-whole (λ (x : ℕ). x) counts 0 ∙ same) in
      let first = below_three (λ place. from_share place (own place)) own others (2 * line) total n in
      let second = below_three (λ place. from_share place (others place)) others own (2 * line) total n in
      let left_sum : distance_from_shares total tickets weights (tickets_by_weight total tickets weights) ≡ below (λ place. from_share place (own place)) n =
      sum_by-places (λ place. from_share place (mine place)) n ∙ below_same (λ place. from_share place (mine place)) (λ place. from_share place (own place)) n
      (λ place l. ap (from_share place) (at place l)) in
      let right_sum : distance_from_shares total tickets weights counts ≡ below (λ place. from_share place (others place)) n =
      sum_by-places (λ place. from_share place (others place)) n in
      let own_prices : (2 * line) * below own n ≡ (2 * line) * tickets = ap (λ s. (2 * line) * s) sums in
      let other_prices : (2 * line) * below others n ≡ (2 * line) * tickets = ap (λ s. (2 * line) * s) whole in
      let own_totals : total * below own n ≡ total * tickets = ap (λ s. total * s) sums in
      let other_totals : total * below others n ≡ total * tickets = ap (λ s. total * s) whole in
      cancelled (distance_from_shares total tickets weights (tickets_by_weight total tickets weights)) (distance_from_shares total tickets weights counts)
      (below (λ place. from_share place (own place)) n) (below (λ place. from_share place (others place)) n)
      ((2 * line) * below own n) ((2 * line) * below others n) (total * below own n) (total * below others n) ((2 * line) * tickets) (total * tickets)
      left_sum right_sum own_prices other_prices own_totals other_totals
      (joined first second le)
    where
      below_three : (f g h : ℕ → ℕ) (a b n : ℕ) → below (λ k. f k + a * g k + b * h k) n ≡ below f n + a * below g n + b * below h n
      below_three f g h a b n =
          below-add (λ k. f k + a * g k) (λ k. b * h k) n
          ∙ ap₂ (λ (s t : ℕ). s + t) (below-add f (λ k. a * g k) n ∙ ap (λ s. below f n + s) (below-scaled g a n)) (below-scaled h b n)

      joined : {a b c d : ℕ} → a ≡ b → c ≡ d → a ≤ c → b ≤ d
      joined e f h = omega arith

      cancelled : (x y a b p q r s m t : ℕ) → x ≡ a → y ≡ b → p ≡ m → q ≡ m → r ≡ t → s ≡ t → a + p + s ≤ b + q + r → x ≤ y
      cancelled x y a b p q r s m t e f g h i j le = omega arith
