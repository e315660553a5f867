-- The panel that is drawn is that of the row whose range has the ticket.
use Rattle.std.proofs.Common.{◌≡◌, ℕ, ◌+◌, ◌*◌, ◌/◌, ◌<◌, ◌≤◌, length, Bool, true, false, cond, not, List, Option, Some, None, pos, unsigned_abs, refl, sym, ◌∙◌, subst, arith}
use Rattle.std.specs.Prelude.{Result, Ok, Err, position, sum}
use Rattle.std.specs.Char.{is_ascii_digit}
use Rattle.std.specs.List.{range_with_len}
use Rattle.std.proofs.lemmas.Bool.{ltb-true}
use Rattle.std.proofs.lemmas.List.Sums.{sum-map}
use Rattle.define_pools.proofs.Found.{find-passes}
use Rattle.define_pools.specs.Lottery.{Lottery, TotalAgrees}
use Rattle.define_draws.specs.declared.Named.{Named}
use Rattle.define_draws.specs.declared.DiceStop.{DiceStop}
use Rattle.define_draws.specs.Dice.{first_accepted, group_at, group_size, is_accepted, name_ticket, named_at, named_but, groups_per_ticket}
use Rattle.define_draws.specs.Draw.{Drawn, Refused, draw, drawn_with, panel_at}
use Rattle.define_draws.specs.Seal.{is_seal}
use Rattle.define_draws.specs.Tickets.{HoldsTicket, row_of, weights_of}
use Rattle.define_draws.proofs.DiceLemmas.{ticket-below}
use Rattle.define_draws.proofs.TicketLemmas.{row_of_holds}

named_at-below : (total : ℕ) (digits : List ℕ) (found : Option ℕ) (named : Named) → 1 ≤ total →
    ((place : ℕ) → found ≡ Some place → is_accepted total (group_at (group_size total) digits place) ≡ true) → named_at total digits found ≡ Ok named → unsigned_abs named.ticket < total
named_at-below total digits (Some place) named some passes e =
    let group = group_at (group_size total) digits place in
    let less = ltb-true group (total * groups_per_ticket total) (passes place refl) in
    let ticket = ticket-below total group total some (omega arith) in
    let made : Named = record { ticket = pos (group / groups_per_ticket total); used = (place + 1) * group_size total } in
    let same : made ≡ named = cc in
    subst (λ (n : Named). unsigned_abs n.ticket < total) same ticket
named_at-below total digits None named some passes e = absurd cc

named_but-below : (total : ℕ) (digits : List ℕ) (other : Option ℕ) (named : Named) → 1 ≤ total → named_but total digits other ≡ Ok named → unsigned_abs named.ticket < total
named_but-below total digits (Some place) named some e = absurd cc
named_but-below total digits None named some e =
    named_at-below total digits (first_accepted total digits) named some
    (λ place found. find-passes (λ place. is_accepted total (group_at (group_size total) digits place)) (range_with_len 0 (length digits / group_size total)) place found) e

-- if digits name a ticket and the total is at least 1, the ticket is below the total
pub named-below : (total : ℕ) (digits : List ℕ) (named : Named) → 1 ≤ total → name_ticket total digits ≡ Ok named → unsigned_abs named.ticket < total
named-below total digits named some e = named_but-below total digits (position (λ byte. not (is_ascii_digit byte)) digits) named some e

-- the ticket is in the range of the row whose panel is drawn
abbrev IsOfRow : Lottery → Drawn → Type 0
IsOfRow lottery drawn = (row : ℕ) × (HoldsTicket (weights_of lottery) row drawn.ticket × (drawn.panel ≡ panel_at lottery row))

drawn_with-row : (lottery : Lottery) (naming : Result Named DiceStop) (drawn : Drawn) → ((named : Named) → naming ≡ Ok named → unsigned_abs named.ticket < sum (weights_of lottery)) →
    drawn_with lottery naming ≡ Ok drawn → IsOfRow lottery drawn
drawn_with-row lottery (Ok named) drawn below e =
    let ticket = unsigned_abs named.ticket in
    let row = row_of (weights_of lottery) ticket in
    let made : Drawn = record { ticket = ticket; used = named.used; panel = panel_at lottery row } in
    let same : made ≡ drawn = cc in
    subst (IsOfRow lottery) same (row, (row_of_holds (weights_of lottery) ticket (below named refl), refl))
drawn_with-row lottery (Err stop) drawn below e = absurd cc

pub draw-row : (lottery : Lottery) (kept given digits : List ℕ) (drawn : Drawn) → TotalAgrees lottery → 1 ≤ lottery.total → draw lottery kept given digits ≡ Ok drawn → IsOfRow lottery drawn
draw-row lottery kept given digits drawn agrees some e = by (is_seal kept given) e
  where
    below : (named : Named) → name_ticket lottery.total digits ≡ Ok named → unsigned_abs named.ticket < sum (weights_of lottery)
    below named e =
        let all : lottery.total ≡ sum (weights_of lottery) = agrees.total ∙ sym (sum-map (λ row. row.weight) lottery.rows) in
        let less = named-below lottery.total digits named some e in omega arith

    by : (b : Bool) → cond b (drawn_with lottery (name_ticket lottery.total digits)) (Err Refused.SealDiffers) ≡ Ok drawn → IsOfRow lottery drawn
    by true e = drawn_with-row lottery (name_ticket lottery.total digits) drawn below e
    by false e = absurd cc
