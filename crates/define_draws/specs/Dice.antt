-- Dice: which of `total` tickets some digits name. The digits are read in groups of one size; a group names a ticket or is refused, so
-- that all tickets are named by equally many groups. `tickets` reads digits this way.
use Rattle.std.specs.Prelude.{ℕ, pos, zero, suc, ◌+◌, ◌*◌, ◌/◌, ◌^◌, ◌==◌, Bool, true, false, not, ◌&&◌, nat_le, nat_lt, List, length, take, drop, position, sum, Option, Some, None, Result, Ok, Err}
use Rattle.std.specs.Char.{is_ascii_digit}
use Rattle.std.specs.List.{find, range_with_len}
use Rattle.std.specs.Str.Parse.{digits_value}
use Rattle.define_draws.specs.declared.Named.{Named}
use Rattle.define_draws.specs.declared.DiceStop.{DiceStop}
use Rattle.define_draws.specs.declared.DiceStop.TheVariants.{BadDigit, MoreDigits}
use Rattle.define_draws.specs.Tickets.{row_of}

-- the least number `n` from `size` on with `total ≤ 10 ^ n`, or `size + steps` if no smaller `n` satisfies it
abbrev pub least_from : ℕ → ℕ → ℕ → ℕ
least_from total size zero = size
least_from total size (suc steps) = elim (nat_le total (10 ^ size)) [ true ↦ size | false ↦ least_from total (size + 1) steps ]

-- how many digits a group has: the least number, at least 1, for which there are at least as many groups as tickets
abbrev pub group_size : ℕ → ℕ
group_size total = least_from total 1 total

-- how many groups name one ticket
abbrev pub groups_per_ticket : ℕ → ℕ
groups_per_ticket total = 10 ^ group_size total / total

-- true if the group names a ticket
abbrev pub is_accepted : ℕ → ℕ → Bool
is_accepted total group = nat_lt group (total * groups_per_ticket total)

-- the ticket that an accepted group names
abbrev pub ticket_of : ℕ → ℕ → ℕ
ticket_of total group = group / groups_per_ticket total

-- true if the group is accepted, and its ticket is in the range of row `row`
abbrev pub names_row : List ℕ → ℕ → ℕ → Bool
names_row weights row group = is_accepted (sum weights) group && (row_of weights (ticket_of (sum weights) group) == row)

-- the group at `place`, counted from 0, as a number
abbrev pub group_at : ℕ → List ℕ → ℕ → ℕ
group_at size digits place = digits_value 10 (take size (drop (place * size) digits))

-- the place of the first group that is accepted, if there is one; an unfinished last group isn't read
abbrev pub first_accepted : ℕ → List ℕ → Option ℕ
first_accepted total digits =
    find (λ place. is_accepted total (group_at (group_size total) digits place)) (range_with_len 0 (length digits / group_size total))

-- the ticket that the group at the given place names; without a place, the answer that more digits are needed
abbrev pub named_at : ℕ → List ℕ → Option ℕ → Result Named DiceStop
named_at total digits (Some place) =
    Ok (record { ticket = pos (ticket_of total (group_at (group_size total) digits place)); used = (place + 1) * group_size total })
named_at total digits None = Err (MoreDigits (length digits))

-- what the digits name, given the place, from 0, of the first byte that is no digit. If there is such a byte, the error for it; else the
-- ticket, or the answer that more digits are needed
abbrev pub named_but : ℕ → List ℕ → Option ℕ → Result Named DiceStop
named_but total digits (Some place) = Err (BadDigit (place + 1))
named_but total digits None = named_at total digits (first_accepted total digits)

-- the ticket, of `total`, that the digits name, or why they name none
abbrev pub name_ticket : ℕ → List ℕ → Result Named DiceStop
name_ticket total digits = named_but total digits (position (λ byte. not (is_ascii_digit byte)) digits)
