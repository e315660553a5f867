-- The parts of shortening a lottery: a row's share, and the line that says which rows get a ticket that is left. The contracts of
-- `shares`, `lines` and `rows` cite it.
use Rattle.std.specs.Prelude.{◌≡◌, ℕ, ◌+◌, ◌*◌, ◌<◌, ◌≤◌, ◌==◌, nat_le, nat_lt, IsTrue, List, count_by, map}
use Rattle.std.specs.List.{list_all}
use Rattle.define_pools.specs.Lottery.{LotteryRow}
use Rattle.short_tickets.specs.declared.lines.Line.{Line}
use Rattle.short_tickets.specs.declared.shares.Share.{Share}

-- the share is `product` over `total`
pub record IsShare (total product : ℕ) (share : Share) : Type 0 where
  pub parts : share.whole * total + share.remainder ≡ product
  pub below : share.remainder < total

-- the rows above the line and the earliest `ties` rows on it are `left` rows in all
pub record IsLineFor (left : ℕ) (remainders : List ℕ) (line : Line) : Type 0 where
  pub all : count_by (λ other. nat_lt line.remainder other) remainders + line.ties ≡ left
  pub ties : line.ties ≤ count_by (λ other. other == line.remainder) remainders

abbrev pub weights_in : List LotteryRow → List ℕ
weights_in rows = map (λ row. row.weight) rows

-- each weight is at most the total
abbrev pub AreWithin : ℕ → List LotteryRow → Type 0
AreWithin total rows = IsTrue (list_all (λ row. nat_le row.weight total) rows)
