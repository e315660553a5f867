-- What digits draw from a lottery, and in a round with a bundle. The promise of `drawn_by` cites it, and so do contracts of `office_desk`
-- and `office_reports`.
use Rattle.std.specs.Prelude.{◌≡◌, ◌≤ℤ◌, ℕ, nat_lt, pos, unsigned_abs, IsTrue, List, length, Option, Some, None, is_ok, true, false}
use Rattle.std.specs.List.{list_all}
use Rattle.define_pools.specs.Lottery.{Lottery}
use Rattle.define_bundles.specs.BundleText.{Bundle}
use Rattle.define_draws.specs.Dice.{name_ticket}
use Rattle.define_offices.specs.Pools.{drawn_from, drawn_lottery}
use Rattle.sealed_draw.specs.declared.drawn.Draw.{Draw}

-- the digits name a ticket of the lottery; `drawn` has this ticket, its panel, and how many digits were used; the panel's members are among
-- the volunteers
pub record Draws (lottery : Lottery) (volunteers : ℕ) (digits : List ℕ) (drawn : Draw) : Type 0 where
  pub named : is_ok (name_ticket lottery.total digits) ≡ true
  pub from : pos 0 ≤ℤ drawn.ticket
  pub members : IsTrue (list_all (λ i. nat_lt i volunteers) drawn.panel)
  pub is : drawn_from lottery digits ≡ record { ticket = unsigned_abs drawn.ticket; used = drawn.used; panel = drawn.panel }

abbrev pub IsDrawnFrom : Lottery → ℕ → List ℕ → Option Draw → Type 0
IsDrawnFrom lottery volunteers digits None = is_ok (name_ticket lottery.total digits) ≡ false
IsDrawnFrom lottery volunteers digits (Some drawn) = Draws lottery volunteers digits drawn

-- what the digits draw in a round with this bundle, if `tickets` were kept with its seal
abbrev pub IsDrawnBy : Bundle → Option ℕ → List ℕ → Option Draw → Type 0
IsDrawnBy bundle tickets digits drawn = IsDrawnFrom (drawn_lottery bundle tickets) (length bundle.pool.volunteers) digits drawn
