-- If `IsTables` holds of the tables, each round can be shown on a page: the weights of its bundle sum to its total, and the digits of its
-- draw name a ticket.
use Rattle.std.proofs.Common.{◌≡◌, ℕ, zero, suc, Some, subst}
use Rattle.define_bundles.specs.BundleText.{Bundle}
use Rattle.define_offices.specs.Facts.{IsTables, KeepsRound}
use Rattle.define_offices.specs.Tables.{Round, Open, Solved, Sealed, Drawn, Tables, named_round}
use Rattle.define_pools.specs.Lottery.{TotalAgrees}
use Rattle.office_reports.specs.Rounds.{KeepsDraw}

keeps_draw : (tables : Tables) (round : Round) → KeepsRound tables round → KeepsDraw round
keeps_draw tables Open h = record { agrees = λ b e. absurd (cc); named = tt }
keeps_draw tables (Solved bundle) h = record { agrees = λ b e. (let same : bundle ≡ b = cc in subst (λ (k : Bundle). TotalAgrees k.answer.lottery) same h.total_agrees); named = tt }
keeps_draw tables (Sealed bundle tickets) h = record { agrees = λ b e. (let same : bundle ≡ b = cc in subst (λ (k : Bundle). TotalAgrees k.answer.lottery) same h.0.total_agrees); named = tt }
keeps_draw tables (Drawn bundle tickets digits dropped) h =
    record { agrees = λ b e. (let same : bundle ≡ b = cc in subst (λ (k : Bundle). TotalAgrees k.answer.lottery) same h.0.total_agrees); named = h.1.named }

pub round_keeps : (tables : Tables) → IsTables tables → (number : ℕ) (round : Round) → named_round tables.rounds number ≡ Some round → KeepsDraw round
round_keeps tables keeps zero round n = absurd (cc)
round_keeps tables keeps (suc place) round n = keeps_draw tables round (keeps.rounds place round n)
