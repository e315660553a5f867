-- What a round keeps for its report, what was drawn in it, and what its report shows of that.
use Rattle.std.proofs.Common.{◌≡◌, ℕ, zero, suc, List, [], ◌∷◌, ◌++◌, unsigned_abs, Option, Some, None, refl, sym, ap, subst, ◌∙◌}
use Rattle.define_pools.specs.Lottery.{TotalAgrees}
use Rattle.define_pools.specs.Pool.{Pool}
use Rattle.define_bundles.specs.BundleText.{Bundle}
use Rattle.define_draws.specs.Draw as draws
use Rattle.define_offices.specs.Facts.{IsTables, KeepsRound}
use Rattle.define_offices.specs.Tables.{Round, Open, Solved, Sealed, Drawn, Tables, bundle_of, named_round, tickets_of}
use Rattle.define_offices.specs.Report.{bundle_lines, counted, draw_lines, lottery_lines, not_gone, seal_lines}
use Rattle.office_tables.specs.Parts.{digits_of}
use Rattle.office_reports.specs.Rounds.{HasPool, IsDrawnIn, IsOfPool, KeepsDraw, counted_with}
use Rattle.sealed_draw.specs.declared.drawn.Draw.{Draw}

-- ---- what a round keeps

keeps_draw : (tables : Tables) (round : Round) → KeepsRound tables round → KeepsDraw round
keeps_draw tables Open h = record { agrees = λ b e. absurd (cc); named = tt }
keeps_draw tables (Solved bundle) h = record { agrees = λ b e. (let same : bundle ≡ b = cc in subst (λ (k : Bundle). TotalAgrees k.answer.lottery) same h.total_agrees); named = tt }
keeps_draw tables (Sealed bundle tickets) h = record { agrees = λ b e. (let same : bundle ≡ b = cc in subst (λ (k : Bundle). TotalAgrees k.answer.lottery) same h.0.total_agrees); named = tt }
keeps_draw tables (Drawn bundle tickets digits dropped) h =
    record { agrees = λ b e. (let same : bundle ≡ b = cc in subst (λ (k : Bundle). TotalAgrees k.answer.lottery) same h.0.total_agrees); named = h.1.named }

pub round_keeps : (tables : Tables) → IsTables tables → (number : ℕ) (round : Round) → named_round tables.rounds number ≡ Some round → KeepsDraw round
round_keeps tables keeps zero round n = absurd (cc)
round_keeps tables keeps (suc place) round n = keeps_draw tables round (keeps.rounds place round n)

-- ---- the groups that are counted

pub members_are_of_pool : (round : Round) (pool : Pool) (drawn : Option Draw) → HasPool round pool → IsDrawnIn round drawn → IsOfPool pool drawn
members_are_of_pool round pool None h d = tt
members_are_of_pool Open pool (Some drawn) h d = absurd (cc)
members_are_of_pool (Solved bundle) pool (Some drawn) h d = absurd (cc)
members_are_of_pool (Sealed bundle tickets) pool (Some drawn) h d = absurd (cc)
members_are_of_pool (Drawn bundle tickets digits dropped) pool (Some drawn) h d = subst (λ (k : Pool). IsOfPool k (Some drawn)) (h bundle refl) d.members

pub groups_are_counted : (round : Round) (pool : Pool) (drawn : Option Draw) → IsDrawnIn round drawn → counted_with pool drawn ≡ counted pool round
groups_are_counted Open pool drawn d = ap (counted_with pool) d
groups_are_counted (Solved bundle) pool drawn d = ap (counted_with pool) d
groups_are_counted (Sealed bundle tickets) pool drawn d = ap (counted_with pool) d
groups_are_counted (Drawn bundle tickets digits dropped) pool None d = absurd d
groups_are_counted (Drawn bundle tickets digits dropped) pool (Some drawn) d = ap (λ (k : draws.Drawn). not_gone pool ∷ k.panel ∷ []) (sym d.is)

-- ---- the lines about the bundle of a drawn round

pub drawn_lines_are : (round : Round) (bundle : Bundle) (tickets : Option ℕ) (digits : List ℕ) (drawn : Draw) → bundle_of round ≡ Some bundle → IsDrawnIn round (Some drawn) → tickets ≡ tickets_of round →
    digits ≡ digits_of round →
    (lottery_lines bundle.answer.lottery ++ seal_lines bundle tickets) ++ draw_lines bundle.pool digits (record { ticket = unsigned_abs drawn.ticket; used = drawn.used; panel = drawn.panel }) ≡ bundle_lines round
drawn_lines_are Open bundle tickets digits drawn has d t g = absurd (cc)
drawn_lines_are (Solved kept) bundle tickets digits drawn has d t g = absurd (cc)
drawn_lines_are (Sealed kept of) bundle tickets digits drawn has d t g = absurd (cc)
drawn_lines_are (Drawn kept of thrown dropped) bundle tickets digits drawn has d t g =
    let same : bundle ≡ kept = cc in
    let seen : draws.Drawn = record { ticket = unsigned_abs drawn.ticket; used = drawn.used; panel = drawn.panel } in
    ap (λ (b : Bundle). (lottery_lines b.answer.lottery ++ seal_lines b tickets) ++ draw_lines b.pool digits seen) same
    ∙ (ap (λ (m : Option ℕ). (lottery_lines kept.answer.lottery ++ seal_lines kept m) ++ draw_lines kept.pool digits seen) t
    ∙ (ap (λ (thrown : List ℕ). (lottery_lines kept.answer.lottery ++ seal_lines kept of) ++ draw_lines kept.pool thrown seen) g
    ∙ ap (λ (one : draws.Drawn). (lottery_lines kept.answer.lottery ++ seal_lines kept of) ++ draw_lines kept.pool thrown one) (sym d.is)))
