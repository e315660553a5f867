-- What holds of the bundle of a round from which a panel is drawn.
use Rattle.std.proofs.Common.{◌≡◌, ◌∙◌, ℕ, zero, suc, true, ltb, ℤ, pos, unsigned_abs, List, length, Option, Some, Result, IfOk, IsTrue, is_ok, refl, ap, ap₂, subst}
use Rattle.std.specs.List.{list_all}
use Rattle.define_pools.specs.Lottery.{TotalAgrees}
use Rattle.define_bundles.specs.BundleText.{Bundle}
use Rattle.define_draws.specs.Dice.{name_ticket}
use Rattle.define_draws.specs.Draw.{draw}
use Rattle.define_draws.specs.ShortBundle.{shortened_bundle}
use Rattle.define_offices.specs.declared.Phase.TheVariants as phase
use Rattle.define_offices.specs.Commands.{SealTold}
use Rattle.define_offices.specs.Deciding.{changes, draw_in, new_draw, same_draw, same_seal, seal_in}
use Rattle.define_offices.specs.Facts.{IsTables, KeepsBundle, KeepsRound}
use Rattle.define_draws.specs.Lines.{bundle_seal, seal_line}
use Rattle.define_offices.specs.Pools.{drawn_lottery}
use Rattle.define_offices.specs.Tables.{Round, Open, Solved, Sealed, Drawn, Tables, bundle_of, named_round, phase_of, tickets_of}
use Rattle.office_tables.specs.Parts.{digits_of, dropped_of}
use Rattle.sealed_draw.specs.Answers.{DrawSays}
use Rattle.sealed_draw.specs.declared.drawn.Draw.{Draw}
use Rattle.sealed_draw.specs.declared.drawn.DrawStop.{DrawStop}

named_keeps : (tables : Tables) (number : ℕ) (round : Round) → IsTables tables → named_round tables.rounds number ≡ Some round → KeepsRound tables round
named_keeps tables zero round is named = absurd cc
named_keeps tables (suc place) round is named = is.rounds place round named

bundle_keeps : (tables : Tables) (round : Round) (bundle : Bundle) → KeepsRound tables round → bundle_of round ≡ Some bundle → KeepsBundle tables bundle
bundle_keeps tables Open bundle keeps has = absurd cc
bundle_keeps tables (Solved kept) bundle keeps has = let same : kept ≡ bundle = cc in subst (KeepsBundle tables) same keeps
bundle_keeps tables (Sealed kept tickets) bundle keeps has = let same : kept ≡ bundle = cc in subst (KeepsBundle tables) same keeps.0
bundle_keeps tables (Drawn kept tickets digits dropped) bundle keeps has = let same : kept ≡ bundle = cc in subst (KeepsBundle tables) same keeps.0

-- the weights of the bundle's lottery sum to its total
pub bundle_agrees : (tables : Tables) (number : ℕ) (round : Round) (bundle : Bundle) → IsTables tables → named_round tables.rounds number ≡ Some round →
    bundle_of round ≡ Some bundle → TotalAgrees bundle.answer.lottery
bundle_agrees tables number round bundle is named has = (bundle_keeps tables round bundle (named_keeps tables number round is named) has).total_agrees

-- ---- rounds by their parts

round_is_sealed : (round : Round) (bundle : Bundle) → phase_of round ≡ phase.Sealed → bundle_of round ≡ Some bundle → round ≡ Sealed bundle (tickets_of round)
round_is_sealed Open bundle sealed has = absurd cc
round_is_sealed (Solved kept) bundle sealed has = absurd cc
round_is_sealed (Sealed kept tickets) bundle sealed has = cc
round_is_sealed (Drawn kept tickets digits dropped) bundle sealed has = absurd cc

round_is_drawn : (round : Round) (bundle : Bundle) → phase_of round ≡ phase.Drawn → bundle_of round ≡ Some bundle →
    round ≡ Drawn bundle (tickets_of round) (digits_of round) (dropped_of round)
round_is_drawn Open bundle drawn has = absurd cc
round_is_drawn (Solved kept) bundle drawn has = absurd cc
round_is_drawn (Sealed kept tickets) bundle drawn has = absurd cc
round_is_drawn (Drawn kept tickets digits dropped) bundle drawn has = cc

-- the digits that drew a round name a ticket of the lottery that it draws from
pub digits_name : (tables : Tables) (number : ℕ) (round : Round) (bundle : Bundle) (tickets : Option ℕ) (thrown : List ℕ) → IsTables tables → named_round tables.rounds number ≡ Some round →
    phase_of round ≡ phase.Drawn → bundle_of round ≡ Some bundle → tickets_of round ≡ tickets → digits_of round ≡ thrown →
    IsTrue (is_ok (name_ticket (drawn_lottery bundle tickets).total thrown))
digits_name tables number round bundle tickets thrown is named drawn has kept threw =
    let keeps = subst (KeepsRound tables) (round_is_drawn round bundle drawn has) (named_keeps tables number round is named) in
    subst (λ t. IsTrue (is_ok (name_ticket (drawn_lottery bundle tickets).total t))) threw
    (subst (λ (m : Option ℕ). IsTrue (is_ok (name_ticket (drawn_lottery bundle m).total (digits_of round)))) kept keeps.1.named)

-- ---- the outcomes of draws

-- if a round is sealed, a draw from it has the outcome of `new_draw`
pub drawn_first : (tables : Tables) (number : ℕ) (given digits : List ℕ) (round : Round) (bundle : Bundle) (tickets : Option ℕ) → named_round tables.rounds number ≡ Some round →
    phase_of round ≡ phase.Sealed → bundle_of round ≡ Some bundle → tickets_of round ≡ tickets →
    draw_in tables number given digits (named_round tables.rounds number) ≡ new_draw number bundle given digits (draw (drawn_lottery bundle tickets) (bundle_seal bundle) given digits)
drawn_first tables number given digits round bundle tickets named sealed has kept =
    ap (draw_in tables number given digits) named ∙ (ap (λ r. draw_in tables number given digits (Some r)) (round_is_sealed round bundle sealed has)
    ∙ ap (λ (m : Option ℕ). new_draw number bundle given digits (draw (drawn_lottery bundle m) (bundle_seal bundle) given digits)) kept)

-- if a round is drawn already, a draw from it has the outcome of `same_draw`
pub drawn_again : (tables : Tables) (number : ℕ) (given digits : List ℕ) (round : Round) (bundle : Bundle) (tickets : Option ℕ) (thrown : List ℕ) → named_round tables.rounds number ≡ Some round →
    phase_of round ≡ phase.Drawn → bundle_of round ≡ Some bundle → tickets_of round ≡ tickets → digits_of round ≡ thrown →
    draw_in tables number given digits (named_round tables.rounds number) ≡ same_draw bundle tickets thrown given digits
drawn_again tables number given digits round bundle tickets thrown named drawn has kept threw =
    ap (draw_in tables number given digits) named ∙ (ap (λ r. draw_in tables number given digits (Some r)) (round_is_drawn round bundle drawn has)
    ∙ ap₂ (λ (m : Option ℕ) (t : List ℕ). same_draw bundle m t given digits) kept threw)

-- ---- the outcomes of seals

seal_first : (tables : Tables) (number : ℕ) (given : Option ℕ) (round : Round) (bundle : Bundle) → phase_of round ≡ phase.Solved → bundle_of round ≡ Some bundle →
    seal_in tables number given (Some round) ≡ changes (SealTold number given) (seal_line bundle)
seal_first tables number given Open bundle solved has = absurd cc
seal_first tables number given (Solved kept) bundle solved has = let same : kept ≡ bundle = cc in ap (λ (b : Bundle). changes (SealTold number given) (seal_line b)) same
seal_first tables number given (Sealed kept tickets) bundle solved has = absurd cc
seal_first tables number given (Drawn kept tickets digits dropped) bundle solved has = absurd cc

-- if a round is solved, a seal of it has the outcome of a first seal
pub sealed_first : (tables : Tables) (number : ℕ) (given : Option ℕ) (round : Round) (bundle : Bundle) → named_round tables.rounds number ≡ Some round → phase_of round ≡ phase.Solved →
    bundle_of round ≡ Some bundle → seal_in tables number given (named_round tables.rounds number) ≡ changes (SealTold number given) (seal_line bundle)
sealed_first tables number given round bundle named solved has = ap (seal_in tables number given) named ∙ seal_first tables number given round bundle solved has

seal_again : (tables : Tables) (number : ℕ) (given : Option ℕ) (round : Round) (bundle : Bundle) → (phase_of round ≡ phase.Solved → ⊥) → bundle_of round ≡ Some bundle →
    seal_in tables number given (Some round) ≡ same_seal bundle (tickets_of round) given
seal_again tables number given Open bundle other has = absurd cc
seal_again tables number given (Solved kept) bundle other has = absurd (other refl)
seal_again tables number given (Sealed kept tickets) bundle other has = let same : kept ≡ bundle = cc in ap (λ (b : Bundle). same_seal b tickets given) same
seal_again tables number given (Drawn kept tickets digits dropped) bundle other has = let same : kept ≡ bundle = cc in ap (λ (b : Bundle). same_seal b tickets given) same

-- if a round has a bundle and isn't solved, it is sealed already, and a seal of it has the outcome of `same_seal`
pub sealed_again : (tables : Tables) (number : ℕ) (given : Option ℕ) (round : Round) (bundle : Bundle) (tickets : Option ℕ) → named_round tables.rounds number ≡ Some round →
    (phase_of round ≡ phase.Solved → ⊥) → bundle_of round ≡ Some bundle → tickets_of round ≡ tickets →
    seal_in tables number given (named_round tables.rounds number) ≡ same_seal bundle tickets given
sealed_again tables number given round bundle tickets named other has kept =
    ap (seal_in tables number given) named ∙ (seal_again tables number given round bundle other has ∙ ap (λ (m : Option ℕ). same_seal bundle m given) kept)

-- ---- draws from a shortened lottery

short_is : (bundle short : Bundle) (tickets : ℕ) (n : ℤ) → short ≡ shortened_bundle bundle (unsigned_abs n) → n ≡ pos tickets → short ≡ shortened_bundle bundle tickets
short_is bundle short tickets n is number = is ∙ ap (λ (z : ℤ). shortened_bundle bundle (unsigned_abs z)) number

-- what is drawn from the bundle whose lottery is shortened is drawn from the round's lottery
pub says_short : (bundle short : Bundle) (tickets : ℕ) (n : ℤ) (kept given digits : List ℕ) (result : Result Draw DrawStop) → short ≡ shortened_bundle bundle (unsigned_abs n) → n ≡ pos tickets →
    DrawSays short.answer.lottery kept given digits result → DrawSays (drawn_lottery bundle (Some tickets)) kept given digits result
says_short bundle short tickets n kept given digits result is number says =
    subst (λ (b : Bundle). DrawSays b.answer.lottery kept given digits result) (short_is bundle short tickets n is number) says

pub members_short : (bundle short : Bundle) (tickets : ℕ) (n : ℤ) (result : Result Draw DrawStop) → short ≡ shortened_bundle bundle (unsigned_abs n) → n ≡ pos tickets →
    IfOk result (λ drawn. list_all (λ i. ltb i (length short.pool.volunteers)) drawn.panel ≡ true) → IfOk result (λ drawn. list_all (λ i. ltb i (length bundle.pool.volunteers)) drawn.panel ≡ true)
members_short bundle short tickets n result is number members =
    subst (λ (b : Bundle). IfOk result (λ drawn. list_all (λ i. ltb i (length b.pool.volunteers)) drawn.panel ≡ true)) (short_is bundle short tickets n is number) members
