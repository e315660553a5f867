-- The phase of the last round is that of the round at the last place, and the number of a round is at most the number of rounds.
use Rattle.std.proofs.Common.{◌≡◌, ◌≤◌, ◌-◌, ℕ, zero, suc, List, [], ◌∷◌, Some, length, refl, sym, ap, ◌∙◌, arith}
use Rattle.std.specs.List.{slice_get}
use Rattle.std.proofs.lemmas.Option.{slice_get_within}
use Rattle.define_offices.specs.Tables.{Round, last_phase, named_round, phase_of, round_at}

round_at_is : (rounds : List Round) (place : ℕ) → round_at rounds place ≡ slice_get rounds place
round_at_is [] place = refl
round_at_is (round ∷ rounds) zero = refl
round_at_is (round ∷ rounds) (suc place) = round_at_is rounds place

pub last_is : (rounds : List Round) (round : Round) → slice_get rounds (length rounds - 1) ≡ Some round → last_phase rounds ≡ phase_of round
last_is [] round h = absurd (cc)
last_is (one ∷ []) round h = let same : one ≡ round = cc in ap phase_of same
last_is (one ∷ next ∷ later) round h =
    let first : length (one ∷ next ∷ later) - 1 ≡ suc (length (next ∷ later) - 1) = omega arith in
    last_is (next ∷ later) round (sym (ap (slice_get (one ∷ next ∷ later)) first) ∙ h)

-- the number of a round is at most the number of rounds
pub named_within : (rounds : List Round) (number : ℕ) (round : Round) → named_round rounds number ≡ Some round → number ≤ length rounds
named_within rounds zero round named = absurd cc
named_within rounds (suc place) round named = omega (arith, slice_get_within rounds place round (sym (round_at_is rounds place) ∙ named))
