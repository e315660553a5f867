-- What is published of the round with a number, and that `IsSound` holds of it.
use Rattle.std.proofs.Common.{◌≡◌, ℕ, zero, suc, List, [], ◌∷◌, map, length, Option, Some, None, refl}
use Rattle.define_offices.specs.declared.Phase.{Phase}
use Rattle.define_offices.specs.declared.Phase.TheVariants as phase
use Rattle.define_offices.specs.Facts.{IsTables, KeepsRound}
use Rattle.define_offices.specs.Tables.{Round, Open, Solved, Sealed, Drawn, Tables, last_phase, named_round, phase_of, round_at}
use Rattle.define_desk.specs.Views.{Published, Nothing, last_published, published, published_at, published_of}
use Rattle.office_desk.specs.Shown.{IsSound}

abbrev pub shown : Option Round → Published
shown None = Nothing
shown (Some round) = published round

pub at_place : (rounds : List Round) (place : ℕ) → published_at (map published rounds) place ≡ shown (round_at rounds place)
at_place [] place = refl
at_place (round ∷ rounds) zero = refl
at_place (round ∷ rounds) (suc place) = at_place rounds place

pub of_number : (rounds : List Round) (number : ℕ) → published_of (map published rounds) number ≡ shown (named_round rounds number)
of_number rounds zero = refl
of_number rounds (suc place) = at_place rounds place

-- ---- the last round

pub of_last : (rounds : List Round) → last_published (map published rounds) ≡ published_of (map published rounds) (length rounds)
of_last [] = refl
of_last (round ∷ []) = refl
of_last (round ∷ next ∷ later) = of_last (next ∷ later)

abbrev pub phase_shown : Option Round → Phase
phase_shown None = phase.Open
phase_shown (Some round) = phase_of round

pub phase_of_last : (rounds : List Round) → last_phase rounds ≡ phase_shown (named_round rounds (length rounds))
phase_of_last [] = refl
phase_of_last (round ∷ []) = refl
phase_of_last (round ∷ next ∷ later) = phase_of_last (next ∷ later)

-- ---- `IsSound` holds of what is published

round_sound : (tables : Tables) (round : Round) → KeepsRound tables round → IsSound (published round)
round_sound tables Open h = tt
round_sound tables (Solved bundle) h = tt
round_sound tables (Sealed bundle tickets) h = h.0.total_agrees
round_sound tables (Drawn bundle tickets digits dropped) h = record { agrees = h.0.total_agrees; named = h.1.named }

pub number_sound : (tables : Tables) → IsTables tables → (number : ℕ) → IsSound (shown (named_round tables.rounds number))
number_sound tables keeps zero = tt
number_sound tables keeps (suc place) = by (round_at tables.rounds place) refl
  where
    by : (found : Option Round) → round_at tables.rounds place ≡ found → IsSound (shown found)
    by None e = tt
    by (Some round) e = round_sound tables round (keeps.rounds place round e)
