-- Rounds by their places, from 0, and by their numbers, from 1. A round was drawn if there is a later one.
use Rattle.std.proofs.Common.{◌≡◌, ℕ, zero, suc, ◌-◌, ◌<◌, ◌≤◌, ltb, List, [], ◌∷◌, length, get_or, Bor, Option, Some, None, is_some, IfSome, option_map, refl, sym, ap, ◌∙◌, arith, subst}
use Rattle.std.proofs.lemmas.Bool.{ltb-true, ltb-false}
use Rattle.define_pools.specs.Pool.{Category, IsPool}
use Rattle.define_offices.specs.Facts.{IsTables}
use Rattle.define_offices.specs.Pools.{first_pool, open_pool, pool_after, with_bounds}
use Rattle.define_offices.specs.Tables.{Charter, Round, Open, Drawn, Tables, named_round, round_at}
use Rattle.define_offices.proofs.Pools.{open_is_pool}
use Rattle.define_offices.proofs.Rounds.{drawn_before}
use Rattle.office_steps.specs.Told.{IsDrawn}

-- ---- the round of a place

round_at-past : (rounds : List Round) (place : ℕ) → length rounds ≤ place → round_at rounds place ≡ None
round_at-past [] place h = refl
round_at-past (round ∷ rounds) zero h = absurd (omega arith)
round_at-past (round ∷ rounds) (suc place) h = round_at-past rounds place (omega arith)

round_at-within : (rounds : List Round) (place : ℕ) (d : Round) → place < length rounds → round_at rounds place ≡ Some (get_or rounds place d)
round_at-within [] place d h = absurd (omega arith)
round_at-within (round ∷ rounds) zero d h = refl
round_at-within (round ∷ rounds) (suc place) d h = round_at-within rounds place d (omega arith)

round_at-below : (rounds : List Round) (place : ℕ) (round : Round) → round_at rounds place ≡ Some round → place < length rounds
round_at-below [] place round h = absurd (cc)
round_at-below (first ∷ rounds) zero round h = omega arith
round_at-below (first ∷ rounds) (suc place) round h = let below : place < length rounds = round_at-below rounds place round h in omega arith

-- if `round` is read at a place within the list, it is the round of this place
pub round_at-read : (rounds : List Round) (place : ℕ) (round : Round) → place < length rounds → round ≡ get_or rounds place round → round_at rounds place ≡ Some round
round_at-read rounds place round h k = round_at-within rounds place round h ∙ ap Some (sym k)

-- what `get` finds at a place is the round of this place, or None past the last
got : (rounds : List Round) (place : ℕ) (found : Option (Bor Round)) → is_some found ≡ ltb place (length rounds) → IfSome found (λ round. round.now ≡ get_or rounds place round.now) →
    option_map (λ (round : Bor Round). round.now) found ≡ round_at rounds place
got rounds place None h k = sym (round_at-past rounds place (ltb-false place (length rounds) (sym h)))
got rounds place (Some round) h k = sym (round_at-read rounds place round.now (ltb-true place (length rounds) (sym h)) k)

pub named_round-get : (rounds : List Round) (number : ℕ) (found : Option (Bor Round)) → 0 < number → is_some found ≡ ltb (number - 1) (length rounds) →
    IfSome found (λ round. round.now ≡ get_or rounds (number - 1) round.now) → option_map (λ (round : Bor Round). round.now) found ≡ named_round rounds number
named_round-get rounds zero found h k e = absurd (omega arith)
named_round-get rounds (suc place) found h k e =
    let same : suc place - 1 ≡ place = omega arith in
    got rounds place found (rw same at k) (rw same at e)

pub named_round-below : (rounds : List Round) (number : ℕ) (round : Round) → named_round rounds number ≡ Some round → number - 1 < length rounds
named_round-below rounds zero round h = absurd (cc)
named_round-below rounds (suc place) round h = let below : place < length rounds = round_at-below rounds place round h in omega arith

-- ---- the pool of round 1, and the round before a later round

module _ (tables : Tables) (keeps : IsTables tables) where
  pub first_is_pool : (charter : Charter) (categories : List Category) → tables.charter ≡ Some charter → tables.rules ≡ Some categories → 0 < length tables.rounds → IsPool (first_pool charter categories tables.register)
  first_is_pool charter categories c r h =
      (open_is_pool tables keeps charter categories c r 0 (get_or tables.rounds 0 Open) (round_at-within tables.rounds 0 Open h)).is_pool

  is_drawn_at : (before : ℕ) → suc before < length tables.rounds → (round : Round) → round_at tables.rounds before ≡ Some round → IsDrawn round
  is_drawn_at before h round at =
      let drawn = drawn_before tables.rounds before (get_or tables.rounds (suc before) Open) keeps.closed (round_at-within tables.rounds (suc before) Open h) in
      let kept = keeps.rounds before (Drawn drawn.bundle drawn.tickets drawn.digits drawn.dropped) drawn.there in
      let there : round_at tables.rounds before ≡ Some (Drawn drawn.bundle drawn.tickets drawn.digits drawn.dropped) = drawn.there in
      let same : Drawn drawn.bundle drawn.tickets drawn.digits drawn.dropped ≡ round = cc in
      subst IsDrawn same (kept.0.total_agrees, kept.1.named)

  -- if there is a round at `place`, the round before it was drawn
  pub is_drawn_before : (place : ℕ) → 0 < place → place < length tables.rounds → (round : Round) → round ≡ get_or tables.rounds (place - 1) round → IsDrawn round
  is_drawn_before zero h k round e = absurd (omega arith)
  is_drawn_before (suc before) h k round e =
      let same : suc before - 1 ≡ before = omega arith in
      is_drawn_at before k round (round_at-read tables.rounds before round (omega arith) (rw same at e))

-- the pool after the round before `place`, with the bounds that were set, is the pool of the open round at `place`
pub open_pool-later : (charter : Charter) (categories : List Category) (tables : Tables) (place : ℕ) → 0 < place → place < length tables.rounds → (round : Round) → round ≡ get_or tables.rounds (place - 1) round →
    with_bounds tables.bounds (pool_after tables.register (Some round)) ≡ open_pool charter categories tables place
open_pool-later charter categories tables zero h k round e = absurd (omega arith)
open_pool-later charter categories tables (suc before) h k round e =
    let same : suc before - 1 ≡ before = omega arith in
    ap (λ found. with_bounds tables.bounds (pool_after tables.register found)) (sym (round_at-read tables.rounds before round (omega arith) (rw same at e)))
