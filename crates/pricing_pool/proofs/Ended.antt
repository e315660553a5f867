-- Adding the outcomes of a wave's pieces, one by one, leads to the definition's wave, or stops for the same reason.
use Rattle.std.proofs.Common.{◌≡◌, ℕ, zero, suc, ◌+◌, ◌-◌, ◌<◌, ◌≤◌, List, [], ◌∷◌, fold, length, map, take, Ok, Err, refl, sym, ap, ◌∙◌, arith}
use Rattle.std.specs.Prelude.{slice_index_or}
use Rattle.define_rows.specs.Row.{Row}
use Rattle.define_searches.specs.Classes.{Classes}
use Rattle.define_searches.specs.Visits.{Pricing}
use Rattle.define_searches.specs.Below.{search_from}
use Rattle.define_searches.specs.Waves.{take_piece, wave}
use Rattle.panel_search.specs.Answers.{AnswersWeighed}
use Rattle.panel_search.specs.declared.searching.SearchStop.{SearchStop}
use Rattle.panel_search.specs.declared.searching.SearchStop.TheVariants.{Spent, OutOfMemory}
use Rattle.pricing_pool.specs.Outcomes.{Outcome}
use Rattle.pricing_pool.specs.SoFar.{CameTo, GoesOn}
use Rattle.pricing_pool.proofs.Taking.{piece_and_later, piece_visits, taken_ok, taken_spent}

-- the pricing after the pieces of the first `count` fronts
abbrev pub came_up_to : Row → (List ℕ → Pricing) → Pricing → List (List ℕ) → ℕ → Pricing
came_up_to row search begun fronts count = fold (take_piece row) begun (map search (take count fronts))

pub one_more : (row : Row) (search : List ℕ → Pricing) (begun : Pricing) (fronts : List (List ℕ)) (place : ℕ) → place < length fronts →
    came_up_to row search begun fronts (suc place) ≡ take_piece row (came_up_to row search begun fronts place) (search (slice_index_or fronts place []))
one_more row search begun [] place l = absurd (omega arith)
one_more row search begun (f ∷ fs) zero l = refl
one_more row search begun (f ∷ fs) (suc place) l = one_more row search (take_piece row begun (search f)) fs place (omega arith)

-- the visits before the piece at `place`, with those of this piece, are at most the visits after all pieces
pub with_those_before : (row : Row) (search : List ℕ → Pricing) (begun : Pricing) (fronts : List (List ℕ)) (place : ℕ) → place < length fronts →
    (came_up_to row search begun fronts place).visits + (search (slice_index_or fronts place [])).visits ≤ (fold (take_piece row) begun (map search fronts)).visits
with_those_before row search begun [] place l = absurd (omega arith)
with_those_before row search begun (f ∷ fs) zero l = piece_and_later row begun (search f) (map search fs)
with_those_before row search begun (f ∷ fs) (suc place) l = with_those_before row search (take_piece row begun (search f)) fs place (omega arith)

module _ (all : Classes) (closed : List Row) (row : Row) (begun : Pricing) (fronts : List (List ℕ)) (nodes budget place : ℕ) where
  abbrev search : List ℕ → Pricing
  search front = search_from all closed row front begun.floor

  abbrev pub before : Pricing
  before = came_up_to row search begun fronts place

  -- if the outcome of the piece at `place` is taken, the pricing is the one after the first `place + 1` pieces
  pub piece_taken : (now after : Pricing) (outcome : Outcome) → now ≡ before → place < length fronts → AnswersWeighed (search (slice_index_or fronts place [])) budget outcome → CameTo outcome nodes (Ok tt) now after →
      (after ≡ came_up_to row search begun fronts (place + 1)) × (after.visits ≤ nodes) × (begun.visits ≤ now.visits → begun.visits ≤ after.visits)
  piece_taken now after outcome e l answers came =
      let taken = taken_ok all closed row (slice_index_or fronts place []) begun.floor now after nodes budget outcome answers came in
      let place_on : suc place ≡ place + 1 = omega arith in
      let is : after ≡ came_up_to row search begun fronts (place + 1) =
      taken.0 ∙ ap (λ p. take_piece row p (search (slice_index_or fronts place []))) e ∙ sym (one_more row search begun fronts place l) ∙ ap (came_up_to row search begun fronts) place_on in
      (is, taken.1, λ m. omega (arith, ap (λ p. p.visits) taken.0, piece_visits row now (search (slice_index_or fronts place [])), m))

  -- if the outcome of the piece at `place` can't be taken, the wave stops for the same reason
  pub piece_stops : (now after : Pricing) (outcome : Outcome) (stop : SearchStop) (left : Pricing) → now ≡ before → place < length fronts → budget ≡ nodes - begun.visits → begun.visits ≤ now.visits → now.visits ≤ nodes →
      AnswersWeighed (search (slice_index_or fronts place [])) budget outcome → CameTo outcome nodes (Err stop) now after → GoesOn (wave all closed row begun fronts) nodes (Err stop) left
  piece_stops now after outcome Spent left e l of more within answers came =
      let spent = taken_spent all closed row (slice_index_or fronts place []) begun.floor now after nodes budget outcome begun.visits of more within answers came in
      omega (arith, spent, ap (λ p. p.visits) e, with_those_before row search begun fronts place l)
  piece_stops now after outcome OutOfMemory left e l of more within answers came = tt
