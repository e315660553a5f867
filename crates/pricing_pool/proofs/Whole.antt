-- If each wave returns what the definition says, the whole search does. If a wave stops, the search stops for the same reason.
use Rattle.std.proofs.Common.{◌≡◌, ℕ, ◌+◌, ◌/◌, ◌%◌, ◌<◌, ◌≤◌, List, [], ◌∷◌, fold, length, min, ℤ, None, Ok, Err, ap, ◌∙◌, arith}
use Rattle.define_rows.specs.Row.{Row}
use Rattle.define_searches.specs.Classes.{Classes, IsSearchable}
use Rattle.define_searches.specs.Compositions.{price}
use Rattle.define_searches.specs.Fronts.{HaveEntries}
use Rattle.define_searches.specs.Visits.{Pricing}
use Rattle.define_searches.specs.Waves.{best_in_waves, pieces, wave, waves}
use Rattle.define_searches.proofs.WavesFind.{waves_keep_price}
use Rattle.panel_search.specs.Answers.{AnswersBest, AnswersPieces}
use Rattle.panel_search.specs.declared.searching.SearchStop.{SearchStop}
use Rattle.panel_search.specs.declared.searching.SearchStop.TheVariants.{Spent, OutOfMemory}
use Rattle.pricing_pool.specs.SoFar.{GoesOn}
use Rattle.pricing_pool.proofs.Waving.{part, up_to, wave_adds, wave_within}

-- `n / 16`, and one more if there is a remainder, is `(n + 15) / 16`: the number of waves for `n` pieces
pub ceiling : (n : ℕ) → n / 16 + min 1 (n % 16) ≡ (n + 15) / 16
ceiling n = omega arith

module _ (all : Classes) (closed : List Row) (row : Row) (nodes : ℕ) where
  -- the visits only grow from wave to wave
  waves_rise : (now : Pricing) (parts : List (List (List ℕ))) → now.visits ≤ (fold (wave all closed row) now parts).visits
  waves_rise now [] = omega arith
  waves_rise now (fronts ∷ later) = omega (arith, wave_adds all closed row [] now fronts, waves_rise (wave all closed row now fronts) later)

  -- if the pieces can't be made, the whole search stops for the same reason
  pub pieces_stop : (stop : SearchStop) → AnswersPieces (pieces all closed row) nodes (Err stop) → AnswersBest (best_in_waves all closed row) nodes (Err stop)
  pieces_stop Spent l = omega (arith, l, waves_rise (record { visits = (pieces all closed row).visits; floor = row.b; kept = None }) (waves (pieces all closed row).fronts))
  pieces_stop OutOfMemory l = tt

  module _ (visits : ℕ) (fronts : List (List ℕ)) (side : ℤ) (v : visits ≡ (pieces all closed row).visits) (f : fronts ≡ (pieces all closed row).fronts) (s : side ≡ row.b) where
    begun : Pricing
    begun = record { visits = visits; floor = side; kept = None }

    due_is : fold (wave all closed row) (record { visits = visits; floor = side; kept = None }) (waves fronts) ≡ best_in_waves all closed row
    due_is = ap (λ n. fold (wave all closed row) (record { visits = n; floor = side; kept = None }) (waves fronts)) v
        ∙ ap (λ z. fold (wave all closed row) (record { visits = (pieces all closed row).visits; floor = z; kept = None }) (waves fronts)) s
        ∙ ap (λ fs. fold (wave all closed row) (record { visits = (pieces all closed row).visits; floor = row.b; kept = None }) (waves fs)) f

    pub waves_stop : (stop : SearchStop) (left : Pricing) → GoesOn (fold (wave all closed row) (record { visits = visits; floor = side; kept = None }) (waves fronts)) nodes (Err stop) left →
        AnswersBest (best_in_waves all closed row) nodes (Err stop)
    waves_stop Spent left l = omega (arith, l, ap (λ now. now.visits) due_is)
    waves_stop OutOfMemory left l = tt

    pub waves_answer : (after : Pricing) → after ≡ fold (wave all closed row) (record { visits = visits; floor = side; kept = None }) (waves fronts) → after.visits ≤ nodes →
        AnswersBest (best_in_waves all closed row) nodes (Ok (after.kept, after.visits))
    waves_answer after e l = (omega (arith, l, ap (λ now. now.visits) (e ∙ due_is)), ap (λ now. now.kept) (e ∙ due_is), ap (λ now. now.visits) (e ∙ due_is))

    pub waves_price : IsSearchable all → HaveEntries all (row ∷ closed) → (after : Pricing) → after ≡ fold (wave all closed row) (record { visits = visits; floor = side; kept = None }) (waves fronts) →
        after.kept ≡ price all closed row
    waves_price searchable entries after e = ap (λ now. now.kept) (e ∙ due_is) ∙ waves_keep_price all closed row searchable entries

-- if a wave stops, the search of all waves stops for the same reason
pub wave_stops : (all : Classes) (closed : List Row) (row : Row) (fronts : List (List ℕ)) (begun now : Pricing) (nodes number : ℕ) (stop : SearchStop) (left after : Pricing) → now ≡ up_to all closed row fronts begun number →
    number < (length fronts + 15) / 16 → GoesOn (wave all closed row now (part all closed row fronts number)) nodes (Err stop) left → GoesOn (fold (wave all closed row) begun (waves fronts)) nodes (Err stop) after
wave_stops all closed row fronts begun now nodes number Spent left after e l goes =
    omega (arith, goes, ap (λ p. (wave all closed row p (part all closed row fronts number)).visits) e, wave_within all closed row fronts begun number ((length fronts + 15) / 16) l)
wave_stops all closed row fronts begun now nodes number OutOfMemory left after e l goes = tt
