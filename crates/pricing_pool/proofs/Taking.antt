-- Taking an outcome changes the pricing as the definition's `take_piece` does for the outcome's piece.
use Rattle.std.proofs.Common.{◌≡◌, ℕ, ◌+◌, ◌-◌, ◌<◌, ◌≤◌, true, false, cond, List, [], ◌∷◌, fold, ℤ, Option, Some, None, Ok, Err, refl, sym, ap, ◌∙◌, arith}
use Rattle.std.specs.Prelude.{int_lt}
use Rattle.define_rows.specs.Row.{Row}
use Rattle.define_searches.specs.Classes.{Classes}
use Rattle.define_searches.specs.Compositions.{weight_in}
use Rattle.define_searches.specs.Visits.{Pricing}
use Rattle.define_searches.specs.Below.{search_from}
use Rattle.define_searches.specs.Waves.{keep_heavier, take_piece}
use Rattle.panel_search.specs.Answers.{AnswersWeighed, IsKept}
use Rattle.panel_search.specs.declared.searching.SearchStop.TheVariants.{Spent, OutOfMemory}
use Rattle.pricing_pool.specs.Outcomes.{Outcome}
use Rattle.pricing_pool.specs.SoFar.{CameTo, heavier}
use Rattle.pricing_pool.proofs.Kept.{IsWeighed, search_weighed}

-- if `found` is what the piece kept, with its weight, then `heavier` and `keep_heavier` lead to the same pricing
heavier_kept : (row : Row) (piece : Pricing) (found : Option (List ℕ × ℤ)) (now : Pricing) → IsWeighed row piece → IsKept piece found → heavier found now ≡ keep_heavier row now piece.kept
heavier_kept row piece None now weighed kept = sym (ap (keep_heavier row now) kept)
heavier_kept row piece (Some (counts, weight)) now weighed kept =
    let same : weight ≡ weight_in row.a counts = kept.1 ∙ weighed counts kept.0 in
    ap (λ w. heavier (Some (counts, w)) now) same ∙ sym (ap (keep_heavier row now) kept.0)

module _ (all : Classes) (closed : List Row) (row : Row) (front : List ℕ) (floor : ℤ) (before after : Pricing) (nodes budget : ℕ) where
  abbrev piece : Pricing
  piece = search_from all closed row front floor

  pub taken_ok : (outcome : Outcome) → AnswersWeighed piece budget outcome → CameTo outcome nodes (Ok tt) before after → (after ≡ take_piece row before piece) × (after.visits ≤ nodes)
  taken_ok (Ok (found, visits)) answers came =
      let same : visits ≡ piece.visits = answers.2 in (
        came.0 ∙ ap (λ v. heavier found (record before { visits = before.visits + v })) same
            ∙ heavier_kept row piece found (record before { visits = before.visits + piece.visits }) (search_weighed all closed row front floor) answers.1,
        came.1,
      )
  taken_ok (Err Spent) answers came = absurd came
  taken_ok (Err OutOfMemory) answers came = absurd came

  pub taken_spent : (outcome : Outcome) (start : ℕ) → budget ≡ nodes - start → start ≤ before.visits → before.visits ≤ nodes → AnswersWeighed piece budget outcome → CameTo outcome nodes (Err Spent) before after →
      nodes < before.visits + piece.visits
  taken_spent (Ok (found, visits)) start e l m answers came = let same : visits ≡ piece.visits = answers.2 in omega (arith, same, came)
  taken_spent (Err Spent) start e l m answers came = omega (arith, answers)
  taken_spent (Err OutOfMemory) start e l m answers came = absurd came

-- taking a piece adds its visits to those so far
pub piece_visits : (row : Row) (now piece : Pricing) → (take_piece row now piece).visits ≡ now.visits + piece.visits
piece_visits row now piece = by piece.kept
  where
    by : (kept : Option (List ℕ)) → (keep_heavier row (record now { visits = now.visits + piece.visits }) kept).visits ≡ now.visits + piece.visits
    by None = refl
    by (Some counts) = (elim (int_lt now.floor (weight_in row.a counts)) as (λ b. (cond b (record now { visits = now.visits + piece.visits; floor = weight_in row.a counts; kept = Some counts }) (record now { visits = now.visits + piece.visits })).visits ≡ now.visits + piece.visits) [
      | true ↦ refl
      | false ↦ refl
    ])

-- the visits only grow with more pieces
pub pieces_add : (row : Row) (now : Pricing) (pieces : List Pricing) → now.visits ≤ (fold (take_piece row) now pieces).visits
pieces_add row now [] = omega arith
pieces_add row now (piece ∷ pieces) = omega (arith, piece_visits row now piece, pieces_add row (take_piece row now piece) pieces)

-- the visits so far and those of the next piece are at most the visits after all pieces
pub piece_and_later : (row : Row) (now piece : Pricing) (pieces : List Pricing) → now.visits + piece.visits ≤ (fold (take_piece row) now (piece ∷ pieces)).visits
piece_and_later row now piece pieces = omega (arith, piece_visits row now piece, pieces_add row (take_piece row now piece) pieces)
