-- Laws on the closed rows of a pricer and their greatest sums, and on what a search kept and answers.
use Rattle.std.proofs.Common.{◌≡◌, ℕ, zero, suc, ◌^◌, ◌<◌, ◌≤◌, List, [], ◌∷◌, ◌++◌, length, map, Option, Some, Result, Ok, Err, sym, ap, ◌∙◌, arith, subst, length-append, ⊎_elim}
use Rattle.std.specs.Prelude.{slice_get, slice_index, IfOk, Vec, vec_items}
use Rattle.std.specs.declared.alloc.Global.{Global}
use Rattle.std.specs.List.{AllByRecursion}
use Rattle.std.proofs.lemmas.List.Elements.{recursion_from_All}
use Rattle.define_pools.proofs.Each.{each_append}
use Rattle.define_rows.specs.Row.{Row, reach}
use Rattle.define_searches.specs.Classes.{Class, Classes, KeepsLimits}
use Rattle.define_searches.specs.Fronts.{HaveEntries, HaveReach, sizes_of}
use Rattle.define_searches.specs.Visits.{Pricing}
use Rattle.define_searches.specs.Below.{IsFront}
use Rattle.define_searches.specs.Waves.{pieces}
use Rattle.define_searches.proofs.Pieces.{pieces_are}
use Rattle.panel_search.specs.Answers.{AnswersBest, AnswersPieces}
use Rattle.panel_search.specs.Pricers.{AreClosed}
use Rattle.panel_search.specs.Weights.{IsSummed}
use Rattle.panel_search.specs.declared.greatest.Sums.{Sums}
use Rattle.panel_search.specs.declared.searching.SearchStop.{SearchStop}
use Rattle.define_searches.specs.Front.{AreWithin}
use Rattle.define_searches.proofs.Beside.{get_pushed}

-- if a row with one entry per class and a reach below 2 ^ 127 is appended with its greatest sums, `AreClosed` still holds
pub closed_more : (all : Classes) (rows : List Row) (sums : List Sums) (row : Row) (here : Sums) → AreClosed all rows sums → HaveEntries all (row ∷ []) → HaveReach all (row ∷ []) →
    IsSummed all row here → AreClosed all (rows ++ row ∷ []) (sums ++ here ∷ [])
closed_more all rows sums row here kept entries reaches summed = record {
  entries = each_append (λ row. length row.a ≡ length all.classes) rows (row ∷ []) kept.entries entries;
  reaches = each_append (λ row. reach (sizes_of all) row < 2 ^ 127) rows (row ∷ []) kept.reaches reaches;
  summed = record {
    one_each = omega (arith, length-append sums (here ∷ []), length-append rows (row ∷ []), kept.summed.one_each);
    each = λ i r s e f.
        ⊎_elim
        (λ (h : (i < length rows) × (slice_get rows i ≡ Some r)). ⊎_elim
        (λ (k : (i < length sums) × (slice_get sums i ≡ Some s)). kept.summed.each i r s h.1 k.1)
        (λ (k : (i ≡ length sums) × (s ≡ here)). absurd (omega (arith, h.0, k.0, kept.summed.one_each)))
        (get_pushed sums here s i f))
        (λ (h : (i ≡ length rows) × (r ≡ row)). ⊎_elim
        (λ (k : (i < length sums) × (slice_get sums i ≡ Some s)). absurd (omega (arith, h.0, k.0, kept.summed.one_each)))
        (λ (k : (i ≡ length sums) × (s ≡ here)). subst (λ q. IsSummed all q s) (sym h.1) (subst (IsSummed all row) (sym k.1) summed))
        (get_pushed sums here s i f))
        (get_pushed rows row r i e);
  };
}

-- if `P` holds of each row of a list, it holds of the row at place `i`
pub row_has : (P : Row → Type 0) (rows : List Row) (i : ℕ) (row : Row) → AllByRecursion P rows → slice_get rows i ≡ Some row → P row
row_has P [] i row h e = cc
row_has P (r ∷ rows) zero row h e = let is : r ≡ row = cc in subst P is h.0
row_has P (r ∷ rows) (suc i) row h e = row_has P rows i row h.1 e

-- if a search kept `wanted` and answers without an error, its answer is `wanted`
pub answers_kept : (pricing : Pricing) (nodes : ℕ) (wanted : Option (List ℕ)) (r : Result (Option (List ℕ) × ℕ) SearchStop) → pricing.kept ≡ wanted → AnswersBest pricing nodes r →
    IfOk r (λ answer. answer.0 ≡ wanted)
answers_kept pricing nodes wanted (Ok (found, visits)) e told = told.1 ∙ e
answers_kept pricing nodes wanted (Err stop) e told = tt

-- if the classes keep their limits, the front of each piece in an answer is a front of the classes
pub fronts_kept : (all made : Classes) (closed : List Row) (row : Row) (nodes : ℕ) (r : Result (Vec (List ℕ) Global × ℕ) SearchStop) → KeepsLimits all → made ≡ all → AnswersPieces (pieces made closed row) nodes r →
    IfOk r (λ answer. AllByRecursion (IsFront all) (vec_items answer.0))
fronts_kept all made closed row nodes (Ok (fronts, visits)) limits e told =
    subst (AllByRecursion (IsFront all)) (ap (λ made. (pieces made closed row).fronts) (sym e) ∙ sym told.1) (pieces_are all closed row limits.searchable)
fronts_kept all made closed row nodes (Err stop) limits e told = tt

-- if the classes keep their limits, a front takes no more of a class than it has members
pub front_within : (all : Classes) (front : List ℕ) → KeepsLimits all → IsFront all front → AreWithin all front
front_within all front limits is t l = omega (arith, is.most t l, at all.classes t (recursion_from_All (λ (class : Class). class.most ≤ length class.members) all.classes limits.most))
  where
    at : (classes : List Class) (t : ℕ) → AllByRecursion (λ class. class.most ≤ length class.members) classes → slice_index (map (λ class. class.most) classes) t ≤ slice_index (map (λ class. length class.members) classes) t
    at [] t h = omega arith
    at (class ∷ classes) zero h = h.0
    at (class ∷ classes) (suc t) h = at classes t h.1
