-- A child is weighed in the closed rows, row by row.
use Rattle.std.proofs.Common.{◌≡◌, ℕ, ◌+◌, ◌≤◌, ◌<◌, true, false, eqb, ltb, List, [], ◌∷◌, ◌++◌, length, set, Some, ℤ, refl, sym, ◌∙◌, arith, subst}
use Rattle.std.specs.Prelude.{slice_get, int_le}
use Rattle.std.proofs.lemmas.Bool.{eqb-true, eqb-false, ltb-true, ltb-false}
use Rattle.std.proofs.lemmas.List.{length-set}
use Rattle.std.proofs.lemmas.Option.{slice_get_within}
use Rattle.define_rows.specs.Row.{Row}
use Rattle.define_searches.specs.Classes.{Classes}
use Rattle.define_searches.specs.Fronts.{optimistic}
use Rattle.define_searches.specs.Weights.{Weighs, WeighEach}
use Rattle.define_searches.proofs.Beside.{get_set_other, get_set_same, same_at}
use Rattle.define_searches.proofs.WeightLaws.{weighs_back, weighs_front}

-- The first `done` rows have the child's weights, and the child's optimistic weight in each is at least the row's right side. The other
-- rows have the front's weights.
pub record WeighedTo {W : Type 0} (read : W → List ℤ) (all : Classes) (rows : List Row) (front : List ℕ) (count done : ℕ) (weighings : List W) : Type 0 where
  pub same : length weighings ≡ length rows
  pub child : (i : ℕ) (row : Row) (weighing : W) → i < done → slice_get rows i ≡ Some row → slice_get weighings i ≡ Some weighing → Weighs all row (front ++ count ∷ []) (read weighing)
  pub attained : (i : ℕ) (row : Row) → i < done → slice_get rows i ≡ Some row → int_le row.b (optimistic all row (front ++ count ∷ [])) ≡ true
  pub rest : (i : ℕ) (row : Row) (weighing : W) → done ≤ i → slice_get rows i ≡ Some row → slice_get weighings i ≡ Some weighing → Weighs all row front (read weighing)

-- If the next row gets the child's weights, and the child's optimistic weight in it is at least its right side, `WeighedTo` holds with
-- `done + 1`.
pub weighed_next : {W : Type 0} {read : W → List ℤ} (all : Classes) (rows : List Row) (front : List ℕ) (count done : ℕ) (weighings : List W) (row : Row) (weighing : W) → WeighedTo read all rows front count done weighings → slice_get rows done ≡ Some row →
    Weighs all row (front ++ count ∷ []) (read weighing) → int_le row.b (optimistic all row (front ++ count ∷ [])) ≡ true → WeighedTo read all rows front count (done + 1) (set weighings done weighing)
weighed_next {W} {read} all rows front count done weighings row weighing to at weighs attains = record {
  same = length-set weighings done weighing ∙ to.same;
  child = λ i r w l e f.
      (elim (eqb i done) as (λ b. eqb i done ≡ b → Weighs all r (front ++ count ∷ []) (read w)) [
        | true ↦ λ t. let same = eqb-true i done t in here i r w same e f
        | false ↦ λ t. let other = eqb-false i done t in to.child i r w (lower i other l) e (sym (get_set_other weighings done i weighing other) ∙ f)
      ]) refl;
  attained = λ i r l e.
      (elim (eqb i done) as (λ b. eqb i done ≡ b → int_le r.b (optimistic all r (front ++ count ∷ [])) ≡ true) [
        | true ↦ λ t. let same = eqb-true i done t in
            let is : r ≡ row = same_at rows done i row r (sym same) at e in
            subst (λ (q : Row). int_le q.b (optimistic all q (front ++ count ∷ [])) ≡ true) (sym is) attains
        | false ↦ λ t. let other = eqb-false i done t in to.attained i r (lower i other l) e
      ]) refl;
  rest = λ i r w l e f. to.rest i r w (omega arith) e (sym (get_set_other weighings done i weighing (λ x. absurd (omega arith))) ∙ f);
}
  where
    lower : (i : ℕ) → (i ≡ done → ⊥) → i < done + 1 → i < done
    lower i other l = omega arith

    here : (i : ℕ) (r : Row) (w : W) → i ≡ done → slice_get rows i ≡ Some r → slice_get (set weighings done weighing) i ≡ Some w → Weighs all r (front ++ count ∷ []) (read w)
    here i r w same e f =
        let is : r ≡ row = same_at rows done i row r (sym same) at e in
        let made : w ≡ weighing = get_set_same weighings done i weighing w same f in
        subst (λ q. Weighs all q (front ++ count ∷ []) (read w)) (sym is) (subst (λ v. Weighs all row (front ++ count ∷ []) (read v)) (sym made) weighs)

-- Each row still has the front's weights, since the child's weights begin with them.
pub still_weighed : {W : Type 0} {read : W → List ℤ} (all : Classes) (rows : List Row) (front : List ℕ) (count done : ℕ) (weighings : List W) → WeighedTo read all rows front count done weighings → WeighEach read all rows front weighings
still_weighed {W} {read} all rows front count done weighings to = record {
  one_each = to.same;
  each = λ i r w e f.
      (elim (ltb i done) as (λ b. ltb i done ≡ b → Weighs all r front (read w)) [
        | true ↦ λ t. weighs_front all r front count (read w) (to.child i r w (ltb-true i done t) e f)
        | false ↦ λ t. to.rest i r w (ltb-false i done t) e f
      ]) refl;
}

-- If row `done` gets the child's weights, whatever the child's optimistic weight in it is, each row still has the front's weights.
pub weighed_at : {W : Type 0} {read : W → List ℤ} (all : Classes) (rows : List Row) (front : List ℕ) (count done : ℕ) (weighings : List W) (row : Row) (weighing : W) → WeighEach read all rows front weighings → slice_get rows done ≡ Some row →
    Weighs all row (front ++ count ∷ []) (read weighing) → WeighEach read all rows front (set weighings done weighing)
weighed_at {W} {read} all rows front count done weighings row weighing each at weighs = record {
  one_each = length-set weighings done weighing ∙ each.one_each;
  each = λ i r w e f.
      (elim (eqb i done) as (λ b. eqb i done ≡ b → Weighs all r front (read w)) [
        | true ↦ λ t. let same = eqb-true i done t in here i r w same e f
        | false ↦ λ t. each.each i r w e (sym (get_set_other weighings done i weighing (eqb-false i done t)) ∙ f)
      ]) refl;
}
  where
    here : (i : ℕ) (r : Row) (w : W) → i ≡ done → slice_get rows i ≡ Some r → slice_get (set weighings done weighing) i ≡ Some w → Weighs all r front (read w)
    here i r w same e f =
        let is : r ≡ row = same_at rows done i row r (sym same) at e in
        let made : w ≡ weighing = get_set_same weighings done i weighing w same f in
        subst (λ q. Weighs all q front (read w)) (sym is) (subst (λ v. Weighs all row front (read v)) (sym made) (weighs_front all row front count (read weighing) weighs))

-- If all rows are done, each has the child's weights.
pub all_weighed : {W : Type 0} {read : W → List ℤ} (all : Classes) (rows : List Row) (front : List ℕ) (count done : ℕ) (weighings : List W) → WeighedTo read all rows front count done weighings → length rows ≤ done → WeighEach read all rows (front ++ count ∷ []) weighings
all_weighed {W} {read} all rows front count done weighings to l = record {
  one_each = to.same;
  each = λ i r w e f. let within = slice_get_within rows i r e in to.child i r w (omega arith) e f;
}

-- If each row has the child's weights, each has the weights of the front that the child begins with.
pub each_back : {W : Type 0} {read : W → List ℤ} (all : Classes) (rows : List Row) (front child back : List ℕ) (count : ℕ) (weighings : List W) → child ≡ front ++ count ∷ [] → back ≡ front →
    WeighEach read all rows child weighings → WeighEach read all rows back weighings
each_back {read = read} all rows front child back count weighings e f weighs = record {
  one_each = weighs.one_each;
  each = λ i r w at here. weighs_back all r front child back count (read w) e f (weighs.each i r w at here);
}
