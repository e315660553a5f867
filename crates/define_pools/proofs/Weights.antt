-- Sums over panels and their members, as sums over volunteers.
use Rattle.std.proofs.Common.{◌≡◌, ℕ, zero, suc, ◌+◌, ◌*◌, ◌≤◌, ◌<◌, Bool, true, false, cond, ◌||◌, eqb, ltb, List, [], ◌∷◌, refl, sym, ap, ◌∙◌, arith, true≢false}
use Rattle.std.specs.List.{list_all, AllByRecursion, range_with_len}
use Rattle.std.proofs.lemmas.Bool.{and_parts, eqb-true, ne_eqb, eq-eqb, ltb-true}
use Rattle.define_pools.proofs.Sums.{total, total_ext, total-add, total-scaled, total-zero}
use Rattle.define_pools.specs.Lists.{includes, is_increasing}
use Rattle.define_pools.specs.Lottery.{LotteryRow}

no_member : (f : ℕ → ℕ) (x first count : ℕ) → x < first → total (λ i. cond (eqb x i) (f i) 0) (range_with_len first count) ≡ 0
no_member f x first zero h = refl
no_member f x first (suc count) h =
    let rest = no_member f x (first + 1) count (omega arith) in
    let e : eqb x first ≡ false = ne_eqb x first (λ e. omega arith) in rw e (omega (arith, rest))

pub one_member : (f : ℕ → ℕ) (x first count : ℕ) → first ≤ x → x < first + count → total (λ i. cond (eqb x i) (f i) 0) (range_with_len first count) ≡ f x
one_member f x first zero h k = absurd (omega arith)
one_member f x first (suc count) h k =
    (elim (eqb x first) as (λ b. eqb x first ≡ b → cond b (f first) 0 + total (λ i. cond (eqb x i) (f i) 0) (range_with_len (first + 1) count) ≡ f x) [
      | true ↦ λ e. let same : x ≡ first = eqb-true x first e in
          omega (arith, no_member f x (first + 1) count (omega arith), ap f same)
      | false ↦ λ e. let apart : (x ≡ first → ⊥) = λ s. true≢false (sym (eq-eqb x first s) ∙ e) in
          omega (arith, one_member f x (first + 1) count (omega arith) (omega arith))
    ]) refl

-- If a number is below each number of a list, it isn't in the list.
pub not_held : (x : ℕ) (xs : List ℕ) → list_all (λ y. ltb x y) xs ≡ true → includes xs x ≡ false
not_held x [] h = refl
not_held x (y ∷ ys) h =
    let parts = and_parts (ltb x y) (list_all (λ y. ltb x y) ys) h in
    let rest = not_held x ys parts.1 in let lt = ltb-true x y parts.0 in
    let e : eqb y x ≡ false = ne_eqb y x (λ e. omega arith) in rw e rest

either : (b c : Bool) (v : ℕ) → (b ≡ true → c ≡ false) → cond (b || c) v 0 ≡ cond b v 0 + cond c v 0
either true c v h = let e = h refl in rw e (omega arith)
either false c v h = omega arith

-- The sum of `f` over a panel is a sum over everybody, to which those who aren't members add 0.
pub total_panel : (f : ℕ → ℕ) (count : ℕ) (panel : List ℕ) → is_increasing panel ≡ true → list_all (λ i. ltb i count) panel ≡ true →
    total f panel ≡ total (λ i. cond (includes panel i) (f i) 0) (range_with_len 0 count)
total_panel f count [] up below = sym (total-zero (λ i. 0) (λ i. refl) (range_with_len 0 count))
total_panel f count (x ∷ xs) up below =
    let ups = and_parts (list_all (λ y. ltb x y) xs) (is_increasing xs) up in
    let belows = and_parts (ltb x count) (list_all (λ i. ltb i count) xs) below in
    let lt = ltb-true x count belows.0 in
    let here : total (λ i. cond (eqb x i) (f i) 0) (range_with_len 0 count) ≡ f x = one_member f x 0 count (omega arith) (omega arith) in
    let rest = total_panel f count xs ups.1 belows.1 in
    let not_twice = not_held x xs ups.0 in
    let split = total_ext (λ i. cond (eqb x i || includes xs i) (f i) 0) (λ i. cond (eqb x i) (f i) 0 + cond (includes xs i) (f i) 0)
    (λ i. either (eqb x i) (includes xs i) (f i) (λ e. ap (includes xs) (sym (eqb-true x i e)) ∙ not_twice)) (range_with_len 0 count) in
    omega (arith, split, here, rest, total-add (λ i. cond (eqb x i) (f i) 0) (λ i. cond (includes xs i) (f i) 0) (range_with_len 0 count))

-- an increasing list of numbers below `count`
pub record Fits (count : ℕ) (panel : List ℕ) : Type 0 where
  pub up : is_increasing panel ≡ true
  pub below : list_all (λ i. ltb i count) panel ≡ true

-- a volunteer's count, as a sum by recursion
abbrev pub counted : List LotteryRow → ℕ → ℕ
counted rows i = total (λ row. cond (includes row.panel i) row.weight 0) rows

spread_out : (b : Bool) (f m c : ℕ) → f * (cond b m 0 + c) ≡ cond b f 0 * m + f * c
spread_out true f m c = omega arith
spread_out false f m c = omega arith

-- The sum over rows of weight times the sum of `f` over the panel equals the sum over volunteers of `f` times count.
pub exchange : (f : ℕ → ℕ) (count : ℕ) (rows : List LotteryRow) → AllByRecursion (λ row. Fits count row.panel) rows →
    total (λ row. total f row.panel * row.weight) rows ≡ total (λ i. f i * counted rows i) (range_with_len 0 count)
exchange f count [] h = sym (total-zero (λ i. f i * 0) (λ i. omega arith) (range_with_len 0 count))
exchange f count (row ∷ rows) h =
    let rest = exchange f count rows h.1 in
    let here = total_panel f count row.panel h.0.up h.0.below in
    let everybody = range_with_len 0 count in
    let split = total_ext (λ i. f i * (cond (includes row.panel i) row.weight 0 + counted rows i)) (λ i. cond (includes row.panel i) (f i) 0 * row.weight + f i * counted rows i)
    (λ i. spread_out (includes row.panel i) (f i) row.weight (counted rows i)) everybody in
    let added = total-add (λ i. cond (includes row.panel i) (f i) 0 * row.weight) (λ i. f i * counted rows i) everybody in
    let scaled = total-scaled (λ i. cond (includes row.panel i) (f i) 0) row.weight everybody in
    let first : total f row.panel * row.weight ≡ total (λ i. cond (includes row.panel i) (f i) 0) everybody * row.weight = ap (λ z. z * row.weight) here in
    omega (arith, split, added, scaled, first, rest)
