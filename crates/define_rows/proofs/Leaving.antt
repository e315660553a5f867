-- A search for the row whose basic variable leaves, which keeps the best of the rows that it has passed (`IsBest`). In a table in order
-- with a stage open, it finds a row.
use Rattle.std.proofs.Common.{◌≡◌, ◌≢◌, ℕ, zero, suc, ◌+◌, ◌<◌, ◌≤◌, Bool, true, false, not, ◌&&◌, ◌||◌, [], length, Option, Some, None, pos, ◌≤ℤ◌, refl, ap, ap₂, ◌∙◌, subst, arith, inl, inr, ◌⊎◌, ⊎_elim}
use Rattle.std.specs.Prelude.{int_lt}
use Rattle.std.specs.Option.{option_map, option_and_then}
use Rattle.std.proofs.lemmas.Int.{ints}
use Rattle.std.proofs.lemmas.Bool.{cases_eq}
use Rattle.define_pools.proofs.Integers.{lt-tested}
use Rattle.define_pools.proofs.Each.{list_all_from_each}
use Rattle.define_pools.proofs.Found.{find-none}
use Rattle.define_rows.specs.declared.Var.{Var}
use Rattle.define_rows.specs.Table.{Table, coefficient_at, row_at, basic_at, row_numbers}
use Rattle.define_rows.specs.Choice.{may_leave, leaves_before, is_least, leaving, entering, choice}
use Rattle.define_rows.specs.InOrder.{IsInOrder}
use Rattle.define_rows.proofs.Ratios.{IsCandidate, before-before, before-itself}
use Rattle.define_rows.proofs.Chosen.{each_row, row_each}
use Rattle.define_rows.proofs.Entered.{entered-known, entered-stage}
use Rattle.define_rows.proofs.Bounded.{some_positive}

-- `may_leave` holds of row b, and none of the first n rows of which it holds is preferred to b
pub record IsBest (table : Table) (v : Var) (n b : ℕ) : Type 0 where
  pub before : b < n
  pub may : may_leave table v b ≡ true
  pub best : (k : ℕ) → k < n → may_leave table v k ≡ true → leaves_before table v k b ≡ false

module _ (table : Table) (v : Var) (sides : (i : ℕ) → i < length table.rows → pos 0 ≤ℤ (row_at table i).b) where
  candidate : (i : ℕ) → i < length table.rows → may_leave table v i ≡ true → IsCandidate (row_at table i).b (coefficient_at table i v)
  candidate i l e = record { side = sides i l; coefficient = lt-tested (pos 0) (coefficient_at table i v) e }

  -- if b is the best of the first n rows and row n is preferred to it, row n is the best of the first n + 1
  pub IsBest-takes : (n b : ℕ) → n < length table.rows → IsBest table v n b → may_leave table v n ≡ true → leaves_before table v n b ≡ true → IsBest table v (n + 1) n
  IsBest-takes n b l h may before = record { before = omega arith; may = may; best = λ k m e. by k m e (cases_eq k n) }
    where
      by : (k : ℕ) → k < n + 1 → may_leave table v k ≡ true → (k ≡ n) ⊎ (k ≢ n) → leaves_before table v k n ≡ false
      by k m e (inl s) = ap (λ j. leaves_before table v j n) s ∙ before-itself (row_at table n).b (coefficient_at table n v) (basic_at table n) (candidate n l may)
      by k m e (inr o) = test (leaves_before table v k n) refl
        where
          test : (t : Bool) → leaves_before table v k n ≡ t → leaves_before table v k n ≡ false
          test false f = f
          test true f =
              let in_range = h.before in
              let chained = before-before (row_at table k).b (coefficient_at table k v) (basic_at table k) (row_at table n).b (coefficient_at table n v) (basic_at table n) (row_at table b).b (coefficient_at table b v) (basic_at table b)
              (candidate k (omega arith) e) (candidate n l may) (candidate b (omega arith) h.may) f before in
              let denied = h.best k (omega arith) e in absurd cc

  -- if b is the best of the first n rows, and `may_leave` fails for row n or n isn't preferred to b, b is the best of the first n + 1
  pub IsBest-keeps : (n b : ℕ) → IsBest table v n b → (may_leave table v n ≡ false) ⊎ (leaves_before table v n b ≡ false) → IsBest table v (n + 1) b
  IsBest-keeps n b h c = record { before = omega (arith, h.before); may = h.may; best = λ k m e. by k m e (cases_eq k n) }
    where
      by : (k : ℕ) → k < n + 1 → may_leave table v k ≡ true → (k ≡ n) ⊎ (k ≢ n) → leaves_before table v k b ≡ false
      by k m e (inl s) = ⊎_elim (λ f. let g : may_leave table v k ≡ false = ap (may_leave table v) s ∙ f in absurd cc) (λ f. ap (λ j. leaves_before table v j b) s ∙ f) c
      by k m e (inr o) = h.best k (omega arith) e

  -- if `may_leave` holds of row n and of none of the first n rows, row n is the best of the first n + 1
  pub IsBest-first : (n : ℕ) → n < length table.rows → ((k : ℕ) → k < n → may_leave table v k ≡ false) → may_leave table v n ≡ true → IsBest table v (n + 1) n
  IsBest-first n l none may = record { before = omega arith; may = may; best = λ k m e. by k m e (cases_eq k n) }
    where
      by : (k : ℕ) → k < n + 1 → may_leave table v k ≡ true → (k ≡ n) ⊎ (k ≢ n) → leaves_before table v k n ≡ false
      by k m e (inl s) = ap (λ j. leaves_before table v j n) s ∙ before-itself (row_at table n).b (coefficient_at table n v) (basic_at table n) (candidate n l may)
      by k m e (inr o) = let f = none k (omega arith) in absurd cc

  -- `may_leave` holds of none of the first n rows, or one of them is the best
  best_of : (n : ℕ) → n ≤ length table.rows → ((k : ℕ) → k < n → may_leave table v k ≡ false) ⊎ ((b : ℕ) × IsBest table v n b)
  best_of zero l = inl (λ k m. absurd (omega arith))
  best_of (suc n) l = by (best_of n (omega arith)) (may_leave table v n) refl
    where
      more : (b : ℕ) → IsBest table v (n + 1) b → IsBest table v (suc n) b
      more b h = let e : n + 1 ≡ suc n = omega arith in subst (λ m. IsBest table v m b) e h

      by : ((k : ℕ) → k < n → may_leave table v k ≡ false) ⊎ ((b : ℕ) × IsBest table v n b) → (t : Bool) → may_leave table v n ≡ t →
          ((k : ℕ) → k < suc n → may_leave table v k ≡ false) ⊎ ((b : ℕ) × IsBest table v (suc n) b)
      by (inl none) false e = inl (λ k m. ⊎_elim (λ s. ap (may_leave table v) s ∙ e) (λ o. none k (omega arith)) (cases_eq k n))
      by (inl none) true e = inr (n, more n (IsBest-first n l none e))
      by (inr (b, h)) false e = inr (b, more b (IsBest-keeps n b h (inl e)))
      by (inr (b, h)) true e = test (leaves_before table v n b) refl
        where
          test : (t : Bool) → leaves_before table v n b ≡ t → ((k : ℕ) → k < suc n → may_leave table v k ≡ false) ⊎ ((b : ℕ) × IsBest table v (suc n) b)
          test false f = inr (b, more b (IsBest-keeps n b h (inr f)))
          test true f = inr (n, more n (IsBest-takes n b l h e f))

  -- the best of all rows satisfies `is_least`
  pub best_is_least : (b : ℕ) → IsBest table v (length table.rows) b → is_least table v b ≡ true
  best_is_least b h =
      ap₂ (λ x y. x && y) h.may (list_all_from_each (λ j. not (may_leave table v j) || not (leaves_before table v j b)) (row_numbers table)
      (each_row table (λ j. (not (may_leave table v j) || not (leaves_before table v j b)) ≡ true) (λ j l. by j l (may_leave table v j) refl)))
    where
      by : (j : ℕ) → j < length table.rows → (t : Bool) → may_leave table v j ≡ t → (not (may_leave table v j) || not (leaves_before table v j b)) ≡ true
      by j l true e = ap₂ (λ x y. not x || not y) e (h.best j l e)
      by j l false e = ap (λ x. not x || not (leaves_before table v j b)) e

-- in a table in order with a stage open, some row's basic variable leaves when a variable enters
pub leaving-some : (table : Table) → IsInOrder table → table.in_stage ≡ true → (v : Var) → entering table ≡ Some v → leaving table v ≡ None → ⊥
unfolding leaving
leaving-some table h open_now v entered none = ⊎_elim all_none some_best (best_of table v (λ i l. h.sides i (record { b = pos 0; a = [] }) l) (length table.rows) (omega arith))
  where
    all_none : ((k : ℕ) → k < length table.rows → may_leave table v k ≡ false) → ⊥
    all_none f = some_positive table h v (λ i l. let e : int_lt (pos 0) (coefficient_at table i v) ≡ false = f i l in omega (arith, ints)) (entered-known table h open_now v entered) (entered-stage table h open_now v entered)

    some_best : (b : ℕ) × IsBest table v (length table.rows) b → ⊥
    some_best (b, best) =
        let least = best_is_least table v (λ i l. h.sides i (record { b = pos 0; a = [] }) l) b best in
        let denied = row_each table (λ i. is_least table v i ≡ false) b (find-none (is_least table v) (row_numbers table) none) best.before in cc

-- if no pivot is chosen, no variable enters
pub entering-none : (table : Table) → IsInOrder table → table.in_stage ≡ true → choice table ≡ None → entering table ≡ None
unfolding choice
entering-none table h open_now e = by (entering table) refl e
  where
    paired : Var → ℕ → ℕ × Var
    paired v i = (i, v)

    by : (o : Option Var) → entering table ≡ o → option_and_then (λ v. option_map (paired v) (leaving table v)) o ≡ None → entering table ≡ None
    by None f k = f
    by (Some v) f k = then (leaving table v) refl k
      where
        then : (o : Option ℕ) → leaving table v ≡ o → option_map (paired v) o ≡ None → entering table ≡ None
        then None g m = absurd (leaving-some table h open_now v f g)
        then (Some i) g m = absurd cc
