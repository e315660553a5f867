-- No chain comes back to a set of basic variables: in a cycle each pivot row has the right side 0, and the variables that enter or leave
-- contradict the choice of the last of them.
use Rattle.std.proofs.Common.{◌≡◌, ◌≢◌, ℕ, zero, suc, ◌+◌, ◌-◌, ◌<◌, ◌≤◌, true, false, [], length, get_or, Option, Some, None, pos, ◌<ℤ◌, refl, sym, ap, ◌∙◌, subst, arith, inl, inr, ◌⊎◌, ⊎_elim}
use Rattle.std.specs.Prelude.{unsigned_abs}
use Rattle.std.proofs.lemmas.Int.{ints, by_lt_z}
use Rattle.std.proofs.lemmas.Bool.{cases_eq, cases_lt}
use Rattle.define_pools.proofs.Integers.{abs-positive}
use Rattle.define_pools.proofs.Found.{position-None}
use Rattle.define_rows.specs.declared.Var.{Var}
use Rattle.define_rows.specs.declared.Var.TheVariants.{Slack}
use Rattle.define_rows.specs.Table.{Table, coefficient, coefficient_at, row_at, basic_at, is_same, stage_variable}
use Rattle.define_rows.specs.Choice.{basic_row, entering_from, entering}
use Rattle.define_rows.specs.InOrder.{IsKnown, IsInOrder}
use Rattle.define_rows.proofs.Entered.{place_of, entered-known, entered-closed}
use Rattle.define_rows.proofs.Solutions.{is_same_refl}
use Rattle.define_legs.proofs.Frames.{SameFrame, frame-itself, frame-sym, frame-trans, coefficient-frame, known-frame, stage_variable-frame, rows-frame, IsStep}
use Rattle.define_legs.proofs.Places.{place, place-frame, place-same, same_or, IsEligible, entered-fresh}
use Rattle.define_legs.proofs.Moves.{AtMost, at_most-chain, IsBasicIn, IsAtZero, in_rows, basic-other, stays_basic, was_basic, now_basic, stays_at_zero, was_at_zero, stage-stays, value-rises, value-rises_more}
use Rattle.define_legs.proofs.Fickle.{IsFickle, same-value, no_cycle}

-- x is among the first n variables, or none of them is x
some_or_none : (n : ℕ) (w : ℕ → Var) (x : Var) → ((k : ℕ) × (k < n) × (w k ≡ x)) ⊎ ((k : ℕ) → k < n → w k ≢ x)
some_or_none zero w x = inr (λ k l. absurd (omega arith))
some_or_none (suc n) w x = by (some_or_none n w x) (same_or (w n) x)
  where
    by : ((k : ℕ) × (k < n) × (w k ≡ x)) ⊎ ((k : ℕ) → k < n → w k ≢ x) → (w n ≡ x) ⊎ (w n ≢ x) → ((k : ℕ) × (k < suc n) × (w k ≡ x)) ⊎ ((k : ℕ) → k < suc n → w k ≢ x)
    by (inl (k, l, e)) b = inl (k, omega arith, e)
    by (inr none) (inl e) = inl (n, omega arith, e)
    by (inr none) (inr o) = inr (λ k l. ⊎_elim (λ t. subst (λ j. w j ≢ x) (sym t) o) (λ d. none k (omega arith)) (cases_eq k n))

-- some number below n has the greatest value
greatest : (n : ℕ) (f : ℕ → ℕ) → 0 < n → (k : ℕ) × (k < n) × ((j : ℕ) → j < n → f j ≤ f k)
greatest zero f l = absurd (omega arith)
greatest (suc n) f l = start (cases_eq n 0) (λ p. greatest n f p)
  where
    more : (k : ℕ) → k < n → ((j : ℕ) → j < n → f j ≤ f k) → (f n < f k) ⊎ (f k ≤ f n) → (k : ℕ) × (k < suc n) × ((j : ℕ) → j < suc n → f j ≤ f k)
    more k m h (inl o) = (k, omega arith, λ j p. ⊎_elim (λ t. let e : f j ≡ f n = ap f t in omega arith) (λ d. h j (omega arith)) (cases_eq j n))
    more k m h (inr o) = (n, omega arith, λ j p. ⊎_elim (λ t. let e : f j ≡ f n = ap f t in omega arith) (λ d. let a = h j (omega arith) in omega arith) (cases_eq j n))

    start : (n ≡ 0) ⊎ (n ≢ 0) → (0 < n → (k : ℕ) × (k < n) × ((j : ℕ) → j < n → f j ≤ f k)) → (k : ℕ) × (k < suc n) × ((j : ℕ) → j < suc n → f j ≤ f k)
    start (inl e) rest = (n, omega arith, λ j p. let same : f j ≡ f n = (let t : j ≡ n = omega arith in ap f t) in omega arith)
    start (inr o) rest = let g = rest (omega arith) in more g.0 g.1 g.2 (cases_lt (f n) (f g.0))

-- the variable is basic in the table, or not
basic_or_not : (table : Table) → IsInOrder table → (x : Var) → IsBasicIn table x ⊎ (IsBasicIn table x → ⊥)
basic_or_not table h x = by (basic_row table x) refl
  where
    by : (o : Option ℕ) → basic_row table x ≡ o → IsBasicIn table x ⊎ (IsBasicIn table x → ⊥)
    by (Some i) e = let p = place_of table x i e in inl (i, omega (arith, p.0, h.basic_count, h.row_count), p.1)
    by None e = inr not_there
      where
        not_there : IsBasicIn table x → ⊥
        not_there (i, l, s) =
            let no : is_same (basic_at table i) x ≡ false = position-None (λ y. is_same y x) table.basic i (Slack (length table.sizes)) e (omega (arith, h.basic_count, h.row_count)) in
            let yes : is_same (basic_at table i) x ≡ true = ap (λ y. is_same y x) s ∙ is_same_refl x in cc

-- if the stage's variable isn't basic, it enters
enters_first : (table : Table) → IsInOrder table → (v : Var) → entering table ≡ Some v → (IsBasicIn table (stage_variable table) → ⊥) → v ≡ stage_variable table
unfolding entering
enters_first table h v entered not_basic = by (basic_row table (stage_variable table)) refl entered
  where
    by : (o : Option ℕ) → basic_row table (stage_variable table) ≡ o → entering_from table o ≡ Some v → v ≡ stage_variable table
    by None e f = cc
    by (Some i) e f = let p = place_of table (stage_variable table) i e in absurd (not_basic (i, omega (arith, p.0, h.basic_count, h.row_count), p.1))

-- a run of pivots: the tables `at 0` to `at n`, each made from the one before by the chosen pivot
module _ (at : ℕ → Table) (n : ℕ) (r : ℕ → ℕ) (v : ℕ → Var) (steps : (k : ℕ) → k < n → IsStep (at k) (at (suc k)) (r k) (v k)) (orders : (k : ℕ) → k ≤ n → IsInOrder (at k)) where
  pub frames : (k : ℕ) → k ≤ n → SameFrame (at 0) (at k)
  frames zero l = frame-itself (at 0)
  frames (suc k) l = frame-trans (at 0) (at k) (at (suc k)) (frames k (omega arith)) (steps k (omega arith)).frame

  count : (k : ℕ) → k ≤ n → length (at k).rows ≡ length (at 0).rows
  count k l = rows-frame (at 0) (at k) (frames k l) (orders 0 (omega arith)) (orders k l)

  stage_at : (k : ℕ) → k ≤ n → stage_variable (at k) ≡ stage_variable (at 0)
  stage_at k l = stage_variable-frame (at 0) (at k) (frames k l)

  places : (k : ℕ) → k ≤ n → (x : Var) → place (at k) x ≡ place (at 0) x
  places k l x = place-frame (at 0) (at k) (frames k l) x

  -- a variable of one table is a variable of each
  known_at : (a b : ℕ) → a ≤ n → b ≤ n → (x : Var) → IsKnown (at a) x → IsKnown (at b) x
  known_at a b l m x k = known-frame (at b) (at 0) (frame-sym (at 0) (at b) (frames b m)) x (known-frame (at 0) (at a) (frames a l) x k)

  entered_known : (k : ℕ) → k < n → IsKnown (at k) (v k)
  entered_known k l = let s = steps k l in entered-known (at k) s.before s.open_now (v k) s.chosen.entered

  -- ---- closed rows: a variable is eligible in all tables or in none
  closed_step : (k : ℕ) → k < n → (x : Var) (q : ℕ) → q < length (at k).closed → coefficient_at (at (suc k)) (get_or (at (suc k)).closed q 0) x ≡ coefficient_at (at k) (get_or (at k).closed q 0) x
  closed_step k l x q m =
      let s = steps k l in
      ap (λ i. coefficient_at (at (suc k)) i x) (ap (λ is. get_or is q 0) s.closed.closed)
      ∙ coefficient-frame (at k) (at (suc k)) s.frame (row_at (at (suc k)) (get_or (at k).closed q 0)) x
      ∙ ap (λ row. coefficient (at k) row x) (s.closed.numbers q 0 m)

  closed_count : (k : ℕ) → k ≤ n → length (at k).closed ≡ length (at 0).closed
  closed_count zero l = refl
  closed_count (suc k) l = ap length (steps k (omega arith)).closed.closed ∙ closed_count k (omega arith)

  closed_same : (k : ℕ) → k ≤ n → (x : Var) (q : ℕ) → q < length (at 0).closed → coefficient_at (at k) (get_or (at k).closed q 0) x ≡ coefficient_at (at 0) (get_or (at 0).closed q 0) x
  closed_same zero l x q m = refl
  closed_same (suc k) l x q m = closed_step k (omega arith) x q (omega (arith, closed_count k (omega arith))) ∙ closed_same k (omega arith) x q m

  eligible_at : (a b : ℕ) → a ≤ n → b ≤ n → (x : Var) → IsEligible (at a) x → IsEligible (at b) x
  eligible_at a b l m x h q o =
      closed_same b m x q (omega (arith, closed_count b m)) ∙ sym (closed_same a l x q (omega (arith, closed_count b m)))
      ∙ h q (omega (arith, closed_count a l, closed_count b m))

  entered_eligible : (k : ℕ) → k < n → IsEligible (at k) (v k)
  entered_eligible k l = let s = steps k l in λ q m. entered-closed (at k) s.before s.open_now (v k) s.chosen.entered q m

  -- ---- which variables are basic
  forth : (x : Var) → ((k : ℕ) → k < n → basic_at (at k) (r k) ≢ x) → (a d : ℕ) → a + d ≤ n → IsBasicIn (at a) x → IsBasicIn (at (a + d)) x
  forth x none a zero l h = let e : a ≡ a + 0 = omega arith in subst (λ k. IsBasicIn (at k) x) e h
  forth x none a (suc d) l h =
      let e : suc (a + d) ≡ a + suc d = omega arith in
      subst (λ k. IsBasicIn (at k) x) e (stays_basic (at (a + d)) (at (suc (a + d))) (r (a + d)) (v (a + d)) (steps (a + d) (omega arith)) x (none (a + d) (omega arith)) (forth x none a d (omega arith) h))

  back : (x : Var) → ((k : ℕ) → k < n → v k ≢ x) → (a d : ℕ) → a + d ≤ n → IsBasicIn (at (a + d)) x → IsBasicIn (at a) x
  back x none a zero l h = let e : a + 0 ≡ a = omega arith in subst (λ k. IsBasicIn (at k) x) e h
  back x none a (suc d) l h =
      let e : a + suc d ≡ suc (a + d) = omega arith in
      back x none a d (omega arith) (was_basic (at (a + d)) (at (suc (a + d))) (r (a + d)) (v (a + d)) (steps (a + d) (omega arith)) x (none (a + d) (omega arith)) (subst (λ k. IsBasicIn (at k) x) e h))

  -- ---- the stage's variable stays basic, in the same row
  module _ (q : ℕ) (in_q : q < length (at 0).rows) (stage : basic_at (at 0) q ≡ stage_variable (at 0)) where
    stage_row : (k : ℕ) → k ≤ n → basic_at (at k) q ≡ stage_variable (at k)
    stage_row zero l = stage
    stage_row (suc k) l =
        let s = steps k (omega arith) in
        let here = stage_row k (omega arith) in
        basic-other (at k) (at (suc k)) (r k) (v k) s q (stage-stays (at k) (at (suc k)) (r k) (v k) s q (omega (arith, count k (omega arith))) here)
        ∙ here ∙ stage_at k (omega arith) ∙ sym (stage_at (suc k) l)

    abbrev own : ℕ → ℕ
    own k = unsigned_abs (coefficient_at (at k) q (basic_at (at k) q))

    own_positive : (k : ℕ) → k ≤ n → 0 < own k
    own_positive k l = abs-positive (coefficient_at (at k) q (basic_at (at k) q)) ((orders k l).basic_own q (omega (arith, count k l)))

    one_rise : (k : ℕ) → k < n → AtMost (row_at (at k) q).b (own k) (row_at (at (suc k)) q).b (own (suc k))
    one_rise k l = value-rises (at k) (at (suc k)) (r k) (v k) (steps k l) q (omega (arith, count k (omega arith))) (stage_row k (omega arith))

    rise : (a d : ℕ) → a + d ≤ n → AtMost (row_at (at a) q).b (own a) (row_at (at (a + d)) q).b (own (a + d))
    rise a zero l = let e : a ≡ a + 0 = omega arith in subst (λ k. AtMost (row_at (at a) q).b (own a) (row_at (at k) q).b (own k)) e (omega (arith, ints))
    rise a (suc d) l =
        let e : suc (a + d) ≡ a + suc d = omega arith in
        subst (λ k. AtMost (row_at (at a) q).b (own a) (row_at (at k) q).b (own k)) e
        (at_most-chain (row_at (at a) q).b (row_at (at (a + d)) q).b (row_at (at (suc (a + d))) q).b (own a) (own (a + d)) (own (suc (a + d))) (own_positive (a + d) (omega arith)) (rise a d (omega arith)) (one_rise (a + d) (omega arith)))

    -- ---- a cycle
    module _ (some : 0 < n) (forward : (x : Var) → IsBasicIn (at 0) x → IsBasicIn (at n) x) (backward : (x : Var) → IsBasicIn (at n) x → IsBasicIn (at 0) x) where
      closes : AtMost (row_at (at n) q).b (own n) (row_at (at 0) q).b (own 0)
      closes =
          let same = same-value (at 0) (at n) (orders 0 (omega arith)) (orders n (omega arith)) (frames n (omega arith)) q in_q stage (stage_row n (omega arith))
          (stage_row n (omega arith) ∙ stage_at n (omega arith) ∙ sym stage) (λ i l. forward (basic_at (at 0) i) (i, l, refl)) in
          omega (arith, ints, same)

      -- each pivot row has the right side 0
      all_zero : (k : ℕ) → k < n → (row_at (at k) (r k)).b ≡ pos 0
      all_zero k l =
          let s = steps k l in
          by_lt_z (pos 0) (row_at (at k) (r k)).b (λ above. absurd (by above))
          (λ m. omega (arith, ints, s.before.sides (r k) (record { b = pos 0; a = [] }) (in_rows (at k) (at (suc k)) (r k) (v k) s)))
        where
          by : pos 0 <ℤ (row_at (at k) (r k)).b → ⊥
          by above =
              let s = steps k l in
              let up = value-rises_more (at k) (at (suc k)) (r k) (v k) s q (omega (arith, count k (omega arith))) (stage_row k (omega arith)) above in
              let e : suc k + (n - suc k) ≡ n = omega arith in
              let z : 0 + k ≡ k = omega arith in
              let first : AtMost (row_at (at 0) q).b (own 0) (row_at (at k) q).b (own k) = subst (λ j. AtMost (row_at (at 0) q).b (own 0) (row_at (at j) q).b (own j)) z (rise 0 k (omega arith)) in
              let last : AtMost (row_at (at (suc k)) q).b (own (suc k)) (row_at (at n) q).b (own n) =
              subst (λ j. AtMost (row_at (at (suc k)) q).b (own (suc k)) (row_at (at j) q).b (own j)) e (rise (suc k) (n - suc k) (omega arith)) in
              let through = at_most-chain (row_at (at (suc k)) q).b (row_at (at n) q).b (row_at (at 0) q).b (own (suc k)) (own n) (own 0) (own_positive n (omega arith)) last closes in
              let round = at_most-chain (row_at (at (suc k)) q).b (row_at (at 0) q).b (row_at (at k) q).b (own (suc k)) (own 0) (own k) (own_positive 0 (omega arith)) through first in
              omega (arith, ints, up, round)

      -- ---- variables at 0
      zero_down : (x : Var) (k : ℕ) → k ≤ n → IsAtZero (at k) x → IsAtZero (at 0) x
      zero_down x zero l h = h
      zero_down x (suc k) l h = zero_down x k (omega arith) (was_at_zero (at k) (at (suc k)) (r k) (v k) (steps k (omega arith)) (all_zero k (omega arith)) x h)

      zero_up : (x : Var) (k : ℕ) → k ≤ n → IsAtZero (at 0) x → IsAtZero (at k) x
      zero_up x zero l h = h
      zero_up x (suc k) l h = stays_at_zero (at k) (at (suc k)) (r k) (v k) (steps k (omega arith)) (all_zero k (omega arith)) x (zero_up x k (omega arith) h)

      -- ---- fickle variables
      -- a variable that never enters is basic in all tables or in none
      never_enters : (x : Var) → ((k : ℕ) → k < n → v k ≢ x) → (a b : ℕ) → a ≤ n → b ≤ n → IsBasicIn (at a) x → IsBasicIn (at b) x
      never_enters x none a b l m h =
          let z : a ≡ 0 + a = omega arith in
          let e : n ≡ b + (n - b) = omega arith in
          back x none b (n - b) (omega arith) (subst (λ k. IsBasicIn (at k) x) e (forward x (back x none 0 a (omega arith) (subst (λ k. IsBasicIn (at k) x) z h))))

      never_leaves : (x : Var) → ((k : ℕ) → k < n → basic_at (at k) (r k) ≢ x) → (a b : ℕ) → a ≤ n → b ≤ n → IsBasicIn (at a) x → IsBasicIn (at b) x
      never_leaves x none a b l m h =
          let z : 0 + b ≡ b = omega arith in
          let e : a + (n - a) ≡ n = omega arith in
          subst (λ k. IsBasicIn (at k) x) z (forth x none 0 b (omega arith) (backward x (subst (λ k. IsBasicIn (at k) x) e (forth x none a (n - a) (omega arith) h))))

      fresh : (k : ℕ) → k < n → IsBasicIn (at k) (v k) → ⊥
      fresh k l (j, m, e) = let s = steps k l in entered-fresh (at k) s.before q (omega (arith, count k (omega arith))) (stage_row k (omega arith)) (v k) s.chosen.entered j m e

      -- t, the last of the variables that enter, enters in table a and leaves in table b
      module _ (a : ℕ) (in_a : a < n) (last : (k : ℕ) → k < n → place (at 0) (v k) ≤ place (at 0) (v a)) (b : ℕ) (in_b : b < n) (leaves : basic_at (at b) (r b) ≡ v a) where
        -- a variable that enters somewhere, other than t, is before t
        earlier : (k : ℕ) → k < n → v k ≢ v a → place (at a) (v k) < place (at a) (v a)
        earlier k l o =
            let known = known_at k 0 (omega arith) (omega arith) (v k) (entered_known k l) in
            let known_t = known_at a 0 (omega arith) (omega arith) (v a) (entered_known a in_a) in
            let apart : place (at 0) (v k) ≢ place (at 0) (v a) = λ e. o (place-same (at 0) (v k) (v a) known known_t e) in
            let m = last k l in
            omega (arith, places a (omega arith) (v k), places a (omega arith) (v a), strict (place (at 0) (v k)) (place (at 0) (v a)) apart m)
          where
            strict : (i j : ℕ) → i ≢ j → i ≤ j → i < j
            strict i j n m = ⊎_elim (λ e. absurd (n e)) (λ d. omega arith) (cases_eq i j)

        fickle : (i : ℕ) → i < length (at b).rows → IsFickle (at b) (at a) (v a) i
        fickle i l = by (basic_or_not (at a) (orders a (omega arith)) (basic_at (at b) i)) (some_or_none n v (basic_at (at b) i)) (same_or (basic_at (at b) i) (v a))
          where
            by : IsBasicIn (at a) (basic_at (at b) i) ⊎ (IsBasicIn (at a) (basic_at (at b) i) → ⊥) →
                ((k : ℕ) × (k < n) × (v k ≡ basic_at (at b) i)) ⊎ ((k : ℕ) → k < n → v k ≢ basic_at (at b) i) → (basic_at (at b) i ≡ v a) ⊎ (basic_at (at b) i ≢ v a) → IsFickle (at b) (at a) (v a) i
            by (inl basic) c d = inl basic
            by (inr not_basic) (inr never) d = absurd (not_basic (never_enters (basic_at (at b) i) never b a (omega arith) (omega arith) (i, l, refl)))
            by (inr not_basic) (inl c) (inl e) = inr (inl e)
            by (inr not_basic) (inl (k, m, e)) (inr o) =
                let x = basic_at (at b) i in
                let zero_there : IsAtZero (at a) x = λ j p s. absurd (not_basic (j, p, s)) in
                let zero_here = zero_up x b (omega arith) (zero_down x a (omega arith) zero_there) in
                inr (inr (
                  subst (IsEligible (at a)) e (eligible_at k a (omega arith) (omega arith) (v k) (entered_eligible k m)),
                  subst (λ y. place (at a) y < place (at a) (v a)) e (earlier k m (λ s. o (sym e ∙ s))),
                  zero_here i l refl,
                ))

        contradiction : ⊥
        contradiction =
            let s = steps b in_b in
            let other : v b ≢ v a = λ e. fresh b in_b (r b, in_rows (at b) (at (suc b)) (r b) (v b) s, leaves ∙ sym e) in
            no_cycle (at b) (at a) (orders b (omega arith)) (orders a (omega arith))
            (frame-trans (at b) (at 0) (at a) (frame-sym (at 0) (at b) (frames b (omega arith))) (frames a (omega arith))) q (omega (arith, count b (omega arith)))
            (stage_row b (omega arith)) (stage_row a (omega arith)) (stage_row a (omega arith) ∙ stage_at a (omega arith) ∙ sym (stage_row b (omega arith) ∙ stage_at b (omega arith)))
            (r b) (v b) (v a) s.chosen leaves (steps a in_a).chosen.entered (entered_known a in_a) (all_zero b in_b)
            (known_at b a (omega arith) (omega arith) (v b) (entered_known b in_b)) (eligible_at b a (omega arith) (omega arith) (v b) (entered_eligible b in_b)) (earlier b in_b other)
            (λ i l. known_at b a (omega arith) (omega arith) (basic_at (at b) i) (s.before.basic_known i (Slack (length (at b).sizes)) (omega (arith, s.before.basic_count, s.before.row_count))))
            fickle

      no_return : ⊥
      no_return =
          let g = greatest n (λ k. place (at 0) (v k)) some in
          let a = g.0 in
          ⊎_elim (λ found. contradiction a g.1 g.2 found.0 found.1 found.2)
          (λ never. fresh a g.1 (never_leaves (v a) never (suc a) a (omega (arith, g.1)) (omega (arith, g.1)) (now_basic (at a) (at (suc a)) (r a) (v a) (steps a g.1))))
          (some_or_none n (λ k. basic_at (at k) (r k)) (v a))

  -- ---- the stage's variable enters at most once
  stage_basic : (a d : ℕ) → a + d ≤ n → IsBasicIn (at a) (stage_variable (at 0)) → IsBasicIn (at (a + d)) (stage_variable (at 0))
  stage_basic a zero l h = let e : a ≡ a + 0 = omega arith in subst (λ k. IsBasicIn (at k) (stage_variable (at 0))) e h
  stage_basic a (suc d) l h =
      let e : suc (a + d) ≡ a + suc d = omega arith in
      subst (λ k. IsBasicIn (at k) (stage_variable (at 0))) e (one (a + d) (omega arith) (stage_basic a d (omega arith) h))
    where
      one : (k : ℕ) → k < n → IsBasicIn (at k) (stage_variable (at 0)) → IsBasicIn (at (suc k)) (stage_variable (at 0))
      one k m (q, in_q, e) =
          let s = steps k m in
          let apart = stage-stays (at k) (at (suc k)) (r k) (v k) s q in_q (e ∙ sym (stage_at k (omega arith))) in
          let stays : basic_at (at k) (r k) ≢ stage_variable (at 0) = λ t. apart (s.before.basic_different q (r k) in_q (in_rows (at k) (at (suc k)) (r k) (v k) s) (e ∙ sym t)) in
          stays_basic (at k) (at (suc k)) (r k) (v k) s (stage_variable (at 0)) stays (q, in_q, e)

  -- the run doesn't come back to the variables that are basic at first
  pub no_basis_again : 0 < n → ((x : Var) → IsBasicIn (at 0) x → IsBasicIn (at n) x) → ((x : Var) → IsBasicIn (at n) x → IsBasicIn (at 0) x) → ⊥
  no_basis_again some forward backward = by (basic_or_not (at 0) (orders 0 (omega arith)) (stage_variable (at 0)))
    where
      by : IsBasicIn (at 0) (stage_variable (at 0)) ⊎ (IsBasicIn (at 0) (stage_variable (at 0)) → ⊥) → ⊥
      by (inl (q, l, e)) = no_return q l e some forward backward
      by (inr not_basic) =
          let s = steps 0 some in
          let enters = enters_first (at 0) s.before (v 0) s.chosen.entered not_basic in
          let one : IsBasicIn (at 1) (stage_variable (at 0)) = subst (IsBasicIn (at 1)) enters (now_basic (at 0) (at 1) (r 0) (v 0) s) in
          let e : 1 + (n - 1) ≡ n = omega arith in
          not_basic (backward (stage_variable (at 0)) (subst (λ k. IsBasicIn (at k) (stage_variable (at 0))) e (stage_basic 1 (n - 1) (omega arith) one)))
