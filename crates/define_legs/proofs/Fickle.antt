-- Two tables of a chain with the same value of the stage's variable: if variable t leaves in the first and enters in the second, some variable
-- after t is basic in one of the two alone.
use Rattle.std.proofs.Common.{◌≡◌, ◌≢◌, ℕ, ◌<◌, Bool, true, false, not, ◌&&◌, ◌||◌, [], length, Some, ℤ, pos, neg_ℤ, ◌*ℤ◌, ◌≤ℤ◌, ◌<ℤ◌, sym, ap, ◌∙◌, subst, arith, inl, inr, ◌⊎◌, ⊎_elim}
use Rattle.std.specs.Prelude.{int_lt, unsigned_abs}
use Rattle.std.specs.Ordering.{int_eq}
use Rattle.std.specs.List.{list_all}
use Rattle.std.proofs.lemmas.Int.{ints, by_lt_z}
use Rattle.std.proofs.lemmas.Bool.{cases_eq, and_parts}
use Rattle.std.proofs.lemmas.Bool.Decides.{Decides-int_eq}
use Rattle.define_pools.proofs.Integers.{mul_comm, mul_assoc, mul-left_comm, mul-neg, zero-mul, same-unscaled, product-positive, product-not_negative, product-not_positive, factor-positive, factor-not_negative, tested-lt, as_natural}
use Rattle.define_pools.proofs.Each.{each_from_list_all}
use Rattle.define_pools.proofs.Found.{find-passes}
use Rattle.define_rows.specs.declared.Var.{Var}
use Rattle.define_rows.specs.Table.{Table, coefficient, coefficient_at, row_at, basic_at, row_numbers, stage_variable, comes_before}
use Rattle.define_rows.specs.Choice.{may_leave, leaves_before, is_least, leaving, entering}
use Rattle.define_rows.specs.InOrder.{IsKnown, IsInOrder}
use Rattle.define_rows.proofs.Chosen.{IsChosen, left-row, left-positive, row_each}
use Rattle.define_rows.proofs.Totals.{total-picks}
use Rattle.define_legs.proofs.Frames.{SameFrame, coefficient-frame, rows-frame}
use Rattle.define_legs.proofs.Places.{place, place-before, IsEligible, entered-negative, entered-first}
use Rattle.define_legs.proofs.Mixes.{IsMix, mix-from, no_part, total-negative}
use Rattle.define_legs.proofs.Moves.{IsBasicIn}

-- if the chosen row has the right side 0, no row with the right side 0 and a coefficient above 0 has a basic variable before the leaving one
chosen-before : (table : Table) (r : ℕ) (v : Var) → IsChosen table r v → (i : ℕ) → i < length table.rows → pos 0 <ℤ coefficient_at table i v → (row_at table i).b ≡ pos 0 → (row_at table r).b ≡ pos 0 →
    comes_before (basic_at table i) (basic_at table r) ≡ true → ⊥
unfolding leaving
chosen-before table r v c i l positive side_i side_r before =
    let least : is_least table v r ≡ true = find-passes (is_least table v) (row_numbers table) r c.left in
    let all = each_from_list_all (λ j. not (may_leave table v j) || not (leaves_before table v j r)) (row_numbers table)
    (and_parts (may_leave table v r) (list_all (λ j. not (may_leave table v j) || not (leaves_before table v j r)) (row_numbers table)) least).1 in
    let here = row_each table (λ j. (not (may_leave table v j) || not (leaves_before table v j r)) ≡ true) i all l in
    let may : may_leave table v i ≡ true = tested-lt (pos 0) (coefficient_at table i v) positive in
    let bi = (row_at table i).b in
    let br = (row_at table r).b in
    let ci = coefficient_at table i v in
    let cr = coefficient_at table r v in
    let even : bi *ℤ cr ≡ br *ℤ ci = ap (λ z. z *ℤ cr) side_i ∙ zero-mul cr ∙ sym (zero-mul ci) ∙ ap (λ z. z *ℤ ci) (sym side_r) in
    let tested : int_eq (bi *ℤ cr) (br *ℤ ci) ≡ true = (Decides-int_eq (bi *ℤ cr) (br *ℤ ci)).1 even in
    by (int_lt (bi *ℤ cr) (br *ℤ ci)) (int_eq (bi *ℤ cr) (br *ℤ ci)) (comes_before (basic_at table i) (basic_at table r)) (may_leave table v i) tested before may here
  where
    by : (a b t m : Bool) → b ≡ true → t ≡ true → m ≡ true → (not m || not (a || b && t)) ≡ true → ⊥
    by true b t true e f g k = absurd cc
    by false true true true e f g k = absurd cc
    by a false t m e f g k = absurd cc
    by a b false m e f g k = absurd cc
    by a b t false e f g k = absurd cc

-- a positive times a negative number is negative
product-negative : (a b : ℤ) → pos 0 <ℤ a → b <ℤ pos 0 → (a *ℤ b) <ℤ pos 0
product-negative a b h k = omega (arith, ints, mul-neg a b, product-positive a (neg_ℤ b) h (omega (arith, ints, k)))

factor-not_positive : (a b : ℤ) → pos 0 <ℤ b → (a *ℤ b) ≤ℤ pos 0 → a ≤ℤ pos 0
factor-not_positive a b h k = by_lt_z (pos 0) a (λ l. absurd (omega (arith, ints, product-positive a b l h, k))) (λ l. l)

-- what is known of row i of the first table: its basic variable is basic in the second too; or it is t; or it is eligible, before t, and
-- the row's right side is 0
abbrev pub IsFickle : Table → Table → Var → ℕ → Type 0
IsFickle table other t i =
    IsBasicIn other (basic_at table i) ⊎ ((basic_at table i ≡ t) ⊎ (IsEligible other (basic_at table i) × (place other (basic_at table i) < place other t) × ((row_at table i).b ≡ pos 0)))

module _ (table other : Table) (h : IsInOrder table) (k : IsInOrder other) (frame : SameFrame table other) (q : ℕ) (in_q : q < length table.rows) (stage : basic_at table q ≡ stage_variable table)
    (stage_there : basic_at other q ≡ stage_variable other) (same_stage : basic_at other q ≡ basic_at table q) where
  in_other : q < length other.rows
  in_other = omega (arith, rows-frame table other frame h k)

  long : length (row_at other q).a ≡ length table.sizes
  long = k.entry_count q (record { b = pos 0; a = [] }) in_other ∙ ap length frame.sizes

  mix : IsMix table (row_at other q)
  mix = mix-from table h (row_at other q) long

  there : (x : Var) → coefficient table (row_at other q) x ≡ coefficient_at other q x
  there x = sym (coefficient-frame table other frame (row_at other q) x)

  -- the factor of a row whose basic variable is basic in the other table, but isn't the stage's, is 0
  no-factor : (i : ℕ) → i < length table.rows → i ≢ q → IsBasicIn other (basic_at table i) → mix.factors i ≡ pos 0
  no-factor i l n (j, m, e) =
      let apart : q ≢ j = λ t. n (h.basic_different i q l in_q (sym e ∙ ap (basic_at other) (sym t) ∙ same_stage)) in
      no_part table (row_at other q) h mix i l (there (basic_at table i) ∙ ap (coefficient_at other q) (sym e) ∙ k.basic_others q j in_other m apart)

  -- ---- if the same variables are basic in both tables, the stage's variable has the same value in both
  pub same-value : ((i : ℕ) → i < length table.rows → IsBasicIn other (basic_at table i)) →
      pos (unsigned_abs (coefficient_at other q (basic_at other q))) *ℤ (row_at table q).b ≡ pos (unsigned_abs (coefficient_at table q (basic_at table q))) *ℤ (row_at other q).b
  same-value all =
      let x = mix in
      let f = x.factors q in
      let b = (row_at table q).b in
      let b' = (row_at other q).b in
      let own = coefficient_at table q (basic_at table q) in
      let own' = coefficient_at other q (basic_at other q) in
      let side : f *ℤ b ≡ pos x.multiple *ℤ b' =
      sym (total-picks (length table.rows) q (λ i. x.factors i *ℤ (row_at table i).b) in_q (λ i l n. ap (λ z. z *ℤ (row_at table i).b) (no-factor i l n (all i l)) ∙ zero-mul (row_at table i).b)) ∙ x.side in
      let at : f *ℤ own ≡ pos x.multiple *ℤ own' = x.own q in_q ∙ ap (λ z. pos x.multiple *ℤ z) (there (basic_at table q) ∙ ap (coefficient_at other q) (sym same_stage)) in
      let a : own ≡ pos (unsigned_abs own) = as_natural own (omega (arith, ints, h.basic_own q in_q)) in
      let a' : own' ≡ pos (unsigned_abs own') = as_natural own' (omega (arith, ints, k.basic_own q in_other)) in
      ap (λ z. z *ℤ b) (sym a')
      ∙ same-unscaled (own' *ℤ b) (own *ℤ b') x.multiple x.some
      (sym (mul_assoc (pos x.multiple) own' b) ∙ ap (λ z. z *ℤ b) (sym at ∙ mul_comm f own) ∙ mul_assoc own f b ∙ ap (λ z. own *ℤ z) side ∙ mul-left_comm own (pos x.multiple) b')
      ∙ ap (λ z. z *ℤ b') a

  -- ---- the argument of signs
  module _ (r : ℕ) (s t : Var) (chosen : IsChosen table r s) (leaves : basic_at table r ≡ t) (entered : entering other ≡ Some t) (known : IsKnown other t) (side_r : (row_at table r).b ≡ pos 0)
      (known_s : IsKnown other s) (eligible : IsEligible other s) (before : place other s < place other t)
      (known_basic : (i : ℕ) → i < length table.rows → IsKnown other (basic_at table i)) (fickle : (i : ℕ) → i < length table.rows → IsFickle table other t i) where
    in_r : r < length table.rows
    in_r = left-row table r s chosen

    -- the sign of a factor is that of the coefficient in the mix
    scaled : (i : ℕ) → i < length table.rows → mix.factors i *ℤ coefficient_at table i (basic_at table i) ≡ pos mix.multiple *ℤ coefficient_at other q (basic_at table i)
    scaled i l = mix.own i l ∙ ap (λ z. pos mix.multiple *ℤ z) (there (basic_at table i))

    stage_term : (mix.factors q *ℤ coefficient_at table q s) <ℤ pos 0
    stage_term =
        let some = mix.some in
        let own : pos 0 <ℤ coefficient_at other q (basic_at table q) = subst (λ x. pos 0 <ℤ coefficient_at other q x) same_stage (k.basic_own q in_other) in
        let up = product-positive (pos mix.multiple) (coefficient_at other q (basic_at table q)) (omega (arith, ints)) own in
        product-negative (mix.factors q) (coefficient_at table q s)
        (factor-positive (mix.factors q) (coefficient_at table q (basic_at table q)) (h.basic_own q in_q) (subst (λ z. pos 0 <ℤ z) (sym (scaled q in_q)) up))
        (entered-negative table h q in_q stage s chosen.entered)

    term : (i : ℕ) → i < length table.rows → (mix.factors i *ℤ coefficient_at table i s) ≤ℤ pos 0
    term i l = ⊎_elim (λ e. by_stage e) (λ n. by n (fickle i l)) (cases_eq i q)
      where
        by_stage : i ≡ q → (mix.factors i *ℤ coefficient_at table i s) ≤ℤ pos 0
        by_stage e = subst (λ j. (mix.factors j *ℤ coefficient_at table j s) ≤ℤ pos 0) (sym e) (omega (arith, ints, stage_term))

        by : i ≢ q → IsFickle table other t i → (mix.factors i *ℤ coefficient_at table i s) ≤ℤ pos 0
        by n (inl basic) = omega (arith, ints, ap (λ z. z *ℤ coefficient_at table i s) (no-factor i l n basic), zero-mul (coefficient_at table i s))
        by n (inr (inl e)) =
            let here : i ≡ r = h.basic_different i r l in_r (e ∙ sym leaves) in
            let below : coefficient_at other q (basic_at table i) <ℤ pos 0 = subst (λ x. coefficient_at other q x <ℤ pos 0) (sym e) (entered-negative other k q in_other stage_there t entered) in
            let above : pos 0 <ℤ coefficient_at table i s = subst (λ j. pos 0 <ℤ coefficient_at table j s) (sym here) (left-positive table r s chosen) in
            let down = product-not_positive (pos mix.multiple) (coefficient_at other q (basic_at table i)) (omega (arith, ints)) (omega (arith, ints, below)) in
            let factor = factor-not_positive (mix.factors i) (coefficient_at table i (basic_at table i)) (h.basic_own i l) (omega (arith, ints, down, scaled i l)) in
            omega (arith, ints, product-not_positive (coefficient_at table i s) (mix.factors i) (omega (arith, ints, above)) factor, mul_comm (coefficient_at table i s) (mix.factors i))
        by n (inr (inr (can, earlier, side))) =
            let up = entered-first other k q in_other stage_there t entered (basic_at table i) (known_basic i l) can earlier in
            let whole = product-not_negative (pos mix.multiple) (coefficient_at other q (basic_at table i)) (omega (arith, ints)) up in
            let factor = factor-not_negative (mix.factors i) (coefficient_at table i (basic_at table i)) (h.basic_own i l) (omega (arith, ints, whole, scaled i l)) in
            let below : coefficient_at table i s ≤ℤ pos 0 =
            by_lt_z (pos 0) (coefficient_at table i s)
            (λ m. absurd (chosen-before table r s chosen i l m side side_r (ap (comes_before (basic_at table i)) leaves ∙ place-before other (basic_at table i) t (known_basic i l) known earlier)))
            (λ m. m) in
            product-not_positive (mix.factors i) (coefficient_at table i s) factor below

    pub no_cycle : ⊥
    no_cycle =
        let up = entered-first other k q in_other stage_there t entered s known_s eligible before in
        let whole = product-not_negative (pos mix.multiple) (coefficient_at other q s) (omega (arith, ints)) up in
        let down = total-negative (length table.rows) q (λ i. mix.factors i *ℤ coefficient_at table i s) in_q stage_term term in
        omega (arith, ints, whole, down, mix.coefficients s, ap (λ z. pos mix.multiple *ℤ z) (there s))
