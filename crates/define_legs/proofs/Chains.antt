-- A chain as a run of pivots. No two of its tables have the same basic variables.
use Rattle.std.proofs.Common.{◌≡◌, ℕ, suc, ◌+◌, ◌-◌, ◌<◌, ◌≤◌, List, length, get_or, Option, Some, None, sym, ap, ◌∙◌, subst, arith}
use Rattle.std.specs.Prelude.{Contains}
use Rattle.std.proofs.lemmas.List.{get_or_default}
use Rattle.define_rows.specs.declared.Var.{Var}
use Rattle.define_rows.specs.declared.Var.TheVariants.{Slack}
use Rattle.define_rows.specs.Table.{Table}
use Rattle.define_rows.specs.Choice.{choice}
use Rattle.define_rows.specs.InOrder.{IsInOrder}
use Rattle.define_legs.specs.Chains.{IsChain, HasBasisOf, NoBasisTwice}
use Rattle.define_legs.proofs.Frames.{SameFrame, IsStep, step-from}
use Rattle.define_legs.proofs.Moves.{IsBasicIn}
use Rattle.define_legs.proofs.Cycles.{frames, no_basis_again}

pub basic-contained : (table : Table) → IsInOrder table → (x : Var) → Contains table.basic x → IsBasicIn table x
basic-contained table h x (k, l, e) = (k, omega (arith, l, h.basic_count, h.row_count), get_or_default table.basic k (Slack (length table.sizes)) x l ∙ e)

pub contains-basic : (table : Table) → IsInOrder table → (x : Var) → IsBasicIn table x → Contains table.basic x
contains-basic table h x (i, l, e) =
    let m : i < length table.basic = omega (arith, l, h.basic_count, h.row_count) in
    (i, m, get_or_default table.basic i x (Slack (length table.sizes)) m ∙ e)

-- the pivot that is chosen, or any, if none is
abbrev picked : Option (ℕ × Var) → ℕ × Var
picked None = (0, Slack 0)
picked (Some chosen) = chosen

-- the tables of a chain from place i on
module _ (tables : List Table) (chain : IsChain tables) (i : ℕ) (d : Table) where
  abbrev at : ℕ → Table
  at k = get_or tables (i + k) d

  abbrev pivot_row : ℕ → ℕ
  pivot_row k = (picked (choice (at k))).0

  abbrev entering_at : ℕ → Var
  entering_at k = (picked (choice (at k))).1

  step : (k : ℕ) → i + suc k < length tables → IsStep (at k) (at (suc k)) (pivot_row k) (entering_at k)
  step k l =
      let next = chain.next (i + k) d (omega arith) in
      let e : suc (i + k) ≡ i + suc k = omega arith in
      let made = step-from (at k) (get_or tables (suc (i + k)) d) next.row next.entering (chain.in_order (i + k) d (omega arith)) (chain.open_now (i + k) d (omega arith)) next.chosen next.pivoted in
      let pair : picked (choice (at k)) ≡ (next.row, next.entering) = ap picked next.chosen in
      subst (λ j. IsStep (at k) (get_or tables j d) (pivot_row k) (entering_at k)) e
      (subst (λ (p : ℕ × Var). IsStep (at k) (get_or tables (suc (i + k)) d) p.0 p.1) (sym pair) made)

  order : (k : ℕ) → i + k < length tables → IsInOrder (at k)
  order k l = chain.in_order (i + k) d l

  module _ (n : ℕ) (in_tables : i + n < length tables) where
    pub frames-chain : (k : ℕ) → k ≤ n → SameFrame (at 0) (at k)
    frames-chain = frames at n pivot_row entering_at (λ k l. step k (omega arith)) (λ k l. order k (omega arith))

    pub chain-returns : 0 < n → HasBasisOf (at 0) (at n) → ⊥
    chain-returns some same =
        let first = order 0 (omega arith) in
        let last = order n in_tables in
        no_basis_again at n pivot_row entering_at (λ k l. step k (omega arith)) (λ k l. order k (omega arith)) some
        (λ x h. basic-contained (at n) last x ((same x).0 (contains-basic (at 0) first x h)))
        (λ x h. basic-contained (at 0) first x ((same x).1 (contains-basic (at n) last x h)))

pub no_basis-twice : NoBasisTwice
no_basis-twice tables chain i j d l m same =
    let zero_there : i + 0 ≡ i = omega arith in
    let there : i + (j - i) ≡ j = omega arith in
    chain-returns tables chain i d (j - i) (omega arith) (omega arith)
    (subst (λ k. HasBasisOf (get_or tables (i + 0) d) (get_or tables k d)) (sym there) (subst (λ k. HasBasisOf (get_or tables k d) (get_or tables j d)) (sym zero_there) same))
