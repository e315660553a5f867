-- The sums of constraints that count volunteers, over columns.
use Rattle.std.proofs.Common.{◌≡◌, ℕ, ◌<◌, Bool, true, false, cond, ◌||◌, ltb, List, [], ◌∷◌, length, pos, ◌+ℤ◌, ◌*ℤ◌, refl, sym, ap, ap₂, ◌∙◌, arith}
use Rattle.std.specs.Prelude.{int_lt, sum_by}
use Rattle.std.specs.List.{All, AllByRecursion}
use Rattle.std.proofs.lemmas.List.Elements.{recursion_from_All}
use Rattle.std.proofs.lemmas.List.FromFn.{get_or-map-range_with_len}
use Rattle.define_pools.proofs.Integers.{one-mul, zero-mul}
use Rattle.define_pools.proofs.Sums as naturals
use Rattle.define_proofs.specs.Constraints.{coefficient}
use Rattle.define_proofs.proofs.SignedSums.{sum-is-total, total}
use Rattle.define_pools.specs.Pool.{Pool}
use Rattle.prove_program.specs.declared.columns.Column.{Column}
use Rattle.prove_program.specs.declared.demands.Demand.{Demand}
use Rattle.prove_program.specs.Demands.{constraint_of, is_counted}
use Rattle.prove_program.specs.Programs.{can_break, sum_over}

module _ (pool : Pool) (demand : Demand) where
  abbrev counts : Column → Bool
  counts column = is_counted pool demand.counted column.first

  pub coefficient_is : (i : ℕ) → i < length pool.volunteers → coefficient (constraint_of pool demand) i ≡ cond (is_counted pool demand.counted i) (pos 1) (pos 0)
  coefficient_is i l = get_or-map-range_with_len (λ i. cond (is_counted pool demand.counted i) (pos 1) (pos 0)) 0 (length pool.volunteers) i i (pos 0) l (omega arith)

  times_one : (b : Bool) (n : ℕ) → cond b (pos 1) (pos 0) *ℤ pos n ≡ pos (cond b n 0)
  times_one true n = one-mul (pos n)
  times_one false n = zero-mul (pos n)

  counted_total : (count : Column → ℕ) (columns : List Column) → AllByRecursion (λ column. column.first < length pool.volunteers) columns →
      total (λ column. coefficient (constraint_of pool demand) column.first *ℤ pos (count column)) columns ≡ pos (naturals.total (λ column. cond (counts column) (count column) 0) columns)
  counted_total count [] h = refl
  counted_total count (column ∷ columns) h =
      let here : coefficient (constraint_of pool demand) column.first *ℤ pos (count column) ≡ pos (cond (counts column) (count column) 0) =
      ap (λ z. z *ℤ pos (count column)) (coefficient_is column.first h.0) ∙ times_one (counts column) (count column) in
      let rest = counted_total count columns h.1 in
      ap₂ (λ a b. a +ℤ b) here rest

  pub counted_sum : (count : Column → ℕ) (columns : List Column) → All (λ column. column.first < length pool.volunteers) columns →
      sum_over count columns (constraint_of pool demand) ≡ pos (sum_by (λ column. cond (counts column) (count column) 0) columns)
  counted_sum count columns h =
      sum-is-total (λ column. coefficient (constraint_of pool demand) column.first *ℤ pos (count column)) columns
      ∙ counted_total count columns (recursion_from_All (λ column. column.first < length pool.volunteers) columns h)
      ∙ ap pos (sym (naturals.sum_by-is-total (λ column. cond (counts column) (count column) 0) columns))

  -- some point breaks the constraint iff its least sum is below the lower bound or its greatest sum is above the upper bound
  pub breaks_where : (columns : List Column) (least greatest : ℕ) (number : ℕ) → All (λ column. column.first < length pool.volunteers) columns →
      least ≡ sum_by (λ column. cond (counts column) column.least 0) columns → greatest ≡ sum_by (λ column. cond (counts column) column.greatest 0) columns →
      can_break columns (number, constraint_of pool demand) ≡ (ltb least demand.lower || ltb demand.upper greatest)
  breaks_where columns least greatest number firsts l g =
      ap₂ (λ low high. int_lt low (pos demand.lower) || int_lt (pos demand.upper) high)
      (counted_sum (λ column. column.least) columns firsts ∙ ap pos (sym l)) (counted_sum (λ column. column.greatest) columns firsts ∙ ap pos (sym g))
