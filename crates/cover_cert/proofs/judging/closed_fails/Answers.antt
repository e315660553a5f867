use Rattle.std.proofs.Common.{rules, ◌≡◌, ℕ, ◌-◌, ◌<◌, false, List, length, Some, FitsSigned, ◌⊎◌, inl, inr, arith, sym, ap, ap₂, ◌∙◌}
use Rattle.std.specs.Int.{w128}
use Rattle.std.specs.Prelude.{int_lt, reverse, slice_get}
use Rattle.std.proofs.lemmas.Int.{to_z-of_z}
use Rattle.std.proofs.lemmas.List.{length-reverse}
use Rattle.std.proofs.lemmas.Option.{slice_get-get_or}
use Rattle.define_rows.specs.Row.{Row}
use Rattle.define_searches.specs.Classes.{Classes}
use Rattle.define_searches.specs.Fronts.{optimistic}
use Rattle.define_covers.specs.Causes.{closed_fails}
use Rattle.define_covers.proofs.Numbered.{none_before, none_behind, one_at, turned_at_place}
use Rattle.cover_cert.proofs.judging.closed_fails.Goals as goal
use Rattle.cover_cert.proofs.judging.closed_fails.Goals.{After-index-row}

-- no row has a number that is 0 or above the number of rows
none_there : (all : Classes) (closed : List Row) (front : List ℕ) (number stages : ℕ) → stages ≡ length closed → (number ≡ 0) ⊎ ((number ≡ 0 → ⊥) × (stages < number)) → closed_fails all closed front number ≡ false
none_there all closed front number stages e (inl zero) = none_before (λ row. int_lt (optimistic all row front) row.b) number 1 (reverse closed) (omega arith)
none_there all closed front number stages e (inr many) =
    let above = many.1 in none_behind (λ row. int_lt (optimistic all row front) row.b) number 1 (reverse closed) (omega (arith, length-reverse closed))

-- the row that the code reads
module _ (c : After-index-row) where
  abbrev place : ℕ
  place = c.len-stages.result - c.args.number

  below : place < length c.args.terms.now.closed.items
  below = omega (arith, c.if-number-eq0.false, c.if-stages-number.false, c.len-stages.ensures, c.args.terms.now.closed.ok.0)

  row_at : slice_get c.args.terms.now.closed.items place ≡ Some c.index-row.result.now
  row_at = slice_get-get_or c.args.terms.now.closed.items place c.index-row.result.now below ∙ ap Some (sym c.index-row.ensures)

  fails_at : closed_fails c.args.terms.now.classes c.args.terms.now.closed.items c.args.front.now c.args.number ≡ int_lt (optimistic c.args.terms.now.classes c.index-row.result.now c.args.front.now) c.index-row.result.now.b
  fails_at =
      let all = c.args.terms.now.classes in let closed = c.args.terms.now.closed.items in let front = c.args.front.now in
      one_at (λ row. int_lt (optimistic all row front) row.b) c.args.number 1 (c.args.number - 1) (reverse closed) c.index-row.result.now
      (turned_at_place closed place (c.args.number - 1) c.index-row.result.now (omega (arith, c.if-number-eq0.false, c.if-stages-number.false, c.len-stages.ensures, c.args.terms.now.closed.ok.0)) row_at)
      (omega (arith, c.if-number-eq0.false))

pub returns-then-number-eq0 : goal.returns-then-number-eq0
returns-then-number-eq0 c =
    sym (none_there c.args.terms.now.classes c.args.terms.now.closed.items c.args.front.now c.args.number c.len-stages.result (omega (arith, c.len-stages.ensures, c.args.terms.now.closed.ok.0)) c.then-number-eq0.either)

pub optimistic_weight-requires-clause-narrow : goal.optimistic_weight-requires-clause-narrow
optimistic_weight-requires-clause-narrow c =
    let here = (goal.at.optimistic_weight-requires-clause-narrow c).After-index-row in
    c.requires.terms.closed_narrow (place here) c.index-row.result.now (row_at here)

pub optimistic_weight-requires-clause-sums : goal.optimistic_weight-requires-clause-sums
optimistic_weight-requires-clause-sums c =
    let here = (goal.at.optimistic_weight-requires-clause-sums c).After-index-row in
    c.requires.terms.closed_summed.each (place here) c.index-row.result.now c.index.result.now (row_at here)
    (slice_get-get_or c.args.terms.now.closed_sums.items (place here) c.index.result.now (omega (arith, below here, c.requires.terms.closed_summed.one_each)) ∙ ap Some (sym c.index.ensures))

pub returns : goal.returns
returns c =
    let here = (goal.at.returns c).After-index-row in
    let fo : FitsSigned w128 c.optimistic_weight.result = search rules in
    let fs : FitsSigned w128 c.side.result = search rules in
    let direct : int_lt c.optimistic_weight.result c.side.result ≡ closed_fails c.args.terms.now.classes c.args.terms.now.closed.items c.args.front.now c.args.number =
    ap₂ int_lt c.optimistic_weight.ensures c.side.ensures ∙ sym (fails_at here) in
    simp to_z-of_z direct
