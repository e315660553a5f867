use Rattle.std.proofs.Common.{◌≡◌, [], length, get_or, true, false, pos, ◌≤ℤ◌, sym, ap, ◌∙◌, subst, arith, rules, FitsSigned}
use Rattle.std.specs.Prelude.{int_lt}
use Rattle.std.specs.Int.{w128}
use Rattle.std.proofs.lemmas.Int.{to_z-of_z}
use Rattle.std.proofs.lemmas.List.{get_or_read, get_or_default}
use Rattle.define_pools.proofs.Integers.{lt-tested}
use Rattle.define_rows.specs.declared.Var.TheVariants.{Slack}
use Rattle.define_rows.specs.Table.{coefficient_at, row_at, basic_at}
use Rattle.exact_table.specs.Best.{IsLeaver}
use Rattle.exact_table.specs.Parts.{with_rows}
use Rattle.exact_table.proofs.PartLaws.{coefficient_at-with_rows}
use Rattle.exact_table.proofs.choosing.leaver_at.Goals as goal

pub returns-else-coefficient-gt0-clause-none : goal.returns-else-coefficient-gt0-clause-none
returns-else-coefficient-gt0-clause-none c =
    let f : FitsSigned w128 c.coefficient_in-coefficient.result = search rules in
    let e : c.coefficient_in-coefficient.result ≡ coefficient_at (with_rows c.args.frame.now c.args.rows.now c.args.basic.now) c.args.row c.args.variable =
    c.coefficient_in-coefficient.ensures.value ∙ coefficient_at-with_rows c.args.frame.now c.args.rows.now [] c.args.basic.now c.args.row c.args.variable in
    let no : int_lt (pos 0) c.coefficient_in-coefficient.result ≡ false = simp to_z-of_z at c.if-coefficient-gt0.false in
    ap (int_lt (pos 0)) (sym e) ∙ no

pub returns-then-coefficient-gt0-clause-some : goal.returns-then-coefficient-gt0-clause-some
returns-then-coefficient-gt0-clause-some c =
    let f : FitsSigned w128 c.coefficient_in-coefficient.result = search rules in
    let g : FitsSigned w128 c.side-side.result = search rules in
    let e : c.coefficient_in-coefficient.result ≡ coefficient_at (with_rows c.args.frame.now c.args.rows.now c.args.basic.now) c.args.row c.args.variable =
    c.coefficient_in-coefficient.ensures.value ∙ coefficient_at-with_rows c.args.frame.now c.args.rows.now [] c.args.basic.now c.args.row c.args.variable in
    let yes : int_lt (pos 0) c.coefficient_in-coefficient.result ≡ true = simp to_z-of_z at c.if-coefficient-gt0.true in
    let row : c.index-rows-row.result ≡ row_at (with_rows c.args.frame.now c.args.rows.now c.args.basic.now) c.args.row = get_or_read c.args.rows.now c.args.row c.index-rows-row.result c.requires.row c.index-rows-row.is (record { b = pos 0; a = [] }) in
    let side : c.side-side.result ≡ (row_at (with_rows c.args.frame.now c.args.rows.now c.args.basic.now) c.args.row).b = c.side-side.ensures ∙ ap (λ row. row.b) row in
    let basic : get_or c.args.basic.now c.args.row (Slack 0) ≡ basic_at (with_rows c.args.frame.now c.args.rows.now c.args.basic.now) c.args.row = get_or_default c.args.basic.now c.args.row (Slack 0) (Slack (length c.args.frame.now.sizes)) (omega (arith, c.requires.row, c.requires.basic)) in
    let h : IsLeaver (with_rows c.args.frame.now c.args.rows.now c.args.basic.now) c.args.variable c.args.row c.side-side.result c.coefficient_in-coefficient.result (get_or c.args.basic.now c.args.row (Slack 0)) = record {
      place = c.requires.row;
      side_is = side;
      coefficient_is = e;
      basic_is = basic;
      some_side = subst (λ z. pos 0 ≤ℤ z) (sym side) (c.requires.rows.sides c.args.row (record { b = pos 0; a = [] }) c.requires.row);
      positive = lt-tested (pos 0) c.coefficient_in-coefficient.result yes;
    } in
    simp to_z-of_z h
