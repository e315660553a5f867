use Rattle.std.proofs.Common.{◌∙◌, ◌<◌, Vec, Global, map, filter, length, get_or, ap, sym, arith}
use Rattle.std.specs.List.{enumerate_from}
use Rattle.std.proofs.lemmas.List.{get_or-map, length-map, take_all}
use Rattle.std.proofs.lemmas.List.FromFn.{length-enumerate_from}
use Rattle.define_proofs.specs.Constraints.{Constraint}
use Rattle.prove_program.specs.declared.demands.Demand.{Demand}
use Rattle.prove_program.specs.declared.demands.Counted.TheVariants.{Everybody}
use Rattle.prove_program.specs.Demands.{constraint_of}
use Rattle.prove_program.specs.Programs.{QuotaRow, can_break, row_of}
use Rattle.prove_program.proofs.ListSteps.{numbered_at, passing_left, passing_taken}
use Rattle.prove_program.proofs.rows.rows.Goals.{then-can_break+in_ok-row+in_ok-push, else-can_break}
use Rattle.prove_program.proofs.rows.rows.Goals as goal

pub loop-number-preserved : goal.loop-number-preserved
loop-number-preserved c =
    let pool = c.args.pool.now in let columns = c.args.columns.now in let demands = c.args.demands.now in let k = c.loop-number.number in
    let none : Demand = record { counted = Everybody; lower = 0; upper = 0 } in
    let here : Constraint = constraint_of pool (get_or demands k none) in
    let all = map (constraint_of pool) demands in let numbered = enumerate_from 0 all in
    let many = length-map demands (constraint_of pool) in let count = length-enumerate_from 0 all in
    let inside : k < length numbered = omega (arith, many, count) in
    let at = numbered_at all k here (omega (arith, many)) (sym (get_or-map (constraint_of pool) demands k none here (omega arith))) in
    elim c.if-can_break.branch [
      | then-can_break+in_ok-row+in_ok-push w ↦
          passing_taken (row_of columns) (can_break columns) numbered k (k, here) c.loop-number.rows.items c.if-can_break.rows.items w.in_ok-row.field-0 inside at
          (sym (c.can_break.ensures k) ∙ w.if-can_break.true) w.in_ok-row.ensures (ap (λ (rows : Vec QuotaRow Global). rows.items) w.rows-is ∙ w.in_ok-push.ensures.items) c.loop-number.invariant
      | else-can_break w ↦
          passing_left (row_of columns) (can_break columns) numbered k (k, here) c.loop-number.rows.items c.if-can_break.rows.items inside at
          (sym (c.can_break.ensures k) ∙ w.if-can_break.false) (ap (λ (rows : Vec QuotaRow Global). rows.items) w.rows-is) c.loop-number.invariant
    ]

pub returns : goal.returns
returns c =
    let columns = c.args.columns.now in let demands = c.args.demands.now in
    let all = map (constraint_of c.args.pool.now) demands in
    let many = length-map demands (constraint_of c.args.pool.now) in let count = length-enumerate_from 0 all in
    c.loop-number.invariant ∙ ap (λ numbered. map (row_of columns) (filter (can_break columns) numbered)) (take_all c.loop-number.number (enumerate_from 0 all) (omega (arith, many, count)))
