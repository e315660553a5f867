use Rattle.std.proofs.Common.{◌≡◌, ◌∙◌, cond, [], ◌∷◌, ◌++◌, ℤ, pos, get_or, ap, ap₂, sym, arith}
use Rattle.std.proofs.lemmas.List.{map_more}
use Rattle.define_proofs.specs.Constraints.{coefficient}
use Rattle.prove_program.specs.declared.columns.Column.{Column}
use Rattle.prove_program.specs.Demands.{constraint_of}
use Rattle.prove_program.proofs.CountedRows.{coefficient_is}
use Rattle.prove_program.proofs.rows.coefficients.Goals as goal

pub loop-column-preserved : goal.loop-column-preserved
loop-column-preserved c =
    let pool = c.args.pool.now in let demand = c.args.demand.now in let columns = c.args.columns.now in let k = c.loop-column.column-index in
    let none : Column = record { first = 0; size = 0; least = 0; greatest = 0 } in
    let entry : Column → ℤ = λ column. coefficient (constraint_of pool demand) column.first in
    let value : c.one_if.result ≡ entry (get_or columns k none) =
    c.one_if.ensures ∙ ap (λ b. cond b (pos 1) (pos 0)) c.counts-is_counted.ensures ∙ sym (coefficient_is pool demand (get_or columns k none).first (c.requires.columns.firsts k none (omega arith))) in
    c.in_ok-push.ensures.items ∙ ap₂ (λ xs x. xs ++ x ∷ []) c.loop-column.invariant value ∙ sym (map_more entry columns k none (omega arith))
