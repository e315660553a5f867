use Rattle.std.proofs.Common.{List, ℕ, ◌∙◌, sym, subst}
use Rattle.define_pools.specs.Pool.{everybody}
use Rattle.prove_program.specs.declared.columns.Column.{Column}
use Rattle.prove_program.specs.Demands.{AreColumns, NumberColumns}
use Rattle.prove_program.proofs.PoolColumns.{own_are_columns, own_are_numbered}
use Rattle.prove_program.proofs.programs.Program.by_volunteer.Goals as goal

pub over-requires-clause-columns : goal.over-requires-clause-columns
over-requires-clause-columns c = subst (AreColumns c.args.pool.now) (sym (c.deref-3.ensures.value ∙ c.in_ok-columns.ensures)) (own_are_columns c.args.pool.now c.facts.ensures)

pub over-requires-clause-numbers : goal.over-requires-clause-numbers
over-requires-clause-numbers c =
    let pool = c.args.pool.now in
    subst (λ (numbers : List ℕ). NumberColumns pool numbers c.deref-3.result.now) (sym c.in_ok-everybody.ensures)
    (subst (λ (columns : List Column). NumberColumns pool (everybody pool) columns) (sym (c.deref-3.ensures.value ∙ c.in_ok-columns.ensures)) (own_are_numbered pool c.facts.ensures))
