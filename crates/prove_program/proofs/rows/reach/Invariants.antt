use Rattle.std.proofs.Common.{◌≡◌, ◌≤◌, ◌*◌, cond, take}
use Rattle.std.specs.Prelude.{sum_by}
use Rattle.prove_program.specs.Demands.{is_counted}
use Rattle.prove_program.proofs.rows.reach.Given as goal

abbrev pub invariant-loop-column : goal.invariant-loop-column
invariant-loop-column l = record {
  least : l.least ≡ sum_by (λ column. cond (is_counted l.pool l.counted column.first) column.least 0) (take l.column-index l.columns);
  greatest : l.greatest ≡ sum_by (λ column. cond (is_counted l.pool l.counted column.first) column.greatest 0) (take l.column-index l.columns);
  small_least : l.least ≤ 4000 * l.column-index;
  small_greatest : l.greatest ≤ 4000 * l.column-index;
}
