use Rattle.std.proofs.Common.{◌∙◌}
use Rattle.check_search.proofs.StageTerms.{are_made, made_entries, made_reach}
use Rattle.check_search.proofs.terms.Terms.new.Goals as goal

pub of_rows-requires-clause-entries : goal.of_rows-requires-clause-entries
of_rows-requires-clause-entries c =
    let known = c.in_ok-likeness.ensures in
    made_entries c.args.pool.now c.args.earlier.now c.args.stage.now _ _ _
    (are_made c.args.pool.now c.args.earlier.now c.args.stage.now c.in_ok-likeness.likeness c.in_ok-leaders.leaders.items c.deref-2.result.now c.deref-3.result.now _ _ _
    known.pool known.stages c.in_ok-leaders.ensures c.in_ok-classes.ensures c.deref-2.ensures.value c.in_ok-closed.ensures c.deref-3.ensures.value c.in_ok-row.ensures)

pub of_rows-requires-clause-reach : goal.of_rows-requires-clause-reach
of_rows-requires-clause-reach c =
    let known = c.in_ok-likeness.ensures in
    made_reach c.args.pool.now c.args.earlier.now c.args.stage.now _ _ _
    (are_made c.args.pool.now c.args.earlier.now c.args.stage.now c.in_ok-likeness.likeness c.in_ok-leaders.leaders.items c.deref-2.result.now c.deref-3.result.now _ _ _
    known.pool known.stages c.in_ok-leaders.ensures c.in_ok-classes.ensures c.deref-2.ensures.value c.in_ok-closed.ensures c.deref-3.ensures.value c.in_ok-row.ensures) c.requires

pub returns-clause-stage : goal.returns-clause-stage
returns-clause-stage c =
    let known = c.in_ok-likeness.ensures in
    let made =
    are_made c.args.pool.now c.args.earlier.now c.args.stage.now c.in_ok-likeness.likeness c.in_ok-leaders.leaders.items c.deref-2.result.now c.deref-3.result.now c.in_ok-classes.classes c.in_ok-closed.closed.items c.in_ok-row.row
    known.pool known.stages c.in_ok-leaders.ensures c.in_ok-classes.ensures c.deref-2.ensures.value c.in_ok-closed.ensures c.deref-3.ensures.value c.in_ok-row.ensures in
    let terms = c.in_ok-of_rows.ensures in
    record { classes = terms.classes ∙ made.classes_are; closed = terms.closed ∙ made.closed_are; row = terms.row ∙ made.row_is }
