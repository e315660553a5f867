use Rattle.std.proofs.Common.{◌+◌, length}
use Rattle.define_bundles.specs.BundleText.{pool_lines}
use Rattle.check_reasons.proofs.LineCounts.{pool_sum, same_sum}
use Rattle.check_reasons.proofs.counting.pool_line_count.Goals as goal

pub returns : goal.returns
returns c =
    let pool = c.args.pool.now in
    let volunteers = c.volunteers-volunteers.result.now in
    let before = c.in_ok-with_households.with_households in
    same_sum c.lines_after-4.result (before + c.decided_count.result) (length (pool_lines pool)) c.lines_after-4.ensures
    (pool_sum pool c.categories.result.now volunteers c.in_ok-categories.categories c.in_ok-lines_after.field-0 c.in_ok-with_volunteers.with_volunteers before c.household_count.result c.decided_count.result
    c.categories.ensures c.volunteers-volunteers.ensures c.in_ok-categories.ensures c.in_ok-lines_after.ensures c.in_ok-with_volunteers.ensures c.household_count.ensures c.in_ok-with_households.ensures c.decided_count.ensures)
