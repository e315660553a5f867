use Rattle.std.proofs.Common.{◌≡◌, Err, rules, subst, sym}
use Rattle.command_browser.specs.FirstPools.{ImportsOrStops}
use Rattle.command_browser.proofs.Imports.{at_charter, at_register, at_rules}
use Rattle.command_browser.proofs.first_pools.imported.Goals as goal

pub returns-in_err-chartered : goal.returns-in_err-chartered
returns-in_err-chartered c =
    let stop = c.in_err-chartered.field-0.0 in
    let same : c.from_residual-in_err-chartered.result ≡ Err stop = search rules in
    subst (ImportsOrStops c.args.charter.now c.args.rules.now c.args.rows.now) (sym same)
    (at_charter c.args.charter.now c.args.rules.now c.args.rows.now c.in_ok-first.first stop c.in_ok-first.ensures c.in_err-chartered.ensures)

pub returns-in_err-ruled : goal.returns-in_err-ruled
returns-in_err-ruled c =
    let stop = c.in_err-ruled.field-0.0 in
    let same : c.from_residual-in_err-ruled.result ≡ Err stop = search rules in
    subst (ImportsOrStops c.args.charter.now c.args.rules.now c.args.rows.now) (sym same)
    (at_rules c.args.charter.now c.args.rules.now c.args.rows.now c.in_ok-first.first c.in_ok-chartered.chartered stop c.in_ok-first.ensures c.in_ok-chartered.ensures
    c.in_err-ruled.ensures)

pub returns : goal.returns
returns c =
    at_register c.args.charter.now c.args.rules.now c.args.rows.now c.in_ok-first.first c.in_ok-chartered.chartered c.in_ok-ruled.ruled c.with_rows.result
    c.in_ok-first.ensures c.in_ok-chartered.ensures c.in_ok-ruled.ensures c.with_rows.ensures
