use Rattle.std.proofs.Common.{◌≡◌, Err, rules, subst, sym}
use Rattle.command_browser.specs.FirstPools.{ReadsFiles}
use Rattle.command_browser.proofs.Imports.{faulty_charter, faulty_register, faulty_rules}
use Rattle.command_browser.proofs.first_pools.read_files.Goals as goal

pub returns-in_err-its : goal.returns-in_err-its
returns-in_err-its c =
    let stop = c.in_err-its.field-0.0 in
    let same : c.from_residual.result ≡ Err stop = search rules in
    subst (ReadsFiles c.args.charter.now c.args.rules.now c.args.register.now) (sym same)
    (faulty_charter c.args.charter.now c.args.rules.now c.args.register.now stop c.in_err-its.ensures)

pub returns-in_err-categories : goal.returns-in_err-categories
returns-in_err-categories c =
    let stop = c.in_err-categories.field-0.0 in
    let same : c.from_residual-in_err-categories.result ≡ Err stop = search rules in
    subst (ReadsFiles c.args.charter.now c.args.rules.now c.args.register.now) (sym same)
    (faulty_rules c.args.charter.now c.args.rules.now c.args.register.now c.in_ok-its.its stop c.in_ok-its.ensures c.in_err-categories.ensures)

pub returns-in_err-rows : goal.returns-in_err-rows
returns-in_err-rows c =
    let stop = c.in_err-rows.field-0.0 in
    let same : c.from_residual-in_err-rows.result ≡ Err stop = search rules in
    subst (ReadsFiles c.args.charter.now c.args.rules.now c.args.register.now) (sym same)
    (faulty_register c.args.charter.now c.args.rules.now c.args.register.now c.in_ok-its.its c.in_ok-categories.categories stop c.in_ok-its.ensures
    c.in_ok-categories.ensures c.in_err-rows.ensures)

pub returns : goal.returns
returns c = record { charter_read = c.in_ok-its.ensures; rules_read = c.in_ok-categories.ensures; register_read = c.in_ok-rows.ensures }
