use Rattle.std.proofs.Common.{◌≡◌, Err, refl, rules, subst, sym}
use Rattle.std.specs.Prelude.{option_map}
use Rattle.define_offices.specs.Commands.{SetCharter}
use Rattle.define_offices.specs.Deciding.{decide_charter}
use Rattle.office_steps.specs.Replies.{seen_reply}
use Rattle.office_tables.specs.Changes.{seen_change}
use Rattle.command_browser.specs.FirstPools.{DoesOrStops}
use Rattle.command_browser.proofs.Imports.{does_so, keeps_tables, says_both, stops_so}
use Rattle.command_browser.proofs.first_pools.with_charter.Goals as goal

pub changed-requires : goal.changed-requires
changed-requires c =
    let tables = c.args.tables.now in
    let command = SetCharter c.args.charter.now in
    let outcome = decide_charter tables c.args.charter.now in
    let decided = c.in_ok-decided.decided in
    keeps_tables c.steps_keep_tables.ensures tables command outcome (option_map seen_change decided.0) (seen_reply decided.1) c.facts.ensures c.facts-2.ensures refl
    (says_both outcome decided c.in_ok-decided.ensures)

pub returns-in_err-decided : goal.returns-in_err-decided
returns-in_err-decided c =
    let tables = c.args.tables.now in
    let stop = c.in_err-decided.field-0.0 in
    let same : c.from_residual.result ≡ Err stop = search rules in
    subst (DoesOrStops tables (SetCharter c.args.charter.now)) (sym same)
    (stops_so tables (SetCharter c.args.charter.now) (decide_charter tables c.args.charter.now) stop refl c.in_err-decided.ensures)

pub returns : goal.returns
returns c =
    let tables = c.args.tables.now in
    let outcome = decide_charter tables c.args.charter.now in
    let decided = c.in_ok-decided.decided in
    does_so tables (SetCharter c.args.charter.now) outcome (option_map seen_change decided.0) (seen_reply decided.1) c.in_ok-after.after refl
    (says_both outcome decided c.in_ok-decided.ensures) c.in_ok-after.ensures
