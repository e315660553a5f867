use Rattle.std.proofs.Common.{◌≡◌, Err, refl, rules, subst, sym}
use Rattle.std.specs.Prelude.{option_map}
use Rattle.define_offices.specs.Commands.{SetRules}
use Rattle.define_offices.specs.Deciding.{decide_rules}
use Rattle.office_steps.specs.Replies.{seen_reply}
use Rattle.office_tables.specs.Changes.{seen_change}
use Rattle.command_browser.specs.FirstPools.{DoesOrStops}
use Rattle.command_browser.proofs.Imports.{does_so, keeps_tables, says_both, stops_so}
use Rattle.command_browser.proofs.first_pools.with_rules.Goals as goal

pub changed-requires : goal.changed-requires
changed-requires c =
    let tables = c.args.tables.now in
    let command = SetRules c.args.rules.now in
    let outcome = decide_rules tables c.args.rules.now in
    let decided = c.in_ok-decided.decided in
    keeps_tables c.steps_keep_tables.ensures tables command outcome (option_map seen_change decided.0) (seen_reply decided.1) c.facts.ensures c.categories-categories.ensures.rules refl
    (says_both outcome decided c.in_ok-decided.ensures)

pub returns-in_err-decided : goal.returns-in_err-decided
returns-in_err-decided c =
    let tables = c.args.tables.now in
    let stop = c.in_err-decided.field-0.0 in
    let same : c.from_residual.result ≡ Err stop = search rules in
    subst (DoesOrStops tables (SetRules c.args.rules.now)) (sym same)
    (stops_so tables (SetRules c.args.rules.now) (decide_rules tables c.args.rules.now) stop refl c.in_err-decided.ensures)

pub returns : goal.returns
returns c =
    let tables = c.args.tables.now in
    let outcome = decide_rules tables c.args.rules.now in
    let decided = c.in_ok-decided.decided in
    does_so tables (SetRules c.args.rules.now) outcome (option_map seen_change decided.0) (seen_reply decided.1) c.in_ok-after.after refl
    (says_both outcome decided c.in_ok-decided.ensures) c.in_ok-after.ensures
