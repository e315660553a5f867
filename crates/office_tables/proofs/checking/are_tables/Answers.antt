use Rattle.std.proofs.Common.{◌∙◌, ap, sym}
use Rattle.std.proofs.lemmas.Bool.{false≢true}
use Rattle.std.proofs.lemmas.Result.{IfOk-weaker}
use Rattle.define_offices.specs.Facts.{closed_but_last}
use Rattle.define_offices.specs.Tables.{most_rows}
use Rattle.office_tables.specs.Seen.{register_test, seen_parts}
use Rattle.office_tables.proofs.FactsOfTables.{left_to_rounds, register_of_tables}
use Rattle.office_tables.proofs.checking.are_tables.Goals as goal

pub returns-then-not-branch : goal.returns-then-not-branch
returns-then-not-branch c =
    let parts = c.args.parts.now in
    let same = ap (register_test (most_rows parts.charter) parts.rules) (sym c.deref.ensures.value) ∙ (sym c.in_ok-is_register.ensures ∙ c.if-not-branch.true) in
    ((λ t. absurd (false≢true t)), (λ is. sym same ∙ register_of_tables (seen_parts parts) is))

pub returns-then-not-closed_but_last : goal.returns-then-not-closed_but_last
returns-then-not-closed_but_last c =
    let same = ap closed_but_last (sym c.deref-2.ensures.value) ∙ (sym c.closed_but_last.ensures ∙ c.if-not-closed_but_last.true) in
    ((λ t. absurd (false≢true t)), (λ is. sym same ∙ is.closed))

pub returns : goal.returns
returns c =
    let parts = c.args.parts.now in
    IfOk-weaker c.rounds_keep.result _ _
    (λ keep keeps.
    left_to_rounds (seen_parts parts) keep c.charter_and_rules_keep.ensures.charter c.charter_and_rules_keep.ensures.rules c.charter_and_rules_keep.ensures.bounds
    (ap (register_test (most_rows parts.charter) parts.rules) (sym c.deref.ensures.value) ∙ (sym c.in_ok-is_register.ensures ∙ c.if-not-branch.false))
    (ap closed_but_last (sym c.deref-2.ensures.value) ∙ (sym c.closed_but_last.ensures ∙ c.if-not-closed_but_last.false))
    keeps)
    c.rounds_keep.ensures
