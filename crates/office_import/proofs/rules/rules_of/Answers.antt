use Rattle.std.proofs.Common.{◌≡◌, sym, subst, false, eqb, length, rules}
use Rattle.csv.specs.Records.{fields_of}
use Rattle.define_offices.specs.Facts.{AreRules}
use Rattle.define_imports.proofs.RightRules.{rows_give_rules}
use Rattle.office_import.proofs.rules.rules_of.Goals as goal

pub rules_from-requires : goal.rules_from-requires
rules_from-requires c =
    let rows = c.in-Some.rows.now in
    let some : eqb (length rows) 0 ≡ false = search rules in
    subst AreRules (sym c.deref.ensures.value) (rows_give_rules (fields_of c.in-Some.header.now) fields_of rows c.in_ok-drafts.drafts.items some c.in_ok-drafts.ensures.ok)
