use Rattle.std.proofs.Common.{◌∙◌, sym, leb, length, ◌&&◌}
use Rattle.std.specs.List.{list_all}
use Rattle.std.proofs.lemmas.Result.{IfOk-weaker}
use Rattle.define_pools.specs.Lists.{all_different}
use Rattle.define_offices.specs.Facts.{entry_hashes, entry_ids, is_entry, rows_fit}
use Rattle.define_offices.specs.Tables.{most_rows}
use Rattle.office_tables.proofs.FactsOfTables.{by_hashes, without_ids, without_rows}
use Rattle.office_tables.proofs.checking.is_register.Goals as goal

pub returns-then-not-are_rows : goal.returns-then-not-are_rows
returns-then-not-are_rows c =
    let register = c.args.register.now in
    without_rows (leb (length register) (most_rows c.args.charter.now) && list_all is_entry register && rows_fit c.args.rules.now register) (all_different (entry_ids register)) (all_different (entry_hashes register))
    (sym c.are_rows.ensures ∙ c.if-not-are_rows.true)

pub returns-then-not-branch : goal.returns-then-not-branch
returns-then-not-branch c =
    let register = c.args.register.now in
    without_ids (leb (length register) (most_rows c.args.charter.now) && list_all is_entry register && rows_fit c.args.rules.now register) (all_different (entry_ids register)) (all_different (entry_hashes register))
    (sym c.in_ok-ids_differ.ensures ∙ c.if-not-branch.true)

pub returns : goal.returns
returns c =
    let register = c.args.register.now in
    IfOk-weaker c.hashes_differ.result _ _
    (λ differ is.
    is ∙ sym (by_hashes (leb (length register) (most_rows c.args.charter.now) && list_all is_entry register && rows_fit c.args.rules.now register) (all_different (entry_ids register)) (all_different (entry_hashes register))
    (sym c.are_rows.ensures ∙ c.if-not-are_rows.false) (sym c.in_ok-ids_differ.ensures ∙ c.if-not-branch.false)))
    c.hashes_differ.ensures
