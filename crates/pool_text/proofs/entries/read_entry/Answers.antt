use Rattle.std.proofs.Common.{sym, ◌∙◌, subst}
use Rattle.pool_text.specs.Entries.{IsText}
use Rattle.pool_text.proofs.EntryLemmas.{kind_of_text, kind_of_no_text, line_says_text, says, is_right}
use Rattle.pool_text.proofs.entries.read_entry.Goals as goal

pub add_entry-requires-clause-text : goal.add_entry-requires-clause-text
add_entry-requires-clause-text c =
    let same = says _ _ _ c.args.line.now c.entry_of-entry.ensures c.deref.ensures.value c.in_ok-fields.ensures in
    subst IsText (sym same) (line_says_text c.args.line.now (sym c.is_text.ensures ∙ c.if-not-is_text.false))

pub returns-clause-kind : goal.returns-clause-kind
returns-clause-kind c =
    let same = says _ _ _ c.args.line.now c.entry_of-entry.ensures c.deref.ensures.value c.in_ok-fields.ensures in
    let none = is_right c.args.pool.now c.args.passed _ c.args.line.now c.entry_kind.result same c.entry_kind.ensures c.in_default.is in
    kind_of_text c.args.pool.now c.args.passed c.args.line.now none (sym c.is_text.ensures ∙ c.if-not-is_text.false)

pub returns-then-not-is_text-clause-kind : goal.returns-then-not-is_text-clause-kind
returns-then-not-is_text-clause-kind c =
    let same = says _ _ _ c.args.line.now c.entry_of-entry.ensures c.deref.ensures.value c.in_ok-fields.ensures in
    let none = is_right c.args.pool.now c.args.passed _ c.args.line.now c.entry_kind.result same c.entry_kind.ensures c.in_default.is in
    kind_of_no_text c.args.pool.now c.args.passed c.args.line.now none (sym c.is_text.ensures ∙ c.if-not-is_text.true)
