use Rattle.std.proofs.Common.{◌≡◌, ◌++◌, take}
use Rattle.office_tables.proofs.changes.push_entries.Given as goal

abbrev pub invariant-loop-entry : goal.invariant-loop-entry
invariant-loop-entry l = l.all.items ≡ l.fn.all.items ++ take l.entry-index l.added
