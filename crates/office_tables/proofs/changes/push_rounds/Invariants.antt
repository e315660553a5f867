use Rattle.std.proofs.Common.{◌≡◌, ◌++◌, take}
use Rattle.office_tables.proofs.changes.push_rounds.Given as goal

abbrev pub invariant-loop-round : goal.invariant-loop-round
invariant-loop-round l = l.all.items ≡ l.fn.all.items ++ take l.round-index l.added
