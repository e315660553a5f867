use Rattle.std.proofs.Common.{take}
use Rattle.std.specs.List.{AllByRecursion}
use Rattle.define_offices.specs.Facts.{KeepsRound}
use Rattle.office_tables.specs.Seen.{seen_parts}
use Rattle.office_tables.proofs.checking.rounds_keep.Given as goal

abbrev pub invariant-loop-round : goal.invariant-loop-round
invariant-loop-round l = AllByRecursion (KeepsRound (seen_parts l.parts)) (take l.round-index l.round-items)
