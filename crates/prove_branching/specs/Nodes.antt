-- What a table has at a node of a search, and the stops of calls that neither run a table nor pass 2^62.
use Rattle.std.specs.Prelude.{ℕ, ◌<◌, List, length}
use Rattle.prove_limits.specs.Spans.{Ends}
use Rattle.prove_limits.specs.declared.stops.ProveStop.{ProveStop}
use Rattle.prove_limits.specs.declared.stops.ProveStop.TheVariants.{Wide, BeyondWidth, Spent, Lost, OutOfMemory}
use Rattle.prove_branching.specs.declared.nodes.AtNode.{AtNode}
use Rattle.prove_branching.specs.declared.nodes.AtNode.TheVariants.{Empty, Whole, Broken}
use Rattle.prove_branching.specs.Searches.{IsWithin}

-- a whole point lies in the spans of the columns, and a split is on one of the columns
abbrev pub IsAtNode : List Ends → AtNode → Type 0
IsAtNode spans Empty = Unit {0}
IsAtNode spans (Whole point) = IsWithin spans point.items
IsAtNode spans (Broken split) = split.column < length spans

-- the stop is `Lost`, since what the table gave can't be right, or `OutOfMemory`
abbrev pub IsLostOrMemory : ProveStop → Type 0
IsLostOrMemory (Wide pass) = ⊥
IsLostOrMemory BeyondWidth = ⊥
IsLostOrMemory (Spent limit) = ⊥
IsLostOrMemory Lost = Unit {0}
IsLostOrMemory OutOfMemory = Unit {0}
