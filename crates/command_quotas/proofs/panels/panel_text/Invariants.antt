use Rattle.std.proofs.Common.{◌≡◌, [], ◌∷◌, ◌++◌, codes, take}
use Rattle.std.specs.List.{flat_map}
use Rattle.command_meanings.specs.Why.{id_line}
use Rattle.command_quotas.proofs.panels.panel_text.Given as goal

-- `text` has the first line and the ids of the members read so far
abbrev pub invariant-loop-number : goal.invariant-loop-number
invariant-loop-number l = l.text.items ≡ codes "a panel exists" ++ 10 ∷ [] ++ flat_map (id_line l.pool) (take l.number-index l.number-items)
