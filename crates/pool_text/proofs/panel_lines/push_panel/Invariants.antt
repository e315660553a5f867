use Rattle.std.proofs.Common.{◌≡◌, ◌++◌, codes, map, take}
use Rattle.define_pools.specs.Pool.{volunteer}
use Rattle.define_lines.specs.Lines.{tabbed}
use Rattle.pool_text.proofs.panel_lines.push_panel.Given as goal

-- `text` is the old text, then the word `panel`, then the ids of the members read so far
abbrev pub invariant-loop-number : goal.invariant-loop-number
invariant-loop-number l = l.text.items ≡ (l.fn.text.items ++ codes "panel") ++ tabbed (map (λ i. (volunteer l.pool.volunteers i).id) (take l.number-index l.number-items))
