use Rattle.std.proofs.Common.{◌≡◌, take}
use Rattle.std.specs.List.{flat_map}
use Rattle.panel_search.specs.Pieces.{live_children}
use Rattle.panel_search.proofs.dividing.next_fronts.Given as goal

-- `next` has the live children of the fronts so far
abbrev pub invariant-loop-front : goal.invariant-loop-front
invariant-loop-front l = l.next.items ≡ flat_map (live_children l.terms.classes.now l.terms.closed.now l.terms.row.now) (take l.front-index l.fronts)
