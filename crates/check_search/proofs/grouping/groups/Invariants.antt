use Rattle.std.proofs.Common.{◌≡◌, map, take}
use Rattle.check_search.specs.Likeness.{is_alike}
use Rattle.define_searches.specs.Classes.{class_by}
use Rattle.check_search.proofs.grouping.groups.Given as goal

abbrev pub invariant-loop-leader : goal.invariant-loop-leader
invariant-loop-leader l = l.found.items ≡ map (class_by (is_alike l.likeness) l.likeness.pool.now) (take l.leader-index l.leaders)
