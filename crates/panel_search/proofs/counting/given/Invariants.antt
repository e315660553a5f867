use Rattle.std.proofs.Common.{◌≡◌, ◌+◌, drop}
use Rattle.define_searches.specs.Fronts.{most_given}
use Rattle.panel_search.specs.Groups.{is_in_group}
use Rattle.panel_search.proofs.counting.given.Given as goal

abbrev pub invariant-loop-i : goal.invariant-loop-i
invariant-loop-i l =
    l.given + most_given (is_in_group l.group) (drop l.i l.classes.classes) ≡ most_given (is_in_group l.group) (drop l.place l.classes.classes)
