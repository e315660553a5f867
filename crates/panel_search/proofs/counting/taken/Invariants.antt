use Rattle.std.proofs.Common.{◌≡◌, take}
use Rattle.define_searches.specs.Compositions.{taken_of}
use Rattle.panel_search.specs.Groups.{is_in_group}
use Rattle.panel_search.proofs.counting.taken.Given as goal

abbrev pub invariant-loop-place : goal.invariant-loop-place
invariant-loop-place l = l.taken ≡ taken_of (is_in_group l.group) l.classes.classes (take l.place l.front)
