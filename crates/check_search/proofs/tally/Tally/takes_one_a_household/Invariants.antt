use Rattle.std.proofs.Common.{◌≡◌, true, take}
use Rattle.std.specs.List.{list_all}
use Rattle.define_searches.specs.Compositions.{takes_one_of}
use Rattle.check_search.proofs.tally.Tally.takes_one_a_household.Given as goal

abbrev pub invariant-loop-place : goal.invariant-loop-place
invariant-loop-place l = list_all (λ class. takes_one_of l.classes.classes l.front class.household) (take l.place l.classes.classes) ≡ true
