use Rattle.std.proofs.Common.{◌≡◌, take}
use Rattle.define_searches.specs.Compositions.{weight_in}
use Rattle.check_search.proofs.weighing.weight_of.Given as goal

abbrev pub invariant-loop-place : goal.invariant-loop-place
invariant-loop-place l = l.weight ≡ weight_in l.row.a (take l.place l.front)
