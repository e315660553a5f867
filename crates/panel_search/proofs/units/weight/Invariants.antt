use Rattle.std.proofs.Common.{◌≡◌, take}
use Rattle.define_searches.specs.Compositions.{weight_in}
use Rattle.panel_search.proofs.units.weight.Given as goal

abbrev pub invariant-loop-place : goal.invariant-loop-place
invariant-loop-place l = l.weight ≡ weight_in l.entries (take l.place l.front)
