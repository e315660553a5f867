use Rattle.std.proofs.Common.{◌≡◌, ◌++◌, ◌*◌, ◌/◌, map}
use Rattle.std.specs.List.{range_with_len}
use Rattle.alike.proofs.dials.push_marks.Given as goal

abbrev pub invariant-loop-number : goal.invariant-loop-number
invariant-loop-number l = l.cuts.items ≡ l.fn.cuts.items ++ map (λ j. j * l.places / l.size) (range_with_len 0 l.number)
