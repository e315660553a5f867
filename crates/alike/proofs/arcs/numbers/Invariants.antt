use Rattle.std.proofs.Common.{◌≡◌, filter, slice_index_or, false}
use Rattle.std.specs.List.{range_with_len}
use Rattle.alike.proofs.arcs.numbers.Given as goal

abbrev pub invariant-loop-number : goal.invariant-loop-number
invariant-loop-number l = l.numbers.items ≡ filter (λ i. slice_index_or l.given i false) (range_with_len 0 l.number)
