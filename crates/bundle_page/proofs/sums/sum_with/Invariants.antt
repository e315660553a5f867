use Rattle.std.proofs.Common.{◌≡◌, ◌+◌, ◌*◌, ◌<◌, ◌≤◌, eqb, filter}
use Rattle.std.specs.List.{range_with_len, sum_by}
use Rattle.std.specs.Prelude.{slice_index}
use Rattle.define_pools.specs.Pool.{volunteer}
use Rattle.bundle_page.proofs.sums.sum_with.Given as goal

-- `sum` is the sum of the counts of those of the first `i` volunteers who have the value
abbrev pub invariant-loop-i : goal.invariant-loop-i
invariant-loop-i l = record {
  value : l.sum.whole * l.total + l.sum.rest
      ≡ sum_by (slice_index l.counts) (filter (λ i. eqb (slice_index (volunteer l.volunteers i).values l.place) l.value_place) (range_with_len 0 l.i));
  rest : l.sum.rest < l.total;
  few : l.sum.whole ≤ l.i;
}
