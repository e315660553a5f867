use Rattle.std.proofs.Common.{◌≡◌, ◌+◌, ◌*◌, ◌<◌}
use Rattle.std.specs.Ordering.{nat_cmp}
use Rattle.frac128.proofs.compare_quotients.Given as goal

abbrev pub invariant-loop-a_quotient : goal.invariant-loop-a_quotient
invariant-loop-a_quotient l = record {
  ad_positive : 0 < l.ad;
  bd_positive : 0 < l.bd;
  answer : nat_cmp (l.an * l.bd) (l.bn * l.ad) ≡ nat_cmp (l.fn.an * l.fn.bd) (l.fn.bn * l.fn.ad);
}

abbrev pub decreases-loop-a_quotient : goal.decreases-loop-a_quotient
decreases-loop-a_quotient l = l.ad + l.bd
