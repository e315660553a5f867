use Rattle.std.proofs.Common.{◌≡◌, ℕ, ◌<◌, false, true, length, map, get_or, take}
use Rattle.define_pools.specs.Lists.{includes}
use Rattle.check_reasons.specs.Households.{none_twice}
use Rattle.check_reasons.proofs.quotas.meets_none_twice.Given as goal

-- the households of the members read so far are marked, and none of them came twice
abbrev pub invariant-loop-i : goal.invariant-loop-i
invariant-loop-i l = record {
  once : none_twice (take l.i-index (map (λ i. get_or l.households i 0) l.members)) ≡ true;
  met : (h : ℕ) → h < length l.met → get_or l.met h false ≡ includes (take l.i-index (map (λ i. get_or l.households i 0) l.members)) h;
}
