use Rattle.std.proofs.Common.{◌≤◌, ℕ, leb, take}
use Rattle.std.specs.Prelude.{IsTrue}
use Rattle.std.specs.List.{list_all}
use Rattle.quota_conflicts.proofs.misses.greatest_weight.Given as goal

-- no weight read so far is above `greatest`, and `greatest` is the least number of at least 1 of which this holds
abbrev pub invariant-loop-it : goal.invariant-loop-it
invariant-loop-it l = record {
  light : IsTrue (list_all (λ it. leb it.weight l.greatest) (take l.it-index l.weighted));
  some : 1 ≤ l.greatest;
  least : (bound : ℕ) → 1 ≤ bound → IsTrue (list_all (λ it. leb it.weight bound) l.weighted) → l.greatest ≤ bound;
}
