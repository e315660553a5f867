use Rattle.std.proofs.Common.{◌≡◌, ℕ, map, None, List, [], take}
use Rattle.std.specs.BTreeSet.{contains_by}
use Rattle.std.specs.Cmp.Lexicographic.{slice_cmp}
use Rattle.std.specs.Ordering.{nat_cmp}
use Rattle.define_checks.specs.Reasons.{first_repeated as first_again}
use Rattle.check_reasons.proofs.InOrder.{came}
use Rattle.check_reasons.proofs.lotteries.first_repeated.Given as goal

-- the set has the panels read so far, and none of them came twice
abbrev pub invariant-loop-row : goal.invariant-loop-row
invariant-loop-row l = record {
  once : first_again [] (map (λ row. row.panel) (take l.row-index l.rows)) ≡ None;
  kept : (xs : List ℕ) → contains_by (λ k. slice_cmp nat_cmp xs k.now) l.earlier ≡ came (λ row. row.panel) (take l.row-index l.rows) xs;
}
