use Rattle.std.proofs.Common.{◌≡◌, ℕ, true, List, map, take}
use Rattle.std.specs.BTreeSet.{contains_by}
use Rattle.std.specs.Cmp.Lexicographic.{slice_cmp}
use Rattle.std.specs.Ordering.{nat_cmp}
use Rattle.define_pools.specs.Lists.{all_different}
use Rattle.define_offices.specs.Tables.{Entry}
use Rattle.office_tables.proofs.Different.{came}
use Rattle.office_tables.proofs.checking.hashes_differ.Given as goal

-- the digests read so far all differ, and the set has exactly these
abbrev pub invariant-loop-entry : goal.invariant-loop-entry
invariant-loop-entry l = record {
  once : all_different (map (λ (entry : Entry). entry.hash) (take l.entry-index l.register)) ≡ true;
  kept : (xs : List ℕ) → contains_by (λ k. slice_cmp nat_cmp xs k.now) l.earlier ≡ came (λ (entry : Entry). entry.hash) (take l.entry-index l.register) xs;
}
