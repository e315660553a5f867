use Rattle.std.proofs.Common.{◌≡◌, length}
use Rattle.prove_branching.specs.Searches.{LieWithin}
use Rattle.prove_branching.proofs.nodes.whole_point.Given as goal

abbrev pub invariant-loop-i : goal.invariant-loop-i
invariant-loop-i l = record {
  count : length l.point.items ≡ l.i;
  inside : LieWithin l.root l.point.items l.i;
}
