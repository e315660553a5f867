use Rattle.std.proofs.Common.{◌≡◌, ◌<◌, vec_len}
use Rattle.std.specs.List.{All}
use Rattle.prove_branching.proofs.path.SearchPath.turn.Given as goal

abbrev pub invariant-back : goal.invariant-back
invariant-back l = record {
  columns : vec_len l.self-inside.spans ≡ l.fn.self;
  within : All (λ branch. branch.column < vec_len l.self-inside.spans) l.self-inside.branches.items;
}

abbrev pub decreases-back : goal.decreases-back
decreases-back l = vec_len l.self-inside.branches
