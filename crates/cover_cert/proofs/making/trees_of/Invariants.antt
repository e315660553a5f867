use Rattle.cover_cert.proofs.MadeTrees.{Grows}
use Rattle.cover_cert.proofs.making.trees_of.Given as goal

-- the first `k` stages have their trees
abbrev pub invariant-loop-k : goal.invariant-loop-k
invariant-loop-k l = Grows l.pool l.stages l.k l.trees.items
