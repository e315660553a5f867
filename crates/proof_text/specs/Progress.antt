-- What contracts see of the progress of a reading and of a line in a tree: the values of `define_proofs`.
use Rattle.define_proofs.specs.ProofVerdict.{OfLottery, OfNoPanel}
use Rattle.bundle_text.specs.Progress as bundles
use Rattle.pool_text.specs.Progress as pools
use Rattle.define_proofs.specs.ProofReading as words
use Rattle.define_proofs.specs.ProofText.{IsProof}
use Rattle.proof_text.specs.declared.lines.LineInTree.{LineInTree}
use Rattle.proof_text.specs.declared.lines.LineInTree.TheVariants.{Node, NextTree, Close, Unknown}
use Rattle.proof_text.specs.declared.progress.Progress.{Progress}
use Rattle.proof_text.specs.declared.progress.Progress.TheVariants.{Begun, Opened, InBundle, InPool, WithoutPanel, InTrees, InNoPanel, ClosedLottery, ClosedNoPanel}

-- a line in a tree as contracts see it
abbrev pub said : LineInTree → words.LineInTree
said (Node node) = words.OfNode node
said NextTree = words.NextTree
said Close = words.TheClose
said Unknown = words.Unknown

-- the progress of a reading as contracts see it
abbrev pub seen : Progress → words.Progress
seen Begun = words.Begun
seen Opened = words.Opened
seen (InBundle progress) = words.InBundle (bundles.seen progress)
seen (InPool progress) = words.InPool (pools.seen progress)
seen (WithoutPanel pool) = words.WithoutPanel pool
seen (InTrees pool answer whole lines) = words.InTrees (record { pool = pool; answer = answer }) whole.items lines
seen (InNoPanel pool lines) = words.InNoPanel pool lines
seen (ClosedLottery pool answer trees) = words.Closed (OfLottery pool answer trees.items)
seen (ClosedNoPanel pool lines) = words.Closed (OfNoPanel pool lines)

-- if the progress is closed, it holds a proof within its limits
abbrev pub IsClosedRight : words.Progress → Type 0
IsClosedRight words.Begun = Unit {0}
IsClosedRight words.Opened = Unit {0}
IsClosedRight (words.InBundle progress) = Unit {0}
IsClosedRight (words.InPool progress) = Unit {0}
IsClosedRight (words.WithoutPanel pool) = Unit {0}
IsClosedRight (words.InTrees bundle whole lines) = Unit {0}
IsClosedRight (words.InNoPanel pool lines) = Unit {0}
IsClosedRight (words.Closed proof) = IsProof proof
