-- What contracts see of a proof's parts and of a node: the proofs and tree lines of `define_proofs`. The contracts of this crate and
-- of those above cite `seen`.
use Rattle.define_proofs.specs.ProofVerdict as words
use Rattle.define_proofs.specs.TreeLines as lines
use Rattle.proof_text.specs.declared.proofs.Parts.{Parts}
use Rattle.proof_text.specs.declared.proofs.Parts.TheVariants.{Lottery, NoPanel}
use Rattle.proof_text.specs.declared.trees.Node.{Node}
use Rattle.proof_text.specs.declared.trees.Node.TheVariants.{Split, Leaf}

-- a node as contracts see it
abbrev pub seen_node : Node → lines.TreeLine
seen_node (Split i) = lines.OfSplit i
seen_node (Leaf leaf) = lines.OfLeaf leaf

-- the parts of a proof as contracts see them
abbrev pub seen : Parts → words.Proof
seen (Lottery bundle trees) = words.OfLottery bundle.pool bundle.answer trees.items
seen (NoPanel pool lines) = words.OfNoPanel pool lines
