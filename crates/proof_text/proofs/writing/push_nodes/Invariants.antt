use Rattle.std.proofs.Common.{◌≡◌, ◌++◌, map, take}
use Rattle.define_lines.specs.Lines.{text_of}
use Rattle.define_proofs.specs.ProofText.{node_line}
use Rattle.proof_text.proofs.writing.push_nodes.Given as goal

abbrev pub invariant-loop-line : goal.invariant-loop-line
invariant-loop-line l = l.text.items ≡ l.fn.text.items ++ text_of (map node_line (take l.line-index l.lines))
