-- Small texts of proofs, for the worked examples.
use Rattle.std.specs.Prelude.{ℕ, List, [], ◌∷◌, ◌++◌, codes, Result, Err}
use Rattle.define_bundles.specs.BundleText.{lines_before_done}
use Rattle.define_bundles.specs.WorkedExamples.{four_answer}
use Rattle.define_lines.specs.Lines.{Fault, line_of, text_of}
use Rattle.define_pools.specs.WorkedExamples.{four}
use Rattle.define_bundles.specs.declared.Version.TheVariants.{First}
use Rattle.define_bundles.specs.PoolText.{version_line}
use Rattle.define_proofs.specs.ProofVerdict.{Proof}
use Rattle.define_proofs.specs.TreeLines.{OfLeaf, TreeLine}
use Rattle.define_proofs.specs.WorkedTrees.{four_proof, four_trees, women_leaf}
use Rattle.define_proofs.specs.ProofReading.{read_proof}
use Rattle.define_proofs.specs.ProofText.{bundle_lines, close_line, lines_before_close, none_line, proof_line}

-- what the text of `lines` is read as
abbrev pub read_text : List (List ℕ) → Result Proof Fault
read_text lines = read_proof (text_of lines)

-- the fault of kind `kind` in line `line`
abbrev pub faulty : ℕ → ℕ → Result Proof Fault
faulty line kind = Err (record { line = line; kind = kind })

-- the lines of a proof of the answer for two women and two men, with the trees `trees`
abbrev pub whole : List (List TreeLine) → List (List ℕ)
whole trees = lines_before_close (four_proof trees) ++ close_line ∷ []

-- a first line with version 2
abbrev pub second_version : List (List ℕ)
second_version = line_of (codes "proof" ∷ codes "2" ∷ []) ∷ []

-- after the first line, a line that begins neither a bundle nor a pool
abbrev pub without_pool : List (List ℕ)
without_pool = proof_line ∷ none_line ∷ []

-- a proof whose pool has the size 0, which isn't allowed
abbrev pub without_size : List (List ℕ)
without_size = proof_line ∷ version_line First ∷ line_of (codes "size" ∷ codes "0" ∷ []) ∷ []

-- a proof that ends after the first line of its pool
abbrev pub without_end : List (List ℕ)
without_end = proof_line ∷ version_line First ∷ []

-- a proof whose bundle lacks its last line
abbrev pub without_done : List (List ℕ)
without_done = proof_line ∷ lines_before_done four four_answer

-- a proof of a bundle, without trees
abbrev pub without_tree : List (List ℕ)
without_tree = proof_line ∷ (bundle_lines four four_answer ++ close_line ∷ [])

-- a proof of two stages with one tree
abbrev pub one_tree : List (List ℕ)
one_tree = whole ((OfLeaf women_leaf ∷ []) ∷ [])

-- a proof of two stages with three trees
abbrev pub three_trees : List (List ℕ)
three_trees = whole (four_trees ++ (OfLeaf women_leaf ∷ []) ∷ [])
