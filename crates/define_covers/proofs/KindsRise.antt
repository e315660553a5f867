-- The kinds of fault that a line of a cover's text may have are in rising order, so the first that applies is the lowest.
use Rattle.std.proofs.Common.{◌≡◌, ℕ, Bool, true, List, map, refl}
use Rattle.define_pools.specs.Lists.{is_increasing}
use Rattle.define_bundles.specs.BundleReading as bundles
use Rattle.define_proofs.specs.ProofReading as proofs
use Rattle.define_proofs.proofs.KindsRise as proof_kinds
use Rattle.define_covers.specs.CoverReading.{Begun, Closed, InBundle, InTrees, LineInTree, NextTree, OfFront, Progress, TheClose, Unknown, line_kinds, said_in_tree, tree_kinds}

-- the numbers of the kinds are in rising order
abbrev Rise : List (ℕ × Bool) → Type 0
Rise kinds = is_increasing (map (λ kind. kind.0) kinds) ≡ true

tree_line : (said : LineInTree) → Rise (tree_kinds said)
tree_line (OfFront line) = refl
tree_line NextTree = refl
tree_line TheClose = refl
tree_line Unknown = refl

-- the bundle's lines have the kinds that they have in a proof
pub line_kinds_rise : (progress : Progress) (line : List ℕ) → Rise (line_kinds progress line)
line_kinds_rise Begun line = refl
line_kinds_rise (InBundle bundles.Begun) line = refl
line_kinds_rise (InBundle (bundles.InPool version progress)) line = proof_kinds.line_kinds_rise (proofs.InBundle (bundles.InPool version progress)) line
line_kinds_rise (InBundle (bundles.InRows pool lottery)) line = proof_kinds.line_kinds_rise (proofs.InBundle (bundles.InRows pool lottery)) line
line_kinds_rise (InBundle (bundles.InStages pool answer)) line = proof_kinds.line_kinds_rise (proofs.InBundle (bundles.InStages pool answer)) line
line_kinds_rise (InBundle (bundles.Done bundle)) line = refl
line_kinds_rise (InTrees bundle whole lines) line = tree_line (said_in_tree bundle whole line)
line_kinds_rise (Closed cover) line = refl
