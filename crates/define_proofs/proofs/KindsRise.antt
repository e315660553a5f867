-- The kinds of fault that a line of a proof's text may have are in rising order, so the first that applies is the lowest.
use Rattle.std.proofs.Common.{◌≡◌, ℕ, Bool, true, ltb, List, length, map, refl}
use Rattle.define_pools.specs.Lists.{is_increasing}
use Rattle.define_bundles.specs.PoolReading as pools
use Rattle.define_bundles.proofs.LowestKinds as pool_kinds
use Rattle.define_bundles.specs.declared.Version.{Version}
use Rattle.define_bundles.specs.BundleReading as bundles
use Rattle.define_proofs.specs.ProofReading.{Begun, Closed, InBundle, InNoPanel, InPool, InTrees, LineInTree, NextTree, OfNode, Opened, Progress, TheClose, Unknown, WithoutPanel, line_kinds, said_in_no_panel, said_in_trees, tree_kinds}

-- the numbers of the kinds are in rising order
abbrev Rise : List (ℕ × Bool) → Type 0
Rise kinds = is_increasing (map (λ kind. kind.0) kinds) ≡ true

pool_line : (version : Version) (progress : pools.Progress) (line : List ℕ) → Rise (bundles.pool_kinds version progress line)
pool_line version pools.Begun line = refl
pool_line version (pools.Versioned said) line = pool_kinds.line_kinds_rise (pools.Versioned said) line
pool_line version (pools.Inside pool passed) line = pool_kinds.line_kinds_rise (pools.Inside pool passed) line
pool_line version (pools.Ended pool) line = refl

row_line : (behind : Bool) (said : bundles.AnswerLine) → Rise (bundles.row_kinds behind said)
row_line behind (bundles.OfRow row) = refl
row_line behind (bundles.OfStage stage) = refl
row_line behind bundles.FaultyStage = refl
row_line behind bundles.TheDone = refl
row_line behind bundles.Unknown = refl

stage_line : (said : bundles.AnswerLine) → Rise (bundles.stage_kinds said)
stage_line (bundles.OfRow row) = refl
stage_line (bundles.OfStage stage) = refl
stage_line bundles.FaultyStage = refl
stage_line bundles.TheDone = refl
stage_line bundles.Unknown = refl

tree_line : (said : LineInTree) → Rise (tree_kinds said)
tree_line (OfNode node) = refl
tree_line NextTree = refl
tree_line TheClose = refl
tree_line Unknown = refl

pub line_kinds_rise : (progress : Progress) (line : List ℕ) → Rise (line_kinds progress line)
line_kinds_rise Begun line = refl
line_kinds_rise Opened line = refl
line_kinds_rise (InBundle bundles.Begun) line = refl
line_kinds_rise (InBundle (bundles.InPool version progress)) line = pool_line version progress line
line_kinds_rise (InBundle (bundles.InRows pool lottery)) line = row_line (ltb 0 (length lottery.rows)) (bundles.said_of pool line)
line_kinds_rise (InBundle (bundles.InStages pool answer)) line = stage_line (bundles.said_of pool line)
line_kinds_rise (InBundle (bundles.Done bundle)) line = refl
line_kinds_rise (InPool pools.Begun) line = refl
line_kinds_rise (InPool (pools.Versioned version)) line = pool_kinds.line_kinds_rise (pools.Versioned version) line
line_kinds_rise (InPool (pools.Inside pool passed)) line = pool_kinds.line_kinds_rise (pools.Inside pool passed) line
line_kinds_rise (InPool (pools.Ended pool)) line = refl
line_kinds_rise (WithoutPanel pool) line = refl
line_kinds_rise (InTrees bundle whole lines) line = tree_line (said_in_trees bundle whole line)
line_kinds_rise (InNoPanel pool lines) line = tree_line (said_in_no_panel pool line)
line_kinds_rise (Closed proof) line = refl
