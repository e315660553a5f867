-- How bytes are read as the text of a proof: as the proof that they spell, or as the first faulty line and its lowest kind of fault. Builds
-- on ProofText and on the readings of pools and bundles. The reader of proofs and the commands use it.
use Rattle.std.specs.Prelude.{ℕ, ◌+◌, ◌==◌, nat_lt, if◌then◌else◌, Bool, true, not, ◌&&◌, ◌||◌, List, [], ◌∷◌, ◌++◌, bytes_eq, codes, length, ℤ, Option, Some, None, Result, Ok, Err, is_none}
use Rattle.define_pools.specs.Building.{lowest_kind}
use Rattle.define_pools.specs.Pool.{Pool}
use Rattle.define_lines.specs.Lines.{Fault, fields_of, pieces_of}
use Rattle.define_lines.specs.Numbers.{number_up_to, signed_up_to}
use Rattle.define_lines.specs.Reading.{Reader, read_lines}
use Rattle.define_bundles.specs.PoolReading as pools
use Rattle.define_bundles.specs.BundleReading as bundles
use Rattle.define_bundles.specs.BundleReading.{with_number}
use Rattle.define_bundles.specs.BundleText.{Bundle}
use Rattle.define_proofs.specs.Leaves.{Multiplier}
use Rattle.define_proofs.specs.ProofVerdict.{OfLottery, OfNoPanel, Proof}
use Rattle.define_proofs.specs.TreeLines.{OfLeaf, OfSplit, TreeLine}
use Rattle.define_proofs.specs.TreeRanges.{is_tree_line, greatest_constraint, number_limit}
use Rattle.define_proofs.specs.ProofText.{close_line, most_trees, none_line, proof_line, tree_line}

-- the progress of a proof's text, after lines without a fault
pub data Progress : Type 0 where
  -- before the first line
  Begun : Progress
  -- after the first line
  Opened : Progress
  -- in the bundle's lines, with the bundle's progress
  InBundle : (progress : bundles.Progress) → Progress
  -- in the pool's lines, with the pool's progress
  InPool : (progress : pools.Progress) → Progress
  -- after a pool and the line `none`
  WithoutPanel : (pool : Pool) → Progress
  -- after a bundle, the trees `whole`, the line that begins the next tree, and the lines `lines` of that tree
  InTrees : (bundle : Bundle) (whole : List (List TreeLine)) (lines : List TreeLine) → Progress
  -- after a pool, the line `none`, the line that begins its tree, and the lines `lines` of that tree
  InNoPanel : (pool : Pool) (lines : List TreeLine) → Progress
  -- after the last line
  Closed : (proof : Proof) → Progress

-- what a line inside a tree is: a node, the line that begins the next tree, the text's last line, or none of these
pub data LineInTree : Type 0 where
  OfNode : (node : TreeLine) → LineInTree
  NextTree : LineInTree
  TheClose : LineInTree
  Unknown : LineInTree

-- the multiplier of `number` and `factor`; None if either is missing
abbrev pub multiplier_of : Option ℕ → Option ℤ → Option Multiplier
multiplier_of (Some number) (Some factor) = Some (record { number = number; factor = factor })
multiplier_of _ _ = None

-- the multipliers that pairs of fields spell; None if a pair spells none or a single field is left
abbrev pub multipliers_of : List (List ℕ) → Option (List Multiplier)
multipliers_of [] = Some []
multipliers_of (number ∷ []) = None
multipliers_of (number ∷ factor ∷ fields) =
    with_number (multiplier_of (number_up_to greatest_constraint number) (signed_up_to number_limit factor)) (multipliers_of fields)

-- the node, if its numbers are in their ranges for a pool of `volunteers`; else Unknown
abbrev pub node_in_range : ℕ → TreeLine → LineInTree
node_in_range volunteers node = if is_tree_line volunteers node then OfNode node else Unknown

-- the line of a split on volunteer `i`; Unknown if the number is missing or out of range
abbrev pub split_of : ℕ → Option ℕ → LineInTree
split_of volunteers None = Unknown
split_of volunteers (Some i) = node_in_range volunteers (OfSplit i)

-- the line of a leaf; Unknown if a number is missing or out of range
abbrev pub leaf_of : ℕ → Option ℕ → Option (List Multiplier) → LineInTree
leaf_of volunteers (Some scale) (Some multipliers) = node_in_range volunteers (OfLeaf (record { scale = scale; multipliers = multipliers }))
leaf_of volunteers _ _ = Unknown

-- what a line is, by the fields after `split`, for a pool of `volunteers`
abbrev pub split_said : ℕ → List (List ℕ) → LineInTree
split_said volunteers (i ∷ []) = split_of volunteers (number_up_to volunteers i)
split_said volunteers _ = Unknown

-- what a line is, by the fields after `bound`, for a pool of `volunteers`
abbrev pub leaf_said : ℕ → List (List ℕ) → LineInTree
leaf_said volunteers [] = Unknown
leaf_said volunteers (scale ∷ fields) = leaf_of volunteers (number_up_to number_limit scale) (multipliers_of fields)

-- what a line with these fields is, for a pool of `volunteers`: a split, a leaf, or Unknown
abbrev pub node_said : ℕ → List (List ℕ) → LineInTree
node_said volunteers [] = Unknown
node_said volunteers (first ∷ fields) =
    (if bytes_eq first (codes "split") then split_said volunteers fields
    else if bytes_eq first (codes "bound") then leaf_said volunteers fields
    else Unknown)

-- what a line inside tree `number` is, if the last tree is tree `last`, for a pool of `volunteers`: a split or leaf; the line that begins
-- the next tree, if `number` is below `last` and `most_trees`; in the last tree the last line of the text; else Unknown
abbrev pub line_in_tree : ℕ → ℕ → ℕ → List ℕ → LineInTree
line_in_tree volunteers number last line =
    (if bytes_eq line close_line then (if number == last then TheClose else Unknown)
    else if bytes_eq line (tree_line (number + 1)) then (if nat_lt number last && nat_lt number (most_trees volunteers) then NextTree else Unknown)
    else node_said volunteers (fields_of line))

-- what a line is inside the tree that follows a bundle and the trees `whole`
abbrev pub said_in_trees : Bundle → List (List TreeLine) → List ℕ → LineInTree
said_in_trees bundle whole line = line_in_tree (length bundle.pool.volunteers) (length whole + 1) (length bundle.answer.stages) line

-- what a line is inside the tree of a pool without a quota panel
abbrev pub said_in_no_panel : Pool → List ℕ → LineInTree
said_in_no_panel pool line = line_in_tree (length pool.volunteers) 0 0 line

-- true if the line may be the first of a bundle
abbrev pub begins_bundle : List ℕ → Bool
begins_bundle line = is_none (bundles.line_kind bundles.Begun line)

-- true if the line may be the first of a pool
abbrev pub begins_pool : List ℕ → Bool
begins_pool line = is_none (pools.line_kind pools.Begun line)

-- the kinds of fault that a line of the bundle may have, given the bundle's progress. Kind 22: the line follows the bundle's end, and isn't
-- the first line of tree 1
abbrev pub bundle_kinds : bundles.Progress → List ℕ → List (ℕ × Bool)
bundle_kinds bundles.Begun line = bundles.line_kinds bundles.Begun line
bundle_kinds (bundles.InPool version progress) line = bundles.line_kinds (bundles.InPool version progress) line
bundle_kinds (bundles.InRows pool lottery) line = bundles.line_kinds (bundles.InRows pool lottery) line
bundle_kinds (bundles.InStages pool answer) line = bundles.line_kinds (bundles.InStages pool answer) line
bundle_kinds (bundles.Done bundle) line = (22, not (bytes_eq line (tree_line 1))) ∷ []

-- the kinds of fault that a line of the pool may have, given the pool's progress. Kind 22: the line follows the pool's end, and isn't
-- `none`
abbrev pub pool_kinds : pools.Progress → List ℕ → List (ℕ × Bool)
pool_kinds pools.Begun line = pools.line_kinds pools.Begun line
pool_kinds (pools.Versioned version) line = pools.line_kinds (pools.Versioned version) line
pool_kinds (pools.Inside pool passed) line = pools.line_kinds (pools.Inside pool passed) line
pool_kinds (pools.Ended pool) line = (22, not (bytes_eq line none_line)) ∷ []

-- the kinds of fault that a line inside a tree may have. Kind 22: the line isn't allowed there
abbrev pub tree_kinds : LineInTree → List (ℕ × Bool)
tree_kinds (OfNode node) = []
tree_kinds NextTree = []
tree_kinds TheClose = []
tree_kinds Unknown = (22, true) ∷ []

-- the kinds of fault that a line may have, in rising order, each with whether it applies, given the progress before the line. Kind 21: the
-- first line isn't that of a proof. Kind 22: the second line begins neither a bundle nor a pool, or the line after `none` doesn't begin
-- tree 0. Kind 23: a line follows the last one. For lines of bundles, pools and trees, see `bundle_kinds`, `pool_kinds` and `tree_kinds`
abbrev pub line_kinds : Progress → List ℕ → List (ℕ × Bool)
line_kinds Begun line = (21, not (bytes_eq line proof_line)) ∷ []
line_kinds Opened line = (22, not (begins_bundle line || begins_pool line)) ∷ []
line_kinds (InBundle progress) line = bundle_kinds progress line
line_kinds (InPool progress) line = pool_kinds progress line
line_kinds (WithoutPanel pool) line = (22, not (bytes_eq line (tree_line 0))) ∷ []
line_kinds (InTrees bundle whole lines) line = tree_kinds (said_in_trees bundle whole line)
line_kinds (InNoPanel pool lines) line = tree_kinds (said_in_no_panel pool line)
line_kinds (Closed proof) line = (23, true) ∷ []

-- the lowest kind of fault that a line has; None if it has no fault
abbrev pub line_kind : Progress → List ℕ → Option ℕ
line_kind progress line = lowest_kind (line_kinds progress line)

-- the progress after a line of the bundle without a fault, or after the line that begins the first tree
abbrev pub after_bundle : bundles.Progress → List ℕ → Progress
after_bundle bundles.Begun line = InBundle (bundles.after_line bundles.Begun line)
after_bundle (bundles.InPool version progress) line = InBundle (bundles.after_line (bundles.InPool version progress) line)
after_bundle (bundles.InRows pool lottery) line = InBundle (bundles.after_line (bundles.InRows pool lottery) line)
after_bundle (bundles.InStages pool answer) line = InBundle (bundles.after_line (bundles.InStages pool answer) line)
after_bundle (bundles.Done bundle) line = InTrees bundle [] []

-- the progress after a line of the pool without a fault, or after the line `none`
abbrev pub after_pool : pools.Progress → List ℕ → Progress
after_pool pools.Begun line = InPool (pools.after_line pools.Begun line)
after_pool (pools.Versioned version) line = InPool (pools.after_line (pools.Versioned version) line)
after_pool (pools.Inside pool passed) line = InPool (pools.after_line (pools.Inside pool passed) line)
after_pool (pools.Ended pool) line = WithoutPanel pool

-- the progress after a line without a fault in a tree of a bundle
abbrev pub after_tree : Bundle → List (List TreeLine) → List TreeLine → LineInTree → Progress
after_tree bundle whole lines (OfNode node) = InTrees bundle whole (lines ++ node ∷ [])
after_tree bundle whole lines NextTree = InTrees bundle (whole ++ lines ∷ []) []
after_tree bundle whole lines TheClose = Closed (OfLottery bundle.pool bundle.answer (whole ++ lines ∷ []))
after_tree bundle whole lines Unknown = InTrees bundle whole lines

-- the progress after a line without a fault in the tree of a pool without a quota panel
abbrev pub after_no_panel : Pool → List TreeLine → LineInTree → Progress
after_no_panel pool lines (OfNode node) = InNoPanel pool (lines ++ node ∷ [])
after_no_panel pool lines NextTree = InNoPanel pool lines
after_no_panel pool lines TheClose = Closed (OfNoPanel pool lines)
after_no_panel pool lines Unknown = InNoPanel pool lines

-- the progress after a line without a fault
abbrev pub after_line : Progress → List ℕ → Progress
after_line Begun line = Opened
after_line Opened line = if begins_bundle line then InBundle (bundles.after_line bundles.Begun line) else InPool (pools.after_line pools.Begun line)
after_line (InBundle progress) line = after_bundle progress line
after_line (InPool progress) line = after_pool progress line
after_line (WithoutPanel pool) line = InNoPanel pool []
after_line (InTrees bundle whole lines) line = after_tree bundle whole lines (said_in_trees bundle whole line)
after_line (InNoPanel pool lines) line = after_no_panel pool lines (said_in_no_panel pool line)
after_line (Closed proof) line = Closed proof

-- the kind of fault if the text ends at this progress: 12 inside the pool's lines, 17 elsewhere inside the bundle's lines, else 23, since
-- the last line `close` is missing. After `close`, 23 is the kind of fault of further bytes
abbrev pub missing_kind : Progress → ℕ
missing_kind Begun = 23
missing_kind Opened = 23
missing_kind (InBundle bundles.Begun) = 17
missing_kind (InBundle (bundles.InPool version progress)) = bundles.missing_kind (bundles.InPool version progress)
missing_kind (InBundle (bundles.InRows pool lottery)) = 17
missing_kind (InBundle (bundles.InStages pool answer)) = 17
missing_kind (InBundle (bundles.Done bundle)) = 23
missing_kind (InPool pools.Begun) = 12
missing_kind (InPool (pools.Versioned version)) = 12
missing_kind (InPool (pools.Inside pool passed)) = 12
missing_kind (InPool (pools.Ended pool)) = 23
missing_kind (WithoutPanel pool) = 23
missing_kind (InTrees bundle whole lines) = 23
missing_kind (InNoPanel pool lines) = 23
missing_kind (Closed proof) = 23

-- the proof, or the fault at the end of the text, given the bytes after the last LF. Bytes after the last line are a fault of kind 23
abbrev pub at_last : ℕ → Progress → List ℕ → Result Proof Fault
at_last number (Closed proof) [] = Ok proof
at_last number progress bytes = Err (record { line = number; kind = missing_kind progress })

-- how the text of a proof is read line by line
abbrev pub reader : Reader Progress Proof
reader = record { line_kind = line_kind; after_line = after_line; at_last = at_last }

-- the proof that the bytes spell, or their first fault
abbrev pub read_proof : List ℕ → Result Proof Fault
read_proof bytes = read_lines reader 1 Begun (pieces_of bytes)
