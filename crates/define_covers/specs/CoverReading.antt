-- How bytes are read as the text of a cover: as the cover that they spell, or as the first faulty line and its lowest kind of fault. Builds
-- on CoverText and on the reading of bundles. `cover_text` reads this way.
use Rattle.std.specs.Prelude.{ℕ, ◌+◌, ◌-◌, ◌==◌, nat_lt, if◌then◌else◌, Bool, true, not, ◌&&◌, List, [], ◌∷◌, ◌++◌, bytes_eq, codes, length, Option, Some, None, Result, Ok, Err}
use Rattle.std.specs.Option.{option_map}
use Rattle.define_pools.specs.Building.{lowest_kind}
use Rattle.define_pools.specs.Pool.{Pool}
use Rattle.define_lines.specs.Lines.{Fault, fields_of, pieces_of}
use Rattle.define_lines.specs.Numbers.{number_up_to}
use Rattle.define_lines.specs.Reading.{Reader, read_lines}
use Rattle.define_bundles.specs.BundleReading as bundles
use Rattle.define_bundles.specs.BundleReading.{numbers_up_to}
use Rattle.define_bundles.specs.BundleText.{Bundle}
use Rattle.define_proofs.specs.ProofText.{close_line, tree_line}
use Rattle.define_covers.specs.Covers.{ByCap, ByClosed, ByHousehold, BySize, ByValue, Cause, Cover, FrontLine}
use Rattle.define_covers.specs.CoverRanges.{is_front_line, greatest_count, value_count}
use Rattle.define_covers.specs.CoverText.{cover_line, most_trees}

-- the progress of a cover's text, after lines without a fault
pub data Progress : Type 0 where
  -- before the first line
  Begun : Progress
  -- in the bundle's lines, with the bundle's progress
  InBundle : (progress : bundles.Progress) → Progress
  -- after a bundle, the trees `whole`, the line that begins the next tree, and the lines `lines` of that tree
  InTrees : (bundle : Bundle) (whole : List (List FrontLine)) (lines : List FrontLine) → Progress
  -- after the last line
  Closed : (cover : Cover) → Progress

-- what a line inside a tree is: a front, the line that begins the next tree, the text's last line, or none of these
pub data LineInTree : Type 0 where
  OfFront : (line : FrontLine) → LineInTree
  NextTree : LineInTree
  TheClose : LineInTree
  Unknown : LineInTree

-- the cause, if the field after its word is 0
abbrev pub unnumbered : Cause → List ℕ → Option Cause
unnumbered cause argument = if bytes_eq argument (codes "0") then Some cause else None

-- the cause with this word and the field after it, in the tree of stage `stage`; None if they are no cause's fields
abbrev pub cause_of : Pool → ℕ → List ℕ → List ℕ → Option Cause
cause_of pool stage word argument =
    (if bytes_eq word (codes "size") then unnumbered BySize argument
    else if bytes_eq word (codes "value") then option_map ByValue (number_up_to (value_count pool) argument)
    else if bytes_eq word (codes "house") then unnumbered ByHousehold argument
    else if bytes_eq word (codes "closed") then option_map ByClosed (number_up_to (stage - 1) argument)
    else if bytes_eq word (codes "cap") then unnumbered ByCap argument
    else None)

-- the front's line, if its numbers are in their ranges; else Unknown
abbrev pub front_in_range : Pool → ℕ → FrontLine → LineInTree
front_in_range pool stage line = if is_front_line pool stage line then OfFront line else Unknown

-- the line of a front with this cause and these counts; Unknown if the cause or a count is missing or out of range
abbrev pub front_of : Pool → ℕ → Option Cause → Option (List ℕ) → LineInTree
front_of pool stage (Some cause) (Some front) = front_in_range pool stage (record { front = front; cause = cause })
front_of pool stage _ _ = Unknown

-- what a line is, by the fields after `front`
abbrev pub front_said : Pool → ℕ → List (List ℕ) → LineInTree
front_said pool stage (word ∷ argument ∷ counts) = front_of pool stage (cause_of pool stage word argument) (numbers_up_to greatest_count counts)
front_said pool stage _ = Unknown

-- what a line with these fields is: a front, or Unknown
abbrev pub fields_said : Pool → ℕ → List (List ℕ) → LineInTree
fields_said pool stage [] = Unknown
fields_said pool stage (first ∷ fields) = if bytes_eq first (codes "front") then front_said pool stage fields else Unknown

-- what a line inside tree `number` is, if the last tree is tree `last`: the last line of the text, in the last tree; the line that begins
-- the next tree, if `number` is below `last` and `most_trees`; a front; else Unknown
abbrev pub line_in_tree : Pool → ℕ → ℕ → List ℕ → LineInTree
line_in_tree pool number last line =
    (if bytes_eq line close_line then (if number == last then TheClose else Unknown)
    else if bytes_eq line (tree_line (number + 1)) then (if nat_lt number last && nat_lt number most_trees then NextTree else Unknown)
    else fields_said pool number (fields_of line))

-- what a line is inside the tree that follows a bundle and the trees `whole`
abbrev pub said_in_tree : Bundle → List (List FrontLine) → List ℕ → LineInTree
said_in_tree bundle whole line = line_in_tree bundle.pool (length whole + 1) (length bundle.answer.stages) line

-- the kinds of fault that a line of the bundle may have. Kind 19: the line follows the bundle's end, and isn't the first line of tree 1
abbrev pub bundle_kinds : bundles.Progress → List ℕ → List (ℕ × Bool)
bundle_kinds bundles.Begun line = bundles.line_kinds bundles.Begun line
bundle_kinds (bundles.InPool version progress) line = bundles.line_kinds (bundles.InPool version progress) line
bundle_kinds (bundles.InRows pool lottery) line = bundles.line_kinds (bundles.InRows pool lottery) line
bundle_kinds (bundles.InStages pool answer) line = bundles.line_kinds (bundles.InStages pool answer) line
bundle_kinds (bundles.Done bundle) line = (19, not (bytes_eq line (tree_line 1))) ∷ []

-- the kinds of fault that a line inside a tree may have. Kind 19: the line isn't allowed there
abbrev pub tree_kinds : LineInTree → List (ℕ × Bool)
tree_kinds (OfFront line) = []
tree_kinds NextTree = []
tree_kinds TheClose = []
tree_kinds Unknown = (19, true) ∷ []

-- the kinds of fault that a line may have, in rising order, each with whether it applies, given the progress before the line. Kind 18: the
-- first line isn't that of a cover. Kind 20: a line follows the last one. For lines of bundles and trees, see `bundle_kinds` and
-- `tree_kinds`
abbrev pub line_kinds : Progress → List ℕ → List (ℕ × Bool)
line_kinds Begun line = (18, not (bytes_eq line cover_line)) ∷ []
line_kinds (InBundle progress) line = bundle_kinds progress line
line_kinds (InTrees bundle whole lines) line = tree_kinds (said_in_tree bundle whole line)
line_kinds (Closed cover) line = (20, true) ∷ []

-- the lowest kind of fault that a line has; None if it has no fault
abbrev pub line_kind : Progress → List ℕ → Option ℕ
line_kind progress line = lowest_kind (line_kinds progress line)

-- the progress after a line of the bundle without a fault, or after the line that begins the first tree
abbrev pub after_bundle : bundles.Progress → List ℕ → Progress
after_bundle bundles.Begun line = InBundle (bundles.after_line bundles.Begun line)
after_bundle (bundles.InPool version progress) line = InBundle (bundles.after_line (bundles.InPool version progress) line)
after_bundle (bundles.InRows pool lottery) line = InBundle (bundles.after_line (bundles.InRows pool lottery) line)
after_bundle (bundles.InStages pool answer) line = InBundle (bundles.after_line (bundles.InStages pool answer) line)
after_bundle (bundles.Done bundle) line = InTrees bundle [] []

-- the progress after a line without a fault in a tree
abbrev pub after_tree : Bundle → List (List FrontLine) → List FrontLine → LineInTree → Progress
after_tree bundle whole lines (OfFront line) = InTrees bundle whole (lines ++ line ∷ [])
after_tree bundle whole lines NextTree = InTrees bundle (whole ++ lines ∷ []) []
after_tree bundle whole lines TheClose = Closed (record { bundle = bundle; trees = whole ++ lines ∷ [] })
after_tree bundle whole lines Unknown = InTrees bundle whole lines

-- the progress after a line without a fault
abbrev pub after_line : Progress → List ℕ → Progress
after_line Begun line = InBundle bundles.Begun
after_line (InBundle progress) line = after_bundle progress line
after_line (InTrees bundle whole lines) line = after_tree bundle whole lines (said_in_tree bundle whole line)
after_line (Closed cover) line = Closed cover

-- the kind of fault if the text ends at this progress: the bundle's inside its lines, else 20, since the last line `close` is missing. After
-- `close`, 20 is the kind of fault of further bytes
abbrev pub missing_kind : Progress → ℕ
missing_kind Begun = 20
missing_kind (InBundle bundles.Begun) = bundles.missing_kind bundles.Begun
missing_kind (InBundle (bundles.InPool version progress)) = bundles.missing_kind (bundles.InPool version progress)
missing_kind (InBundle (bundles.InRows pool lottery)) = bundles.missing_kind (bundles.InRows pool lottery)
missing_kind (InBundle (bundles.InStages pool answer)) = bundles.missing_kind (bundles.InStages pool answer)
missing_kind (InBundle (bundles.Done bundle)) = 20
missing_kind (InTrees bundle whole lines) = 20
missing_kind (Closed cover) = 20

-- the cover, or the fault at the end of the text, given the bytes after the last LF. Bytes after the last line are a fault of kind 20
abbrev pub at_last : ℕ → Progress → List ℕ → Result Cover Fault
at_last number (Closed cover) [] = Ok cover
at_last number progress bytes = Err (record { line = number; kind = missing_kind progress })

-- how the text of a cover is read line by line
abbrev pub reader : Reader Progress Cover
reader = record { line_kind = line_kind; after_line = after_line; at_last = at_last }

-- the cover that the bytes spell, or their first fault
abbrev pub read_cover : List ℕ → Result Cover Fault
read_cover bytes = read_lines reader 1 Begun (pieces_of bytes)
