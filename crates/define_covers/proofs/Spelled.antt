-- If lines are read as a cover without a fault, they are the lines of this cover.
use Rattle.std.proofs.Common.{◌≡◌, ℕ, suc, ◌+◌, ◌<◌, Bool, true, not, List, [], ◌∷◌, ◌++◌, length, refl, sym, ◌∙◌, ap, subst, arith, append_assoc, length-append, None}
use Rattle.std.specs.Prelude.{bytes_eq, Ok}
use Rattle.std.specs.List.{list_all}
use Rattle.std.proofs.lemmas.Bool.{and_from, and_parts, le-leb, ltb-true, not-false}
use Rattle.std.proofs.lemmas.List.{append-nil, map-append}
use Rattle.define_pools.proofs.Each.{list_all-push}
use Rattle.define_pools.specs.Building.{lowest_kind}
use Rattle.define_pools.specs.Pool.{Pool}
use Rattle.define_pools.proofs.BuildingLemmas.{no_kind}
use Rattle.define_lines.specs.Lines.{text_of}
use Rattle.define_lines.proofs.LineByLine as reading
use Rattle.define_lines.proofs.NumberLemmas.{bytes_are}
use Rattle.define_bundles.specs.BundleReading as bundles
use Rattle.define_bundles.specs.BundleText.{Bundle, IsBundle}
use Rattle.define_bundles.proofs.Spelled as bundle_read
use Rattle.define_proofs.specs.ProofText.{bundle_lines, tree_line}
use Rattle.define_covers.specs.Covers.{Cover, FrontLine}
use Rattle.define_covers.specs.CoverRanges.{is_front_line}
use Rattle.define_covers.specs.CoverText.{IsCover, cover_line, cover_lines, cover_spelling, front_line, keep_ranges, lines_before_close, most_trees, tree_lines, trees_from}
use Rattle.define_covers.specs.CoverReading.{Begun, Closed, InBundle, InTrees, LineInTree, NextTree, OfFront, Progress, TheClose, Unknown, after_line, after_tree, at_last, line_kind, read_cover, reader, said_in_tree, tree_kinds}
use Rattle.define_covers.proofs.FrontLines.{IsSpelled, line_spelled}

-- the bundle, the trees `whole` and the lines of the next tree are within their limits, and this tree's stage is one of the bundle's
pub record AreRightTrees (bundle : Bundle) (whole : List (List FrontLine)) (lines : List FrontLine) : Type 0 where
  pub is_bundle : IsBundle bundle
  pub one_left : length whole < length bundle.answer.stages
  pub few : length whole < most_trees
  pub whole_in_ranges : keep_ranges bundle.pool 0 whole ≡ true
  pub in_ranges : list_all (is_front_line bundle.pool (length whole + 1)) lines ≡ true

-- a progress is right: the bundle so far is right, and the trees so far, or the cover, are within their limits
abbrev pub IsRight : Progress → Type 0
IsRight Begun = Unit {0}
IsRight (InBundle progress) = bundle_read.IsRight progress
IsRight (InTrees bundle whole lines) = AreRightTrees bundle whole lines
IsRight (Closed cover) = IsCover cover

-- the lines that led to a progress
abbrev pub lines_so_far : Progress → List (List ℕ)
lines_so_far Begun = []
lines_so_far (InBundle progress) = cover_line ∷ bundle_read.lines_so_far progress
lines_so_far (InTrees bundle whole lines) = lines_before_close bundle (whole ++ lines ∷ [])
lines_so_far (Closed cover) = cover_lines cover

-- `after` is right, and its lines so far are those of `progress` and then `line`
abbrev Adds : Progress → List ℕ → Progress → Type 0
Adds progress line after = IsRight after × (lines_so_far after ≡ lines_so_far progress ++ line ∷ [])

-- ---- the lines of trees

-- appending a tree appends its lines to the lines of the trees
pub trees-push : (number : ℕ) (whole : List (List FrontLine)) (lines : List FrontLine) → trees_from number (whole ++ lines ∷ []) ≡ trees_from number whole ++ tree_lines (number + length whole) lines
trees-push number [] lines = let here : number ≡ number + 0 = omega arith in append-nil (tree_lines number lines) ∙ ap (λ n. tree_lines n lines) here
trees-push number (tree ∷ whole) lines =
    let next : (number + 1) + length whole ≡ number + suc (length whole) = omega arith in
    ap (λ rest. tree_lines number tree ++ rest) (trees-push (number + 1) whole lines ∙ ap (λ n. trees_from (number + 1) whole ++ tree_lines n lines) next)
    ∙ sym (append_assoc (tree_lines number tree) (trees_from (number + 1) whole) (tree_lines (number + suc (length whole)) lines))

-- appending a front appends its line to the lines of a tree
front-push : (number : ℕ) (lines : List FrontLine) (front : FrontLine) → tree_lines number (lines ++ front ∷ []) ≡ tree_lines number lines ++ front_line front ∷ []
front-push number lines front = ap (λ rest. tree_line number ∷ rest) (map-append front_line lines (front ∷ []))

-- appending a front to the last tree appends its line to the lines of the trees
front_in_last : (whole : List (List FrontLine)) (lines : List FrontLine) (front : FrontLine) → trees_from 1 (whole ++ (lines ++ front ∷ []) ∷ []) ≡ trees_from 1 (whole ++ lines ∷ []) ++ front_line front ∷ []
front_in_last whole lines front =
    let number = 1 + length whole in
    trees-push 1 whole (lines ++ front ∷ []) ∙ ap (λ rest. trees_from 1 whole ++ rest) (front-push number lines front)
    ∙ sym (append_assoc (trees_from 1 whole) (tree_lines number lines) (front_line front ∷ [])) ∙ ap (λ rest. rest ++ front_line front ∷ []) (sym (trees-push 1 whole lines))

-- appending a tree without fronts appends its first line to the lines of the trees
next_tree : (whole : List (List FrontLine)) (lines : List FrontLine) → trees_from 1 ((whole ++ lines ∷ []) ++ [] ∷ []) ≡ trees_from 1 (whole ++ lines ∷ []) ++ tree_line ((length whole + 1) + 1) ∷ []
next_tree whole lines =
    let many : 1 + length (whole ++ lines ∷ []) ≡ (length whole + 1) + 1 = omega (arith, length-append whole (lines ∷ [])) in
    trees-push 1 (whole ++ lines ∷ []) [] ∙ ap (λ n. trees_from 1 (whole ++ lines ∷ []) ++ tree_line n ∷ []) many

-- appending a line to those after a bundle appends it to the whole text's lines
behind_bundle : (bundle : Bundle) (before after : List (List ℕ)) (line : List ℕ) → after ≡ before ++ line ∷ [] →
    cover_line ∷ (bundle_lines bundle.pool bundle.answer ++ after) ≡ (cover_line ∷ (bundle_lines bundle.pool bundle.answer ++ before)) ++ line ∷ []
behind_bundle bundle before after line e =
    let all = bundle_lines bundle.pool bundle.answer in
    ap (λ rest. cover_line ∷ (all ++ rest)) e ∙ ap (λ rest. cover_line ∷ rest) (sym (append_assoc all before (line ∷ [])))

-- if trees keep their ranges, and one more tree does, all of them do
ranges-push : (pool : Pool) (before : ℕ) (whole : List (List FrontLine)) (lines : List FrontLine) → keep_ranges pool before whole ≡ true → list_all (is_front_line pool ((before + length whole) + 1)) lines ≡ true →
    keep_ranges pool before (whole ++ lines ∷ []) ≡ true
ranges-push pool before [] lines h k =
    let here : (before + 0) + 1 ≡ before + 1 = omega arith in
    and_from (list_all (is_front_line pool (before + 1)) lines) true (subst (λ n. list_all (is_front_line pool n) lines ≡ true) here k) refl
ranges-push pool before (tree ∷ whole) lines h k =
    let first = list_all (is_front_line pool (before + 1)) tree in
    let parts = and_parts first (keep_ranges pool (before + 1) whole) h in
    let next : (before + suc (length whole)) + 1 ≡ ((before + 1) + length whole) + 1 = omega arith in
    and_from first (keep_ranges pool (before + 1) (whole ++ lines ∷ [])) parts.0
    (ranges-push pool (before + 1) whole lines parts.1 (subst (λ n. list_all (is_front_line pool n) lines ≡ true) next k))

-- ---- a line without a fault is added to the lines so far

-- a list has one kind of fault, which applies exactly if `test` is false. If no kind of the list applies, `test` is true
passed : (test : Bool) (kind : ℕ) → lowest_kind ((kind, not test) ∷ []) ≡ None → test ≡ true
passed test kind h = not-false test (no_kind (not test) kind None h).0

module _ (bundle : Bundle) (whole : List (List FrontLine)) (lines : List FrontLine) (right : AreRightTrees bundle whole lines) where
  abbrev before : List (List ℕ)
  before = trees_from 1 (whole ++ lines ∷ [])

  all_whole : keep_ranges bundle.pool 0 (whole ++ lines ∷ []) ≡ true
  all_whole =
      let here : length whole + 1 ≡ (0 + length whole) + 1 = omega arith in
      ranges-push bundle.pool 0 whole lines right.whole_in_ranges (subst (λ n. list_all (is_front_line bundle.pool n) lines ≡ true) here right.in_ranges)

  tree_adds : (line : List ℕ) (said : LineInTree) → IsSpelled bundle.pool (length whole + 1) (length bundle.answer.stages) line said → lowest_kind (tree_kinds said) ≡ None →
      Adds (InTrees bundle whole lines) line (after_tree bundle whole lines said)
  tree_adds line (OfFront front) spelled h = (
    record {
      is_bundle = right.is_bundle;
      one_left = right.one_left;
      few = right.few;
      whole_in_ranges = right.whole_in_ranges;
      in_ranges = list_all-push (is_front_line bundle.pool (length whole + 1)) lines front right.in_ranges spelled.1;
    },
    behind_bundle bundle before (trees_from 1 (whole ++ (lines ++ front ∷ []) ∷ [])) line (front_in_last whole lines front ∙ ap (λ l. before ++ l ∷ []) (sym spelled.0)),
  )
  tree_adds line NextTree spelled h =
      let many = length-append whole (lines ∷ []) in
      let l = spelled.1 in let m = spelled.2 in (
        record {
          is_bundle = right.is_bundle;
          one_left = omega (arith, many, l);
          few = omega (arith, many, m);
          whole_in_ranges = all_whole;
          in_ranges = refl;
        },
        behind_bundle bundle before (trees_from 1 ((whole ++ lines ∷ []) ++ [] ∷ [])) line (next_tree whole lines ∙ ap (λ l. before ++ l ∷ []) (sym spelled.0)),
      )
  tree_adds line TheClose spelled h =
      let many = length-append whole (lines ∷ []) in
      let e = spelled.1 in let few = right.few in (
        record {
          is_bundle = right.is_bundle;
          one_each = omega (arith, many, e);
          few_trees = le-leb (length (whole ++ lines ∷ [])) most_trees (omega (arith, many, few));
          in_ranges = all_whole;
        },
        ap (λ l. lines_before_close bundle (whole ++ lines ∷ []) ++ l ∷ []) (sym spelled.0),
      )
  tree_adds line Unknown spelled h = cc

-- a line of the bundle without a fault keeps the progress right and is added to the lines so far
within_bundle : (progress : bundles.Progress) (line : List ℕ) → bundle_read.IsRight progress → bundles.line_kind progress line ≡ None → Adds (InBundle progress) line (InBundle (bundles.after_line progress line))
within_bundle progress line right h = let step = bundle_read.line_adds progress line right h in (step.0, ap (λ lines. cover_line ∷ lines) step.1)

bundle_adds : (progress : bundles.Progress) (line : List ℕ) → bundle_read.IsRight progress → line_kind (InBundle progress) line ≡ None → Adds (InBundle progress) line (after_line (InBundle progress) line)
bundle_adds bundles.Begun line right h = within_bundle bundles.Begun line right h
bundle_adds (bundles.InPool version progress) line right h = within_bundle (bundles.InPool version progress) line right h
bundle_adds (bundles.InRows pool lottery) line right h = within_bundle (bundles.InRows pool lottery) line right h
bundle_adds (bundles.InStages pool answer) line right h = within_bundle (bundles.InStages pool answer) line right h
bundle_adds (bundles.Done bundle) line right h =
    let same = bytes_are line (tree_line 1) (passed (bytes_eq line (tree_line 1)) 19 h) in
    let some = ltb-true 0 (length bundle.answer.stages) right.in_ranges.some_stage in (
      record { is_bundle = right; one_left = some; few = omega arith; whole_in_ranges = refl; in_ranges = refl },
      ap (λ l. cover_line ∷ (bundle_lines bundle.pool bundle.answer ++ l ∷ [])) (sym same),
    )

-- a line without a fault keeps the progress right, and is added to the lines so far
pub line_adds : (progress : Progress) (line : List ℕ) → IsRight progress → line_kind progress line ≡ None → IsRight (after_line progress line) × (lines_so_far (after_line progress line) ≡ lines_so_far progress ++ line ∷ [])
line_adds Begun line right h = (tt, ap (λ l. l ∷ []) (sym (bytes_are line cover_line (passed (bytes_eq line cover_line) 18 h))))
line_adds (InBundle progress) line right h = bundle_adds progress line right h
line_adds (InTrees bundle whole lines) line right h =
    tree_adds bundle whole lines right line (said_in_tree bundle whole line) (line_spelled bundle.pool (length whole + 1) (length bundle.answer.stages) line) h
line_adds (Closed cover) line right h = cc

-- ---- the lines of a whole text

-- if `at_last` returns a cover, `IsCover` holds of it, and the lines so far and the last bytes are its spelling
last_is_spelled : (number : ℕ) (progress : Progress) (bytes : List ℕ) (cover : Cover) → IsRight progress → at_last number progress bytes ≡ Ok cover →
    IsCover cover × (text_of (lines_so_far progress) ++ bytes ≡ cover_spelling cover)
last_is_spelled number Begun bytes cover right h = cc
last_is_spelled number (InBundle progress) bytes cover right h = cc
last_is_spelled number (InTrees bundle whole lines) bytes cover right h = cc
last_is_spelled number (Closed other) (byte ∷ bytes) cover right h = cc
last_is_spelled number (Closed other) [] cover right h =
    let same : other ≡ cover = cc in
    (subst IsCover same right, append-nil (cover_spelling other) ∙ ap cover_spelling same)

-- if bytes are read as a cover, they are its spelling
pub read_is_spelled : (bytes : List ℕ) (cover : Cover) → read_cover bytes ≡ Ok cover → IsCover cover × (bytes ≡ cover_spelling cover)
read_is_spelled bytes cover h = reading.read_is_spelled reader IsRight lines_so_far IsCover cover_spelling line_adds last_is_spelled 1 Begun tt refl bytes cover h
