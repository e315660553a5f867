-- If lines are read as a proof without a fault, they are the lines of this proof.
use Rattle.std.proofs.Common.{◌≡◌, ℕ, suc, ◌+◌, ◌<◌, Bool, true, false, not, cond, ◌||◌, List, [], ◌∷◌, ◌++◌, length, refl, sym, ◌∙◌, ap, subst, arith, append_assoc, length-append, Option, Some, None}
use Rattle.std.specs.Prelude.{bytes_eq, Ok, is_none}
use Rattle.std.specs.List.{list_all}
use Rattle.std.proofs.lemmas.Bool.{false≢true, le-leb, ltb-true, not-false}
use Rattle.std.proofs.lemmas.List.{append-nil, map-append}
use Rattle.define_pools.proofs.Each.{list_all-push}
use Rattle.define_pools.specs.Building.{lowest_kind}
use Rattle.define_pools.specs.declared.Limits.{Limits}
use Rattle.define_pools.specs.declared.Limits.TheVariants.{Usual, Large}
use Rattle.define_pools.specs.Pool.{IsPool, Pool, limits_for, most_volunteers}
use Rattle.define_pools.specs.Certificate.{Answer}
use Rattle.define_pools.proofs.BuildingLemmas.{no_kind}
use Rattle.define_lines.specs.Lines.{text_of}
use Rattle.define_lines.proofs.LineByLine as reading
use Rattle.define_lines.proofs.NumberLemmas.{bytes_are}
use Rattle.define_bundles.specs.PoolReading as pools
use Rattle.define_bundles.proofs.PoolSpelled as pool_read
use Rattle.define_bundles.specs.BundleReading as bundles
use Rattle.define_bundles.specs.BundleText.{Bundle, IsBundle, pool_lines}
use Rattle.define_bundles.proofs.Spelled as bundle_read
use Rattle.define_proofs.specs.ProofVerdict.{OfLottery, OfNoPanel, Proof}
use Rattle.define_proofs.specs.TreeLines.{TreeLine}
use Rattle.define_proofs.specs.TreeRanges.{is_tree_line}
use Rattle.define_proofs.specs.ProofText.{IsNoPanelProof, IsProof, bundle_lines, close_line, lines_before_close, most_trees, node_line, none_line, proof_line, proof_spelling, tree_line, tree_lines, trees_from}
use Rattle.define_proofs.specs.ProofReading.{Begun, Closed, InBundle, InNoPanel, InPool, InTrees, LineInTree, NextTree, OfNode, Opened, Progress, TheClose, Unknown, WithoutPanel, after_line, after_no_panel, after_tree, at_last, begins_bundle, begins_pool, line_kind, read_proof, said_in_no_panel, said_in_trees, tree_kinds, reader}
use Rattle.define_proofs.proofs.NodeLines.{IsSpelled, line_spelled}

-- all lines of the trees are in their ranges, for a pool of `volunteers`
abbrev pub keep_ranges : ℕ → List (List TreeLine) → Bool
keep_ranges volunteers trees = list_all (λ lines. list_all (is_tree_line volunteers) lines) trees

-- the bundle, the trees `whole` and the lines of the next tree are within their limits, and this tree's stage is one of the bundle's
pub record AreRightTrees (bundle : Bundle) (whole : List (List TreeLine)) (lines : List TreeLine) : Type 0 where
  pub is_bundle : IsBundle bundle
  pub one_left : length whole < length bundle.answer.stages
  pub few : length whole < most_trees (length bundle.pool.volunteers)
  pub whole_in_ranges : keep_ranges (length bundle.pool.volunteers) whole ≡ true
  pub in_ranges : list_all (is_tree_line (length bundle.pool.volunteers)) lines ≡ true

-- a progress is right: the bundle or the pool so far is right, and the trees so far, or the proof, are within their limits
abbrev pub IsRight : Progress → Type 0
IsRight Begun = Unit {0}
IsRight Opened = Unit {0}
IsRight (InBundle progress) = bundle_read.IsRight progress
IsRight (InPool progress) = pool_read.IsRight progress
IsRight (WithoutPanel pool) = IsPool pool
IsRight (InTrees bundle whole lines) = AreRightTrees bundle whole lines
IsRight (InNoPanel pool lines) = IsNoPanelProof pool lines
IsRight (Closed proof) = IsProof proof

-- the lines that led to a progress
abbrev pub lines_so_far : Progress → List (List ℕ)
lines_so_far Begun = []
lines_so_far Opened = proof_line ∷ []
lines_so_far (InBundle progress) = proof_line ∷ bundle_read.lines_so_far progress
lines_so_far (InPool progress) = proof_line ∷ pool_read.lines_so_far progress
lines_so_far (WithoutPanel pool) = proof_line ∷ (pool_lines pool ++ none_line ∷ [])
lines_so_far (InTrees bundle whole lines) = lines_before_close (OfLottery bundle.pool bundle.answer (whole ++ lines ∷ []))
lines_so_far (InNoPanel pool lines) = lines_before_close (OfNoPanel pool lines)
lines_so_far (Closed proof) = lines_before_close proof ++ close_line ∷ []

-- `after` is right, and its lines so far are those of `progress` and then `line`
abbrev Adds : Progress → List ℕ → Progress → Type 0
Adds progress line after = IsRight after × (lines_so_far after ≡ lines_so_far progress ++ line ∷ [])

-- ---- the lines of trees

-- appending a tree appends its lines to the lines of the trees
pub trees-push : (number : ℕ) (whole : List (List TreeLine)) (lines : List TreeLine) → trees_from number (whole ++ lines ∷ []) ≡ trees_from number whole ++ tree_lines (number + length whole) lines
trees-push number [] lines = let here : number ≡ number + 0 = omega arith in append-nil (tree_lines number lines) ∙ ap (λ n. tree_lines n lines) here
trees-push number (tree ∷ whole) lines =
    let next : (number + 1) + length whole ≡ number + suc (length whole) = omega arith in
    ap (λ rest. tree_lines number tree ++ rest) (trees-push (number + 1) whole lines ∙ ap (λ n. trees_from (number + 1) whole ++ tree_lines n lines) next)
    ∙ sym (append_assoc (tree_lines number tree) (trees_from (number + 1) whole) (tree_lines (number + suc (length whole)) lines))

-- appending a node appends its line to the lines of a tree
node-push : (number : ℕ) (lines : List TreeLine) (node : TreeLine) → tree_lines number (lines ++ node ∷ []) ≡ tree_lines number lines ++ node_line node ∷ []
node-push number lines node = ap (λ rest. tree_line number ∷ rest) (map-append node_line lines (node ∷ []))

-- appending a node to the last tree appends its line to the lines of the trees
node_in_last : (whole : List (List TreeLine)) (lines : List TreeLine) (node : TreeLine) → trees_from 1 (whole ++ (lines ++ node ∷ []) ∷ []) ≡ trees_from 1 (whole ++ lines ∷ []) ++ node_line node ∷ []
node_in_last whole lines node =
    let number = 1 + length whole in
    trees-push 1 whole (lines ++ node ∷ []) ∙ ap (λ rest. trees_from 1 whole ++ rest) (node-push number lines node)
    ∙ sym (append_assoc (trees_from 1 whole) (tree_lines number lines) (node_line node ∷ [])) ∙ ap (λ rest. rest ++ node_line node ∷ []) (sym (trees-push 1 whole lines))

-- appending a tree without nodes appends its first line to the lines of the trees
next_tree : (whole : List (List TreeLine)) (lines : List TreeLine) → trees_from 1 ((whole ++ lines ∷ []) ++ [] ∷ []) ≡ trees_from 1 (whole ++ lines ∷ []) ++ tree_line ((length whole + 1) + 1) ∷ []
next_tree whole lines =
    let many : 1 + length (whole ++ lines ∷ []) ≡ (length whole + 1) + 1 = omega (arith, length-append whole (lines ∷ [])) in
    trees-push 1 (whole ++ lines ∷ []) [] ∙ ap (λ n. trees_from 1 (whole ++ lines ∷ []) ++ tree_line n ∷ []) many

-- appending a line to those after a bundle appends it to the whole text's lines
behind_bundle : (pool : Pool) (answer : Answer) (before after : List (List ℕ)) (line : List ℕ) → after ≡ before ++ line ∷ [] →
    proof_line ∷ (bundle_lines pool answer ++ after) ≡ (proof_line ∷ (bundle_lines pool answer ++ before)) ++ line ∷ []
behind_bundle pool answer before after line e =
    ap (λ rest. proof_line ∷ (bundle_lines pool answer ++ rest)) e ∙ ap (λ rest. proof_line ∷ rest) (sym (append_assoc (bundle_lines pool answer) before (line ∷ [])))

-- ---- a line without a fault is added to the lines so far

-- a list has one kind of fault, which applies exactly if `test` is false. If no kind of the list applies, `test` is true
passed : (test : Bool) (kind : ℕ) → lowest_kind ((kind, not test) ∷ []) ≡ None → test ≡ true
passed test kind h = not-false test (no_kind (not test) kind None h).0

module _ (bundle : Bundle) (whole : List (List TreeLine)) (lines : List TreeLine) (right : AreRightTrees bundle whole lines) where
  abbrev n : ℕ
  n = length bundle.pool.volunteers

  abbrev before : List (List ℕ)
  before = trees_from 1 (whole ++ lines ∷ [])

  all_whole : keep_ranges n (whole ++ lines ∷ []) ≡ true
  all_whole = list_all-push (λ lines. list_all (is_tree_line n) lines) whole lines right.whole_in_ranges right.in_ranges

  tree_adds : (line : List ℕ) (said : LineInTree) → IsSpelled n (length whole + 1) (length bundle.answer.stages) line said → lowest_kind (tree_kinds said) ≡ None →
      Adds (InTrees bundle whole lines) line (after_tree bundle whole lines said)
  tree_adds line (OfNode node) spelled h = (
    record {
      is_bundle = right.is_bundle;
      one_left = right.one_left;
      few = right.few;
      whole_in_ranges = right.whole_in_ranges;
      in_ranges = list_all-push (is_tree_line n) lines node right.in_ranges spelled.1;
    },
    behind_bundle bundle.pool bundle.answer before (trees_from 1 (whole ++ (lines ++ node ∷ []) ∷ [])) line (node_in_last whole lines node ∙ ap (λ l. before ++ l ∷ []) (sym spelled.0)),
  )
  tree_adds line NextTree spelled h =
      let many = length-append whole (lines ∷ []) in
      let l = spelled.1 in let m = spelled.2 in (
        record {
          is_bundle = right.is_bundle;
          one_left = omega (arith, many, l);
          few = omega (arith, many, m);
          whole_in_ranges = all_whole;
          in_ranges = refl;
        },
        behind_bundle bundle.pool bundle.answer before (trees_from 1 ((whole ++ lines ∷ []) ++ [] ∷ [])) line (next_tree whole lines ∙ ap (λ l. before ++ l ∷ []) (sym spelled.0)),
      )
  tree_adds line TheClose spelled h =
      let many = length-append whole (lines ∷ []) in
      let e = spelled.1 in let few = right.few in
      let proof = OfLottery bundle.pool bundle.answer (whole ++ lines ∷ []) in (
        record {
          is_bundle = right.is_bundle;
          one_each = omega (arith, many, e);
          few_trees = le-leb (length (whole ++ lines ∷ [])) (most_trees n) (omega (arith, many, few));
          in_ranges = all_whole;
        },
        ap (λ l. lines_before_close proof ++ l ∷ []) (sym spelled.0),
      )
  tree_adds line Unknown spelled h = cc

no_panel_adds : (pool : Pool) (lines : List TreeLine) (line : List ℕ) (said : LineInTree) → IsNoPanelProof pool lines → IsSpelled (length pool.volunteers) 0 0 line said → lowest_kind (tree_kinds said) ≡ None →
    Adds (InNoPanel pool lines) line (after_no_panel pool lines said)
no_panel_adds pool lines line (OfNode node) right spelled h =
    let rest = none_line ∷ tree_lines 0 lines in (
      record { is_pool = right.is_pool; in_ranges = list_all-push (is_tree_line (length pool.volunteers)) lines node right.in_ranges spelled.1 },
      ap (λ tree. proof_line ∷ (pool_lines pool ++ (none_line ∷ tree))) (node-push 0 lines node ∙ ap (λ l. tree_lines 0 lines ++ l ∷ []) (sym spelled.0))
          ∙ ap (λ all. proof_line ∷ all) (sym (append_assoc (pool_lines pool) rest (line ∷ []))),
    )
no_panel_adds pool lines line NextTree right spelled h = let l = spelled.1 in absurd (omega arith)
no_panel_adds pool lines line TheClose right spelled h = (right, ap (λ l. lines_before_close (OfNoPanel pool lines) ++ l ∷ []) (sym spelled.0))
no_panel_adds pool lines line Unknown right spelled h = cc

-- a line of the bundle without a fault keeps the progress right and is added to the lines so far
within_bundle : (progress : bundles.Progress) (line : List ℕ) → bundle_read.IsRight progress → bundles.line_kind progress line ≡ None → Adds (InBundle progress) line (InBundle (bundles.after_line progress line))
within_bundle progress line right h = let step = bundle_read.line_adds progress line right h in (step.0, ap (λ lines. proof_line ∷ lines) step.1)

-- a proof may have a tree
some_tree : (volunteers : ℕ) → 0 < most_trees volunteers
some_tree volunteers = by (limits_for volunteers)
  where
    by : (limits : Limits) → 0 < most_volunteers limits
    by Usual = omega arith
    by Large = omega arith

bundle_adds : (progress : bundles.Progress) (line : List ℕ) → bundle_read.IsRight progress → line_kind (InBundle progress) line ≡ None → Adds (InBundle progress) line (after_line (InBundle progress) line)
bundle_adds bundles.Begun line right h = within_bundle bundles.Begun line right h
bundle_adds (bundles.InPool version progress) line right h = within_bundle (bundles.InPool version progress) line right h
bundle_adds (bundles.InRows pool lottery) line right h = within_bundle (bundles.InRows pool lottery) line right h
bundle_adds (bundles.InStages pool answer) line right h = within_bundle (bundles.InStages pool answer) line right h
bundle_adds (bundles.Done bundle) line right h =
    let same = bytes_are line (tree_line 1) (passed (bytes_eq line (tree_line 1)) 22 h) in
    let some = ltb-true 0 (length bundle.answer.stages) right.in_ranges.some_stage in (
      record { is_bundle = right; one_left = some; few = some_tree (length bundle.pool.volunteers); whole_in_ranges = refl; in_ranges = refl },
      ap (λ l. proof_line ∷ (bundle_lines bundle.pool bundle.answer ++ l ∷ [])) (sym same),
    )

-- a line of the pool without a fault keeps the progress right and is added to the lines so far
within_pool : (progress : pools.Progress) (line : List ℕ) → pool_read.IsRight progress → pools.line_kind progress line ≡ None → Adds (InPool progress) line (InPool (pools.after_line progress line))
within_pool progress line right h = let step = pool_read.line_adds progress line right h in (step.0, ap (λ lines. proof_line ∷ lines) step.1)

pool_adds : (progress : pools.Progress) (line : List ℕ) → pool_read.IsRight progress → line_kind (InPool progress) line ≡ None → Adds (InPool progress) line (after_line (InPool progress) line)
pool_adds pools.Begun line right h = within_pool pools.Begun line right h
pool_adds (pools.Versioned version) line right h = within_pool (pools.Versioned version) line right h
pool_adds (pools.Inside pool passed) line right h = within_pool (pools.Inside pool passed) line right h
pool_adds (pools.Ended pool) line right h =
    (right, ap (λ l. proof_line ∷ (pool_lines pool ++ l ∷ [])) (sym (bytes_are line none_line (passed (bytes_eq line none_line) 22 h))))

-- if `is_none` is true of a kind, it is None
none_is : (kind : Option ℕ) → is_none kind ≡ true → kind ≡ None
none_is None h = refl
none_is (Some kind) h = absurd (false≢true h)

-- a second line without a fault keeps the progress right and is added to the lines so far
opened_adds : (line : List ℕ) → line_kind Opened line ≡ None → Adds Opened line (after_line Opened line)
opened_adds line h = by (begins_bundle line) refl (passed (begins_bundle line || begins_pool line) 22 h)
  where
    by : (b : Bool) → begins_bundle line ≡ b → (b || begins_pool line) ≡ true → Adds Opened line (cond b (InBundle (bundles.after_line bundles.Begun line)) (InPool (pools.after_line pools.Begun line)))
    by true e some = within_bundle bundles.Begun line tt (none_is (bundles.line_kind bundles.Begun line) e)
    by false e some = within_pool pools.Begun line tt (none_is (pools.line_kind pools.Begun line) some)

-- a line without a fault keeps the progress right, and is added to the lines so far
pub line_adds : (progress : Progress) (line : List ℕ) → IsRight progress → line_kind progress line ≡ None → IsRight (after_line progress line) × (lines_so_far (after_line progress line) ≡ lines_so_far progress ++ line ∷ [])
line_adds Begun line right h = (tt, ap (λ l. l ∷ []) (sym (bytes_are line proof_line (passed (bytes_eq line proof_line) 21 h))))
line_adds Opened line right h = opened_adds line h
line_adds (InBundle progress) line right h = bundle_adds progress line right h
line_adds (InPool progress) line right h = pool_adds progress line right h
line_adds (WithoutPanel pool) line right h =
    let same = bytes_are line (tree_line 0) (passed (bytes_eq line (tree_line 0)) 22 h) in (
      record { is_pool = right; in_ranges = refl },
      ap (λ l. proof_line ∷ (pool_lines pool ++ (none_line ∷ l ∷ []))) (sym same) ∙ ap (λ all. proof_line ∷ all) (sym (append_assoc (pool_lines pool) (none_line ∷ []) (line ∷ []))),
    )
line_adds (InTrees bundle whole lines) line right h =
    tree_adds bundle whole lines right line (said_in_trees bundle whole line) (line_spelled (length bundle.pool.volunteers) (length whole + 1) (length bundle.answer.stages) line) h
line_adds (InNoPanel pool lines) line right h = no_panel_adds pool lines line (said_in_no_panel pool line) right (line_spelled (length pool.volunteers) 0 0 line) h
line_adds (Closed proof) line right h = cc

-- ---- the lines of a whole text

-- if `at_last` returns a proof, `IsProof` holds of it, and the lines so far and the last bytes are its spelling
last_is_spelled : (number : ℕ) (progress : Progress) (bytes : List ℕ) (proof : Proof) → IsRight progress → at_last number progress bytes ≡ Ok proof →
    IsProof proof × (text_of (lines_so_far progress) ++ bytes ≡ proof_spelling proof)
last_is_spelled number Begun bytes proof right h = cc
last_is_spelled number Opened bytes proof right h = cc
last_is_spelled number (InBundle progress) bytes proof right h = cc
last_is_spelled number (InPool progress) bytes proof right h = cc
last_is_spelled number (WithoutPanel pool) bytes proof right h = cc
last_is_spelled number (InTrees bundle whole lines) bytes proof right h = cc
last_is_spelled number (InNoPanel pool lines) bytes proof right h = cc
last_is_spelled number (Closed other) (byte ∷ bytes) proof right h = cc
last_is_spelled number (Closed other) [] proof right h =
    let same : other ≡ proof = cc in
    (subst IsProof same right, append-nil (proof_spelling other) ∙ ap proof_spelling same)

-- if bytes are read as a proof, they are its spelling
pub read_is_spelled : (bytes : List ℕ) (proof : Proof) → read_proof bytes ≡ Ok proof → IsProof proof × (bytes ≡ proof_spelling proof)
read_is_spelled bytes proof h = reading.read_is_spelled reader IsRight lines_so_far IsProof proof_spelling line_adds last_is_spelled 1 Begun tt refl bytes proof h
